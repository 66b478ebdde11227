use Rattle.std.proofs.Common.{◌≡◌, [], ◌∷◌, ◌++◌, length, refl, sym, ap, subst, ◌∙◌, arith}
use Rattle.ldar_session.specs.Speech.{AreInFront, IsGroup}
use Rattle.ldar_session.proofs.ItemLemmas.{asked_alone, group_of, one_in_front}
use Rattle.ldar_session.proofs.group.group_from.Goals as goal

-- a request that shares no frame is passed on by itself
pub returns-then-is_alone : goal.returns-then-is_alone
returns-then-is_alone g c =
    let first = c.args.first in
    let items : c.push.new.self.items ≡ first.request ∷ [] =
    c.in_ok-push.ensures.items ∙ ap (λ l. l ++ first.request ∷ []) c.in_ok-requests.ensures.items in
    record {
      value = subst (λ l. IsGroup g.P.Protocol.speech c.args.bytes.now c.args.most l first.closing first.used) (sym items)
          (asked_alone g.P.Protocol.speech c.args.bytes.now c.args.most first c.requires.some c.requires.first (c.if-is_alone.ensures.value.0 refl));
    }

-- the first request is at the front
pub add_others-requires-clause-in_front : goal.add_others-requires-clause-in_front
add_others-requires-clause-in_front g c =
    let first = c.args.first in
    let items : c.push.new.self.items ≡ first.request ∷ [] =
    c.in_ok-push.ensures.items ∙ ap (λ l. l ++ first.request ∷ []) c.in_ok-requests.ensures.items in
    subst (λ l. AreInFront g.P.Protocol.speech c.args.bytes.now l first.closing first.used) (sym items)
    (one_in_front g.P.Protocol.speech c.args.bytes.now first c.requires.first)

-- the others are passed on with it
pub returns : goal.returns
returns g c =
    let first = c.args.first in
    let items : c.push.new.self.items ≡ first.request ∷ [] =
    c.in_ok-push.ensures.items ∙ ap (λ l. l ++ first.request ∷ []) c.in_ok-requests.ensures.items in
    let group = c.add_others.new.group in
    let added = c.in_ok-add_others.ensures in record {
      value = group_of g.P.Protocol.speech c.args.bytes.now c.args.most group.requests.items group.closing group.used added.in_front
          (omega (arith, added.grows, ap length items)) added.fits added.each added.full;
    }
