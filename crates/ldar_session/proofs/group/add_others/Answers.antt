use Rattle.std.proofs.Common.{◌≡◌, ◌+◌, ◌-◌, inr, List, ℕ, [], ◌∷◌, ◌++◌, length, take, drop, sym, ap, subst, length-append, length-drop, arith}
use Rattle.std.specs.List.{AllByRecursion}
use Rattle.std.proofs.lemmas.List.{take_all}
use Rattle.list_words.proofs.Members.{all_append}
use Rattle.office_interface.specs.Asking.{IsFromHandheld}
use Rattle.ldar_session.specs.Speech.{AreInFront, IsQuestion, NoneJoins}
use Rattle.ldar_session.proofs.ItemLemmas.{one_more_in_front}
use Rattle.ldar_session.proofs.group.add_others.Goals as goal

-- no other joins
pub returns-in_default-clause-full : goal.returns-in_default-clause-full
returns-in_default-clause-full g c =
    let bytes = c.args.bytes.now in
    let used = c.others.group.used in
    let rest : take (length bytes - used) (drop used bytes) ≡ drop used bytes =
    take_all (length bytes - used) (drop used bytes) (omega (arith, length-drop used bytes)) in
    let none = rw c.in_default.is at c.in_ok-other.ensures.none in
    inr (inr (subst (NoneJoins g.P.Protocol.speech) rest none))

-- the batch found is at the front after the others
pub others-preserved : goal.others-preserved
others-preserved g c =
    let p = g.P.Protocol.speech in
    let so_far = c.others.invariant in
    let bytes = c.args.bytes.now in
    let old = c.others.group.requests.items in
    let used = c.others.group.used in
    let other = c.in-Some.other in
    let found = rw c.in-Some.is at c.in_ok-other.ensures.found in
    let joins = rw c.in-Some.is at c.in_ok-other.ensures.joins in
    let items : c.push.new.self.items ≡ old ++ other.request ∷ [] = c.in_ok-push.ensures.items in
    let len : length c.push.new.self.items ≡ length old + 1 = omega (arith, ap length items, length-append old (other.request ∷ [])) in
    let rest : take (length bytes - used) (drop used bytes) ≡ drop used bytes =
    take_all (length bytes - used) (drop used bytes) (omega (arith, length-drop used bytes)) in
    let is = subst (λ (l : List ℕ). IsQuestion p l other) rest found in
    let in_front = subst (λ b. AreInFront p bytes old b used) c.if-group.false so_far.0 in (
      subst (λ l. AreInFront p bytes l other.closing (used + other.used)) (sym items) (one_more_in_front p bytes old used other in_front is),
      omega (arith, len, c.others-test.true, c.len.ensures, c.others.group.requests.ok),
      subst (AllByRecursion IsFromHandheld) (sym items) (all_append IsFromHandheld old (other.request ∷ []) so_far.2 (joins, tt)),
      omega (arith, len, so_far.3),
    )
