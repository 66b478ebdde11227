use Rattle.std.proofs.Common.{◌<◌, ◌∷◌, ◌++◌, [], length, take, refl, sym, ap, subst, ◌∙◌, arith}
use Rattle.std.proofs.lemmas.List.{take_all, take_more}
use Rattle.sync_room.specs.OwnCalls.{AskedAll}
use Rattle.sync_room.proofs.Asking.{asked_none, asked_next}
use Rattle.sync_room.proofs.seated.Seated.ask_each.Goals as goal

-- at first no request was asked
pub loop-request-init : goal.loop-request-init
loop-request-init g c = (asked_none c.args.self.now c.args.replies.now.items, omega arith, refl)

-- one request more
pub loop-request-preserved : goal.loop-request-preserved
loop-request-preserved g c =
    let so_far = c.loop-request.invariant in
    let requests = c.args.requests.now in
    let i = c.loop-request.request-index in
    let request = c.request-item.result in
    let within : i < length requests = omega (arith, c.loop-request-test.true) in
    let next = take_more requests i request within ∙ ap (λ x. take i requests ++ x ∷ []) (sym c.request-item.is) in (
      asked_next _ _ _ _ _ _ _ _ _ _ next c.push_reserved.ensures.items so_far.0 c.ask-reply.ensures.value c.ask-reply.ensures.ruled,
      omega (arith, c.push_reserved.ensures.len, so_far.1),
      c.push_reserved.ensures.capacity ∙ so_far.2,
    )

-- all requests were asked
pub returns : goal.returns
returns g c =
    let so_far = c.loop-request.invariant in
    let all = take_all c.loop-request.request-index c.args.requests.now c.loop-request-test.false in
    record { all = subst (λ l. AskedAll c.args.self.now l c.args.replies.now.items c.loop-request.replies.items c.loop-request.self) all so_far.0 }
