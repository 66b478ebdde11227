use Rattle.std.proofs.Common.{subst}
use Rattle.sync_room.specs.Passes.{Asked}
use Rattle.sync_room.proofs.Asking.{asked_grew, taken_is}
use Rattle.sync_room.proofs.seated.SeatedOffice.ask.Goals as goal

pub returns-clause-value : goal.returns-clause-value
returns-clause-value g c =
    let same = taken_is _ _ _ _ _ c.take.ensures.value c.in-Some.is c.self.view_is in
    asked_grew _ _ _ _ (subst (λ o. Asked o c.args.request.now c.ask-pass.result.1 c.ask-pass.result.0) same c.ask-pass.ensures.asked)
