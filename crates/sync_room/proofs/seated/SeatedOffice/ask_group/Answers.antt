use Rattle.std.proofs.Common.{subst}
use Rattle.sync_room.specs.OwnCalls.{AskedAll}
use Rattle.sync_room.proofs.Asking.{asked_group}
use Rattle.sync_room.proofs.seated.SeatedOffice.ask_group.Goals as goal

pub returns-clause-value : goal.returns-clause-value
returns-clause-value g c =
    asked_group _ _ _ _ _
    (subst (λ before. AskedAll c.args.self.now c.args.requests.now before c.ask_each.new.replies.items c.ask_each.new.self) c.in_ok-reserve.ensures.items c.ask_each.ensures.all)
