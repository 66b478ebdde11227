use Rattle.std.proofs.Common.{◌∙◌}
use Rattle.office_book.specs.Safe.{moment_of}
use Rattle.sync_room.proofs.Waits.{turn_served, turn_waits}
use Rattle.sync_room.proofs.turns.await_turn.Goals as goal

pub returns-then-served-ticket-clause-turn : goal.returns-then-served-ticket-clause-turn
returns-then-served-ticket-clause-turn g c =
    turn_served (moment_of g.D.Disk.clock g.D.Disk.faults) _ _ _ _ _ c.loop.invariant.4 c.look_served-served.ensures.looks c.if-served-ticket.true

pub loop-preserved : goal.loop-preserved
loop-preserved g c =
    let on = turn_waits (moment_of g.D.Disk.clock g.D.Disk.faults) _ _ _ _ _ c.loop.invariant.4 c.look_served-served.ensures.looks c.if-served-ticket.false in
    let own = c.look_served-served.ensures.own in
    (own.0 ∙ c.loop.invariant.0, own.1 ∙ c.loop.invariant.1, on.0, on.1 ∙ c.loop.invariant.3, on.2)
