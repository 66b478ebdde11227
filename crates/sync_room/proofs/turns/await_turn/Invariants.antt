use Rattle.std.proofs.Common.{◌≡◌, []}
use Rattle.sync_room.specs.Rule.{waits, SeesMore}
use Rattle.sync_room.proofs.turns.await_turn.Given as goal

abbrev pub invariant-loop : goal.invariant-loop
invariant-loop g l =
    (l.seat.table_id ≡ l.fn.seat.table_id) × (l.seat.id ≡ l.fn.seat.id) × (l.seat.me.0.stage ≡ waits l.ticket) × (l.seat.me.1 ≡ []) × SeesMore l.fn.seat.me.0 l.seat.me.0
