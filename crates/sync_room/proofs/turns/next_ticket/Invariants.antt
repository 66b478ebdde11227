use Rattle.std.proofs.Common.{◌≡◌, ℕ, []}
use Rattle.sync_room.specs.Rule.{after_count}
use Rattle.sync_room.proofs.turns.next_ticket.Given as goal

-- nothing was drawn: the seat may have found how many tickets are drawn
abbrev pub invariant-loop : goal.invariant-loop
invariant-loop g l = (l.seat.table_id ≡ l.fn.seat.table_id) × (l.seat.id ≡ l.fn.seat.id) × ((drawn : ℕ) × (l.seat.me ≡ (after_count l.fn.seat.me.0 drawn, [])))
