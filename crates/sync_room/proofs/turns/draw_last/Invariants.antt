use Rattle.std.proofs.Common.{◌≡◌, ◌-◌}
use Rattle.sync_room.proofs.Lasts.{IsBetween}
use Rattle.sync_room.proofs.turns.draw_last.Given as goal

-- the seat is free, and has seen as many calls as were served
abbrev pub invariant-loop-served : goal.invariant-loop-served
invariant-loop-served g l = (l.seat.table_id ≡ l.fn.seat.table_id) × IsBetween l.fn.seat.me.0 l.seat.me l.served

abbrev pub decreases-loop-served : goal.decreases-loop-served
decreases-loop-served g l = 18446744073709551615 - l.served
