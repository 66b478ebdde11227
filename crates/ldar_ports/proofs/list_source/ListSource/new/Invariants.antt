use Rattle.std.proofs.Common.{◌≡◌, take, map}
use Rattle.ldar_ports.proofs.list_source.ListSource.new.Given as goal

-- the pieces so far are kept
abbrev pub invariant-loop-piece : goal.invariant-loop-piece
invariant-loop-piece l = l.rests.items ≡ map (λ piece. piece.items) (take l.piece-index l.pieces)
