use Rattle.std.proofs.Common.{◌≡◌, take}
use Rattle.ldar_ports.specs.ListSource.{joined}
use Rattle.ldar_ports.proofs.list_source.ListSource.bytes_left.Given as goal

-- the bytes of the pieces so far
abbrev pub invariant-loop-piece : goal.invariant-loop-piece
invariant-loop-piece l = l.bytes.items ≡ joined (take l.piece-index l.piece-items)
