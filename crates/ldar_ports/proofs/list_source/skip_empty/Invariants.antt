use Rattle.std.proofs.Common.{◌≡◌, length}
use Rattle.ldar_ports.specs.ListSource.{from_first}
use Rattle.ldar_ports.proofs.list_source.skip_empty.Given as goal

-- the first piece that is not empty stays
abbrev pub invariant-loop-pieces : goal.invariant-loop-pieces
invariant-loop-pieces l = from_first l.pieces.items ≡ from_first l.fn.pieces.items

abbrev pub decreases-loop-pieces : goal.decreases-loop-pieces
decreases-loop-pieces l = length l.pieces.items
