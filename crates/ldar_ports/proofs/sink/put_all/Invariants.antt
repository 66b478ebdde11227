use Rattle.std.proofs.Common.{◌≡◌, ◌≤◌, ◌++◌, List, length, All}
use Rattle.ldar_ports.specs.Sink.{Piece, Puts, bytes_of, IsStamped}
use Rattle.ldar_ports.proofs.sink.put_all.Given as goal

abbrev pub invariant-loop-rest : goal.invariant-loop-rest
invariant-loop-rest g l =
    ((put : List Piece)
    × Puts (g.K.Sink.pieces l.fn.sink) put (g.K.Sink.pieces l.sink)
    × (l.fn.bytes ≡ bytes_of put ++ l.rest)
    × All (IsStamped (g.D.Disk.clock l.beside)) put)
    × (g.K.Sink.faults l.fn.sink ≤ g.K.Sink.faults l.sink)

abbrev pub decreases-loop-rest : goal.decreases-loop-rest
decreases-loop-rest g l = length l.rest
