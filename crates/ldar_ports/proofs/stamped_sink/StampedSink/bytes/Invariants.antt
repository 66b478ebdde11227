use Rattle.std.proofs.Common.{◌≡◌, take}
use Rattle.ldar_ports.specs.Sink.{bytes_of}
use Rattle.ldar_ports.proofs.stamped_sink.StampedSink.bytes.Given as goal

-- the bytes of the pieces so far
abbrev pub invariant-loop-piece : goal.invariant-loop-piece
invariant-loop-piece l = l.bytes.items ≡ bytes_of (take l.piece-index l.piece-items)
