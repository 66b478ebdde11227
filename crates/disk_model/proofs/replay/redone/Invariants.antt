use Rattle.std.proofs.Common.{◌≡◌, take, reverse}
use Rattle.disk_model.specs.MemoryDisk.{bytes_after}
use Rattle.disk_model.proofs.replay.redone.Given as goal

-- the bytes after the calls repeated so far
abbrev pub invariant-loop-noted : goal.invariant-loop-noted
invariant-loop-noted l = l.bytes.items ≡ bytes_after l.start (reverse (take l.noted-index l.past))
