use Rattle.std.proofs.Common.{◌+◌, ◌≤◌, ◌<◌, arith}
use Rattle.ldar_journal.proofs.FrameLemmas.{wanted_enough}
use Rattle.ldar_journal.proofs.frame.bytes_wanted.Goals as goal

pub returns-clause-enough : goal.returns-clause-enough
returns-clause-enough c = λ long more rest within none.
    wanted_enough c.args.bytes.now more rest c.from_be_bytes-len.result _ long (λ i. omega (arith, c.type_inv.bytes i)) c.from_be_bytes-len.ensures
    (omega arith)
    (λ small. omega (arith, c.min.ensures)) within none
