use Rattle.std.proofs.Common.{arith}
use Rattle.ldar_journal.proofs.FrameLemmas.{payload_stands}
use Rattle.ldar_journal.proofs.frame.payload_at.Goals as goal

pub returns : goal.returns
returns c =
    payload_stands c.args.bytes.now c.split_at.result.1.now c.split_at-2.result.0.now c.from_be_bytes-len.result (omega arith) (omega arith)
    (λ i. omega (arith, c.type_inv.bytes i))
    c.from_be_bytes-len.ensures c.split_at.ensures.back c.split_at-2.ensures.front (omega arith) (omega arith) (omega arith)
