use Rattle.std.proofs.Common.{length, ap, arith}
use Rattle.ldar_journal.proofs.Frames.{length-payload}
use Rattle.ldar_journal.proofs.prepared.prepare.Goals as goal

pub overflow_cast-len : goal.overflow_cast-len
overflow_cast-len c =
    let long = length-payload c.args.batches.now c.in_ok-payload.ensures.each in
    omega (arith, ap length c.in_ok-payload.ensures.value, c.requires.fits, c.in_ok-payload.payload.ok.0)
