use Rattle.std.proofs.Common.{◌∙◌, arith}
use Rattle.pump_seals.proofs.SealedLemmas.{sealed_by, sealed_never}
use Rattle.pump_seals.proofs.on_duty.is_sealed.Goals as goal

pub returns-then-count-eq0 : goal.returns-then-count-eq0
returns-then-count-eq0 c =
    record { value = sealed_never c.args.switches.now c.args.day c.count_to-count.result c.if-count-eq0.true c.count_to-count.ensures.value }

pub returns : goal.returns
returns c =
    let count = c.count_to-count in
    record {
      value = c.is_on.ensures.value
          ∙ sealed_by c.args.switches.now c.args.day count.result c.index-switches-count.result (omega arith) count.ensures.within count.ensures.value;
    }
