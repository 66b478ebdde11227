use Rattle.std.proofs.Common.{◌≡◌, true, false, subst}
use Rattle.std.specs.List.Sorted.{IsPartitionPoint}
use Rattle.fact_kinds.specs.Facts.{is_earlier}
use Rattle.method21_reading.proofs.instrument.Instrument.calibrations_before.Goals as goal

pub returns-clause-partitioned : goal.returns-clause-partitioned
returns-clause-partitioned c =
    let key = c.args.key.now in
    subst (λ es. IsPartitionPoint (λ e. is_earlier e.0 key ≡ true) (λ e. is_earlier e.0 key ≡ false) es c.count_earlier.result)
    c.calibrations.ensures.value c.count_earlier.ensures.partitioned
