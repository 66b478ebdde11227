use Rattle.std.proofs.Common.{nat_le, false, ap, ◌∙◌}
use Rattle.std.specs.Option.{option_map_or}
use Rattle.ldar_days.specs.Calendar.{later_by}
use Rattle.method21_reading.proofs.ApartLemmas.{tested_by_last}
use Rattle.method21_reading.proofs.precision.is_tested.Goals as goal

pub returns : goal.returns
returns c =
    let facts = c.args.facts.now in
    let key = c.args.key.now in
    let count = c.count_earlier-count in
    record {
      value = c.is_recent.ensures.value
          ∙ ap (λ o. option_map_or (λ tested. nat_le key.day (later_by 3 tested)) o false) c.last_passed.ensures.value
          ∙ tested_by_last facts key c.args.instrument count.result c.requires.ordered count.ensures.bound count.ensures.partitioned;
    }
