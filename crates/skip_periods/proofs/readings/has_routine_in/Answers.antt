use Rattle.std.proofs.Common.{◌∙◌, ◌&&◌}
use Rattle.ldar_law.specs.Happenings as happenings
use Rattle.skip_periods.proofs.ReadingLemmas.{found_where_any}
use Rattle.skip_periods.proofs.readings.has_routine_in.Goals as goal

pub returns : goal.returns
returns c =
    let a = c.args in
    record {
      value = c.some_routine_on.ensures.value
          ∙ found_where_any (λ e. happenings.is_routine e.what && happenings.is_from_to a.first a.last e) a.events.now;
    }
