use Rattle.std.proofs.Common.{filter, nat_le, sym, ap, ◌∙◌}
use Rattle.history_laws.proofs.RegisterUpTo.{units_up_to_a_day}
use Rattle.history_laws.proofs.UpTo.{ascending_are_in_order}
use Rattle.unit_summaries.proofs.summary.UnitSummary.stops_on.Goals as goal

pub returns : goal.returns
returns c =
    let day = c.args.day in
    record {
      value = λ facts number says up.
          c.stops_to.ensures.value
          ∙ ap (filter (λ stop. nat_le stop.first day)) (c.as_slice.ensures.value ∙ ap (λ u. u.stops) says.of_unit)
          ∙ sym (units_up_to_a_day day number facts (ascending_are_in_order facts up)).stops;
    }
