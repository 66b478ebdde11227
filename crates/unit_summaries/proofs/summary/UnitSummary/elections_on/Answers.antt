use Rattle.std.proofs.Common.{filter, nat_le, sym, ap, ◌∙◌}
use Rattle.history_laws.proofs.RegisterUpTo.{units_up_to_a_day}
use Rattle.history_laws.proofs.UpTo.{ascending_are_in_order}
use Rattle.unit_summaries.proofs.summary.UnitSummary.elections_on.Goals as goal

pub returns : goal.returns
returns c =
    let day = c.args.day in
    record {
      value = λ facts number says up.
          c.elections_to.ensures.value
          ∙ ap (filter (λ election. nat_le election.key.day day)) (c.as_slice.ensures.value ∙ says.elections)
          ∙ sym (units_up_to_a_day day number facts (ascending_are_in_order facts up)).elections;
    }
