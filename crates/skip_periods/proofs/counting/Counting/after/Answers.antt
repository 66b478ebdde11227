use Rattle.std.proofs.Common.{ap, ◌∙◌}
use Rattle.skip_periods.specs.Seen.{counts_class}
use Rattle.skip_periods.proofs.counting.Counting.after.Goals as goal

pub returns-clause-value : goal.returns-clause-value
returns-clause-value c = record {
  within = c.requires.within;
  counts = λ judged number entered.
      let within = c.after-under.ensures.within judged number entered in
      c.is_counted_of.ensures.value ∙ ap (counts_class c.args.equipment.now) (c.after-under.ensures.value.class judged within.0 within.1);
  before = c.quarter_at.ensures.before;
  next = c.quarter_at.ensures.value;
}
