use Rattle.std.proofs.Common.{sym, ◌∙◌}
use Rattle.touched_readings.proofs.BatchLemmas.{leaves_behind}
use Rattle.touched_readings.proofs.windows.rest_of.Goals as goal

pub returns-then-begins_in : goal.returns-then-begins_in
returns-then-begins_in c = record {
  value = leaves_behind c.args.window.now c.in-Some.done c.args.done.now c.plus_days-rest.result c.in-Some.is
      (sym c.begins_in.ensures.value ∙ c.if-begins_in.true) c.begins_in.ensures.in_range c.plus_days-rest.ensures.value;
}
