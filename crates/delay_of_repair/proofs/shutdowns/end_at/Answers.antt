use Rattle.std.proofs.Common.{sym, ◌∙◌, ap}
use Rattle.ldar_law.specs.Delays as law
use Rattle.delay_of_repair.proofs.StopLemmas.{known_end, unknown_end}
use Rattle.delay_of_repair.proofs.shutdowns.end_at.Goals as goal

pub returns-in-Some : goal.returns-in-Some
returns-in-Some c = record {
  value = ap Rattle.ldar_law.specs.declared.delay.Until.Until.Date c.end_of.ensures.value
      ∙ sym (known_end c.args.attempts.now (law.stops_after c.args.detected c.args.stops.now) c.args.place c.in-Some.stop
      (sym c.stop_after.ensures.value ∙ c.in-Some.is));
}

pub returns-in-None : goal.returns-in-None
returns-in-None c = record {
  value = sym (unknown_end c.args.attempts.now (law.stops_after c.args.detected c.args.stops.now) c.args.place (sym c.stop_after.ensures.value ∙ c.in-None.is));
}
