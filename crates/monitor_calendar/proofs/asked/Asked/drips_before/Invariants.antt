use Rattle.std.proofs.Common.{take}
use Rattle.monitor_calendar.specs.Dripping.{TellsOfDrips}
use Rattle.monitor_calendar.proofs.asked.Asked.drips_before.Given as goal

abbrev pub invariant-loop-e : goal.invariant-loop-e
invariant-loop-e l = TellsOfDrips l.past (take l.e-index l.self.events.now)
