use Rattle.std.proofs.Common.{take}
use Rattle.route_planner.specs.Visits.{visits_asked, AreEarliestDays}
use Rattle.route_planner.proofs.visits.least_days.Given as goal

abbrev pub invariant-loop-duty : goal.invariant-loop-duty
invariant-loop-duty l = AreEarliestDays l.days.items (visits_asked (take l.duty-index l.duties))
