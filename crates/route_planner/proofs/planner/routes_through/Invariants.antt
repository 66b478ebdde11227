use Rattle.std.proofs.Common.{◌≡◌, ◌++◌, map, length}
use Rattle.list_words.specs.Parts.{cut}
use Rattle.route_planner.specs.Visits.{route_through}
use Rattle.route_planner.proofs.planner.routes_through.Given as goal

abbrev pub invariant-loop-rest : goal.invariant-loop-rest
invariant-loop-rest l = map route_through (cut l.fn.stops l.fn.components) ≡ l.routes.items ++ map route_through (cut l.fn.stops l.rest)

abbrev pub decreases-loop-rest : goal.decreases-loop-rest
decreases-loop-rest l = length l.rest
