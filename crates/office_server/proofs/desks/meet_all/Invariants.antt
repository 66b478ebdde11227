use Rattle.std.proofs.Common.{◌≡◌, List, ◌++◌}
use Rattle.std.specs.List.{AllByRecursion}
use Rattle.office_server.specs.Fronts.{DeskState}
use Rattle.office_server.specs.Together.{Together, HasOwn}
use Rattle.office_server.proofs.desks.meet_all.Given as goal

-- the passes that were taken out have met
abbrev pub invariant-loop-desk : goal.invariant-loop-desk
invariant-loop-desk g l =
    (met : List DeskState) × (l.fn.desks.items ≡ l.desks.items ++ met) × AllByRecursion (HasOwn l.room) l.desks.items
    × Together l.room l.whole met

abbrev pub decreases-loop-desk : goal.decreases-loop-desk
decreases-loop-desk g l = goal.left-loop-desk g l
