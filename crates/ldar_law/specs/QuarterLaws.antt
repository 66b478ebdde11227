-- Laws about percent leaking, skipped quarters and routes: the statements of `laws::quarters`.
use Rattle.std.specs.Prelude.{◌≡◌, count_by, ℕ, true, not, ◌&&◌, nat_le, is_none, List, ◌≤◌, Decides, length, take, nat_eq, filter}
use Rattle.std.specs.List.{list_any, list_all}
use Rattle.ldar_law.specs.declared.duty.Duty.{Duty}
use Rattle.ldar_law.specs.declared.tally.Mark.{Mark}
use Rattle.ldar_law.specs.Percent.{tally_of}
use Rattle.ldar_law.specs.Routes.{stops_in_order}
use Rattle.ldar_law.specs.Skips.{Past, good_streak}

-- the counts are the numbers of leaking and of monitored marks
abbrev pub TallyCounts : Type 0
TallyCounts =
    (marks : List Mark)
    → tally_of marks ≡ record { leaking = count_by (λ mark. mark.leaking) marks; monitored = count_by (λ mark. mark.monitored) marks }

-- the streak is at least n exactly if the last n quarters that were not skipped exist and are good
abbrev pub StreakIsOfGoodQuarters : Type 0
StreakIsOfGoodQuarters =
    (n : ℕ) (before : List Past)
    → Decides (nat_le n (good_streak before))
    ((n ≤ length (filter (λ past. not past.0) before))
    × (list_all (λ past. past.1) (take n (filter (λ past. not past.0) before)) ≡ true))

-- a component is a stop exactly if it has a duty that is not done
abbrev pub StopsAreUndone : Type 0
StopsAreUndone =
    (duties : List Duty) (component : ℕ)
    → list_any (λ stop. nat_eq stop component) (stops_in_order duties)
    ≡ list_any (λ d. is_none d.met && nat_eq d.component component) duties
