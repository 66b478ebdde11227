-- Visits: how the planner sees duties.
use Rattle.std.specs.Prelude.{◌≡◌, ℕ, ◌+◌, ◌≤◌, Bool, nat_eq, nat_lt, is_none, if◌then◌else◌, Option, Some}
use Rattle.std.specs.Prelude.{None, List, [], ◌∷◌, ◌++◌, Contains, filter, map, length, slice_index_or}
use Rattle.std.specs.List.{AllByRecursion, list_any}
use Rattle.std.specs.Ordering.{is_lt, nat_cmp, then_cmp, on}
use Rattle.std.specs.declared.cmp.Ordering.{Ordering}
use Rattle.ldar_law.specs.declared.duty.Duty.{Duty}
use Rattle.ldar_law.specs.declared.route.Route.{Route}
use Rattle.route_planner.specs.declared.visits.TheConstants.{NUMBERS}

-- a visit to a component, due by a day
pub record Visit : Type 0 where
  pub due : ℕ
  pub component : ℕ

-- the visit that a duty requires
abbrev pub visit_of : Duty → Visit
visit_of duty = record { due = duty.due; component = duty.component }

-- the visits that unmet duties require
abbrev pub visits_asked : List Duty → List Visit
visits_asked duties = map visit_of (filter (λ d. is_none d.met) duties)

-- compares visits by due day, then by component
abbrev pub visit_cmp : Visit → Visit → Ordering
visit_cmp = then_cmp (on (λ v. v.due) nat_cmp) (on (λ v. v.component) nat_cmp)

-- the first visit is more urgent
abbrev pub goes_first : Visit → Visit → Bool
goes_first a b = is_lt (visit_cmp a b)

-- the stops, with the visit's component at the end if it is not among them
abbrev pub with_visit : List ℕ → Visit → List ℕ
with_visit stops visit = if list_any (λ stop. nat_eq stop visit.component) stops then stops else stops ++ visit.component ∷ []

-- the earlier of an optional day and another
abbrev pub earlier_of : Option ℕ → ℕ → ℕ
earlier_of None day = day
earlier_of (Some due) day = if nat_lt day due then day else due

-- the optional day exists and is not later than this one
abbrev pub IsBy : Option ℕ → ℕ → Type 0
IsBy None day = ⊥
IsBy (Some due) day = due ≤ day

-- place n of the days is the earliest due day of the visits to component n
pub record AreEarliestDays (days : List (Option ℕ)) (visits : List Visit) : Type 0 where
  pub size : length days ≡ NUMBERS
  pub least : AllByRecursion (λ v. IsBy (slice_index_or days v.component None) v.due) visits
  pub asked : (number due : ℕ) → slice_index_or days number None ≡ Some due → Contains visits (record { due = due; component = number })

-- the visits on these days, by component number
abbrev pub visits_from : ℕ → List (Option ℕ) → List Visit
visits_from number [] = []
visits_from number (None ∷ days) = visits_from (number + 1) days
visits_from number (Some due ∷ days) = record { due = due; component = number } ∷ visits_from (number + 1) days

-- the route through these components
abbrev pub route_through : List ℕ → Route
route_through part = record { stops = part }
