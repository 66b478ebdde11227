-- How a summary of open leaks, and the next attempt, relate to a list of events.
use Rattle.std.specs.Prelude.{◌≡◌, ℕ, ◌+◌, ◌<◌, ◌≤◌, Bool, false, not, ◌&&◌, ◌||◌, nat_eq, nat_le, IfSome, List, [], ◌∷◌, take, drop}
use Rattle.std.specs.List.{AllByRecursion, list_any}
use Rattle.ldar_days.specs.Calendar.{month_of}
use Rattle.fact_kinds.specs.declared.class.Kind.{Kind}
use Rattle.ldar_law.specs.declared.event.Event.{Event}
use Rattle.ldar_law.specs.declared.event.Happening.{Happening}
use Rattle.ldar_law.specs.declared.numbers.TheConstants.{REPAIR_DAYS}
use Rattle.ldar_law.specs.Happenings.{is_leak, is_look, is_sensor, is_below, is_attempt}
use Rattle.ldar_law.specs.Settling.{has_delay_between, is_settled}
use Rattle.ldar_law.specs.Spans.{attempt_after}
use Rattle.leak_tags.specs.declared.leaks.Leaks.{Leaks}
use Rattle.leak_tags.specs.declared.next_attempt.NextAttempt.{NextAttempt}
use Rattle.leak_tags.specs.declared.open_leaks.OpenLeaks.{OpenLeaks}
use Rattle.leak_tags.specs.OpenLeaks.{reaches, misses, is_second, is_reading}

-- some event passes, seen with those after it
abbrev pub some_after : (Event → List Event → Bool) → List Event → Bool
some_after p [] = false
some_after p (e ∷ after) = p e after || some_after p after

-- some event passes and no leak follows it
abbrev pub since_leak : (Event → Bool) → List Event → Bool
since_leak p events = some_after (λ e after. p e && not (list_any (λ x. is_leak x.what) after)) events

-- some unsettled leak of a kind passes, by whether it is delayed and by its day
abbrev pub some_open : Kind → (Happening → Bool) → List Event → (Bool → ℕ → Bool) → Bool
some_open kind is_sort events p =
    some_after (λ e after. (is_leak e.what && is_sort e.what) && not (is_settled kind e after) && p (has_delay_between e after) e.key.day) events

-- the summary of the leaks of one kind: whether some are delayed, and which of the others a delay of today or later reaches
pub record Told (some : (Bool → ℕ → Bool) → Bool) (leaks : Leaks) (today : ℕ) : Type 0 where
  pub delayed : some (λ late _. late) ≡ leaks.delayed
  pub reached : (day : ℕ) → today ≤ day → some (λ late from. not late && nat_le day (from + REPAIR_DAYS)) ≡ reaches leaks.waiting day
  pub missed : (day : ℕ) → today ≤ day → some (λ late from. not late && not (nat_le day (from + REPAIR_DAYS))) ≡ misses leaks.waiting day
  pub in_order : IfSome leaks.waiting (λ days. (days.first ≤ days.last) × (days.last ≤ today))

-- the summary of the leaks of the events up to today
pub record Tells (kind : Kind) (leaks : OpenLeaks) (today : ℕ) (events : List Event) : Type 0 where
  pub readings : Told (some_open kind is_reading events) leaks.readings today
  pub drips : Told (some_open kind is_look events) leaks.drips today
  pub sensors : Told (some_open kind is_sensor events) leaks.sensors today
  pub attempted : since_leak (λ e. is_attempt e.what) events ≡ leaks.attempted
  pub below : (month : ℕ) → month_of today ≤ month
      → since_leak (λ e. is_below e.what && nat_eq (month_of e.key.day + 1) month) events ≡ is_second leaks.below month
  pub months : leaks.below.last ≤ month_of today
  pub apart : AllByRecursion (λ e. (is_leak e.what && is_below e.what) ≡ false) events

-- the days do not decrease, from a day on, and no reading is both a leak and below the leak definition
abbrev pub Rises : ℕ → List Event → Type 0
Rises low [] = Unit {0}
Rises low (e ∷ after) = (low ≤ e.key.day) × ((is_leak e.what && is_below e.what) ≡ false) × Rises e.key.day after

-- the open leaks of the events before a place
pub record IsAt (kind : Kind) (leaks : OpenLeaks) (events : List Event) (place : ℕ) : Type 0 where
  pub today : ℕ
  pub tells : Tells kind leaks today (take place events)
  pub rises : Rises today (drop place events)

-- the next attempt is the first one after each place from `from` to before the end of the search
abbrev pub IsNext : NextAttempt → List Event → ℕ → Type 0
IsNext next events from = (k : ℕ) → from ≤ k → k < next.end → attempt_after (drop k events) ≡ next.day
