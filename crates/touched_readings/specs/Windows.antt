-- Windows: the readings with an instrument on some days, which one test of the instrument may judge anew.
use Rattle.std.specs.Prelude.{◌≡◌, ℕ, ◌<◌, ◌≤◌, Bool, false, ◌&&◌, ◌||◌, nat_le, Option, Some, None, List, [], ◌∷◌, slice_get, count_by}
use Rattle.std.specs.List.{AllByRecursion, list_any}
use Rattle.std.specs.Option.{option_map_or}
use Rattle.ldar_days.specs.Calendar.{later_by}
use Rattle.fact_kinds.specs.declared.body.FactBody.{FactBody}
use Rattle.fact_kinds.specs.declared.body.FactBody.TheVariants.{Calibration, Precision, Drift}
use Rattle.fact_kinds.specs.Facts.{Entry}
use Rattle.fact_kinds.specs.Named.{component_of, reading_instrument, tested_instrument, is_numbered}
use Rattle.fact_kinds.specs.Stated.{Stated}
use Rattle.fact_store.specs.declared.place.Place.{Place}
use Rattle.ldar_law.specs.Stirred.{matters_to}
use Rattle.touched_readings.specs.declared.windows.Window.{Window}
use Rattle.touched_readings.specs.Flags.{flag_of}

-- the readings that a test of an instrument may judge anew: those of its day, or after a precision test those of three months
abbrev pub window_on : ℕ → FactBody → Option Window
window_on day (Calibration instrument _) = Some (record { instrument = instrument; first = day; last = day })
window_on day (Drift instrument _ _) = Some (record { instrument = instrument; first = day; last = day })
window_on day (Precision instrument _ _) = Some (record { instrument = instrument; first = day; last = later_by 3 day })
window_on day _ = None

abbrev pub window_of : Stated → Option Window
window_of fact = window_on fact.day fact.body

-- the day is in the window
abbrev pub is_on : Window → ℕ → Bool
is_on window day = nat_le window.first day && nat_le day window.last

-- the fact is of the component, and its day is in the window
abbrev pub is_of : Window → ℕ → Entry → Bool
is_of window number e = is_numbered (component_of e.1.body) number && is_on window e.0.day

-- the fact is a reading of the component in the window
abbrev pub is_read_in : Window → ℕ → Entry → Bool
is_read_in window number e = is_numbered (reading_instrument e.1.body) window.instrument && is_of window number e

-- the day is in a window of the instrument, if there is a window
abbrev pub Covers : Option Window → ℕ → ℕ → Type 0
Covers None instrument day = ⊥
Covers (Some window) instrument day = (window.instrument ≡ instrument) × (window.first ≤ day) × (day ≤ window.last)

-- what is left of a window: a later first day, where another window of its instrument has the days before
pub record Leaves (window : Window) (done : Option Window) (rest : Window) : Type 0 where
  pub instrument : rest.instrument ≡ window.instrument
  pub first : window.first ≤ rest.first
  pub last : rest.last ≡ window.last
  pub before : (day : ℕ) → window.first ≤ day → day < rest.first → Covers done window.instrument day

-- no flag is left of a component that was read in this window, if there is a window
abbrev pub IsDone : List Bool → List Entry → Option Window → Type 0
IsDone flags facts None = Unit {0}
IsDone flags facts (Some window) = (number : ℕ) → (flag_of flags number && list_any (is_read_in window number) facts) ≡ false

-- the number of readings with an instrument
abbrev pub readings_with : ℕ → List Entry → ℕ
readings_with instrument facts = count_by (λ e. is_numbered (reading_instrument e.1.body) instrument) facts

-- ---- places in a store

-- the day of the fact at a place
abbrev pub day_at : List Entry → Place → ℕ
day_at arrived place = option_map_or (λ e. e.0.day) (slice_get arrived place.at) 0

-- the fact at a place is of the component, and its day is in the window
abbrev pub stands_in : List Entry → Window → ℕ → Place → Bool
stands_in arrived window number place =
    option_map_or (λ e. is_numbered (component_of e.1.body) number) (slice_get arrived place.at) false && is_on window (day_at arrived place)

-- none is of a day before that of an earlier one
abbrev pub AreByDay : {X : Type 0} → (X → ℕ) → List X → Type 0
AreByDay day [] = Unit {0}
AreByDay day (x ∷ xs) = AllByRecursion (λ y. day x ≤ day y) xs × AreByDay day xs

-- ---- a batch

-- some test among these facts of a batch, with their keys, matters to some reading of the component
abbrev pub is_judged_anew : List Entry → List Entry → ℕ → Bool
is_judged_anew facts news number = list_any (λ r. is_numbered (component_of r.1.body) number && list_any (matters_to r) news) facts

-- the fact is a test of the instrument or a reading taken with it
abbrev pub uses : ℕ → Entry → Bool
uses instrument e = is_numbered (tested_instrument e.1.body) instrument || is_numbered (reading_instrument e.1.body) instrument

-- the number of facts that name the instrument of a test; 0 for a fact that is no test
abbrev pub reads_for : List Entry → FactBody → ℕ
reads_for facts body = option_map_or (λ instrument. count_by (uses instrument) facts) (tested_instrument body) 0
