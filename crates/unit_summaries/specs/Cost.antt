-- The number of facts that a renewal reads.
use Rattle.std.specs.Prelude.{◌≡◌, ℕ, ◌+◌, Bool, true, false, Option, Some, None, List, length, sum_by, Contains, nat_eq, if◌then◌else◌}
use Rattle.std.specs.List.{AllByRecursion, list_any}
use Rattle.fact_kinds.specs.Facts.{Entry}
use Rattle.fact_kinds.specs.Named.{reading_instrument}
use Rattle.ldar_law.specs.Equipment.{members_of}
use Rattle.ldar_law.specs.Slices.{facts_of_component, facts_of_instrument, facts_of_unit}
use Rattle.ldar_law.specs.Stirred.{instruments_read, is_touched, touched}
use Rattle.method21_reading.specs.Instruments.{Apart, AreThoseOf}
use Rattle.unit_summaries.specs.Rows.{Rows, is_fresh, slot_in}

-- the instruments that are made ready are those of their numbers, by these facts
abbrev pub AreReady : List (Option Apart) → List Entry → Type 0
AreReady ready facts =
    (number : ℕ) (instrument : Apart) → slot_in ready number ≡ Some instrument → AreThoseOf (facts_of_instrument number facts) instrument

-- something is there
abbrev pub is_there : {X : Type 0} → Option X → Bool
is_there None = false
is_there (Some x) = true

-- the number of facts to read of an instrument that is not ready
abbrev pub cost_of : List Entry → List (Option Apart) → ℕ → ℕ
cost_of facts ready number = if is_there (slot_in ready number) then 0 else length (facts_of_instrument number facts)

-- .. and of each of some instruments
abbrev pub cost_left : List Entry → List ℕ → List (Option Apart) → ℕ
cost_left facts numbers ready = sum_by (cost_of facts ready) numbers

-- the number is one of these
abbrev pub is_among : List ℕ → ℕ → Bool
is_among numbers number = list_any (λ n. nat_eq n number) numbers

-- the instruments used for some readings are among these
abbrev pub UsesOnly : List ℕ → List Entry → Type 0
UsesOnly numbers own = AllByRecursion (λ e. (number : ℕ) → reading_instrument e.1.body ≡ Some number → is_among numbers number ≡ true) own

-- .. where the summary of the component is not up to date
abbrev pub IsPool : {T : Type 0} → List ℕ → ℕ → Rows T → List Entry → Type 0
IsPool numbers component rows facts = is_fresh rows component ≡ false → UsesOnly numbers (facts_of_component component facts)

-- the number of facts that name the touched components of a process unit, or are tests of the instruments that read them
abbrev pub members_cost : List Entry → List Entry → ℕ → ℕ
members_cost facts news unit =
    sum_by (λ number. length (facts_of_component number facts)) (touched facts news unit)
    + sum_by (λ instrument. length (facts_of_instrument instrument facts)) (instruments_read facts news (touched facts news unit))

-- the number of facts that name a component, or a process unit, if its summary is not up to date
abbrev pub own_cost : {T : Type 0} → List Entry → Rows T → ℕ → ℕ
own_cost facts rows component = if is_fresh rows component then 0 else length (facts_of_component component facts)

abbrev pub unit_cost : {T : Type 0} → List Entry → Rows T → ℕ → ℕ
unit_cost facts rows unit = if is_fresh rows unit then 0 else length (facts_of_unit unit facts)

-- each component of a process unit whose summary is not up to date is touched by some new fact
abbrev pub AreTouched : {T : Type 0} → List Entry → List Entry → ℕ → Rows T → Type 0
AreTouched facts news unit rows = (n : ℕ) → Contains (members_of unit facts) n → is_fresh rows n ≡ false → is_touched facts news n ≡ true
