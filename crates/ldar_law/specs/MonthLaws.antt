-- Laws about clean and quarterly months: the statements of `laws::months`.
use Rattle.std.specs.Prelude.{◌≡◌, ℕ, ◌+◌, ◌≤◌, true, Decides, List}
use Rattle.ldar_days.specs.Quarters.{first_quarter}
use Rattle.ldar_law.specs.declared.event.Event.{Event}
use Rattle.ldar_law.specs.Months.{is_clean, is_clean_twice_from, begins_quarterly, is_quarterly}

-- `is_clean_twice_from` is true exactly if such a month exists, among all months
abbrev pub CleanTwiceFromDecides : Type 0
CleanTwiceFromDecides =
    (events : List Event) (first : ℕ)
    → Decides (is_clean_twice_from events first) ((k : ℕ) × (first ≤ k) × (is_clean events k ≡ true) × (is_clean events (k + 1) ≡ true))

-- `is_quarterly` is true exactly if such a month exists, among all months
abbrev pub QuarterlyDecides : Type 0
QuarterlyDecides =
    (startup : ℕ) (events : List Event) (month : ℕ)
    → Decides (is_quarterly startup events month)
    ((first_quarter startup ≤ month) × ((k : ℕ) × (begins_quarterly startup events month k ≡ true)))
