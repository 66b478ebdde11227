-- Days and months as texts, YYYY-MM-DD and YYYY-MM, in bytes.
use Rattle.std.specs.Prelude.{ℕ, ◌+◌, ◌-◌, ◌*◌, ◌/◌, ◌%◌, List, [], ◌∷◌, ◌++◌, take, drop, ◌&&◌, nat_le, if◌then◌else◌, Option, Some, None}
use Rattle.std.specs.List.{fold}
use Rattle.std.specs.Str.{bytes_eq}
use Rattle.ldar_days.specs.Calendar.{first_day, month_of, place_of}

-- a number below 100 as two digits
abbrev pub pair : ℕ → List ℕ
pair n = (48 + n / 10) ∷ (48 + n % 10) ∷ []

-- a year below 10,000 as four digits
abbrev pub year_text : ℕ → List ℕ
year_text y = pair (y / 100) ++ pair (y % 100)

-- a month's year, a dash, and its number in the year in two digits
abbrev pub month_text : ℕ → List ℕ
month_text m = year_text (m / 12) ++ (45 ∷ pair (m % 12 + 1))

-- a day's month, a dash, and its day of the month in two digits
abbrev pub day_text : ℕ → List ℕ
day_text n = month_text (month_of n) ++ (45 ∷ pair (place_of n + 1))

-- the number that digits spell
abbrev pub digits_value : List ℕ → ℕ
digits_value digits = fold (λ n digit. 10 * n + (digit - 48)) 0 digits

-- the day that a text names, if it is a day's text; otherwise an arbitrary number
abbrev pub day_named : List ℕ → ℕ
day_named text =
    first_day (12 * digits_value (take 4 text) + digits_value (take 2 (drop 5 text)) - 1)
    + digits_value (drop 8 text) - 1

-- the day with this text, or None if no day has it
unfoldable pub day_of : List ℕ → Option ℕ
day_of text =
    let n = day_named text in
    if nat_le 13_879 n && nat_le n 47_481 && bytes_eq (day_text n) text then Some n else None
