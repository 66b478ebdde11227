-- The table of rules, as the code evaluates it.
use Rattle.std.specs.Prelude.{ℕ, ◌+◌, Bool, not, ◌&&◌, if◌then◌else◌, Option, Some, None, List, [], ◌∷◌}
use Rattle.ldar_law.specs.Denials.{day_too_late, elected_within_a_quarter}
use Rattle.ldar_law.specs.Judged.{Case}

-- rule 20, if rule 19 passes the fact
abbrev pub elected_if_in_time : Case → Bool
elected_if_in_time case = not (day_too_late case) && elected_within_a_quarter case

-- the place of the first true element, counted from a number
abbrev pub first_true_from : ℕ → List Bool → Option ℕ
first_true_from number [] = None
first_true_from number (b ∷ bs) = if b then Some number else first_true_from (number + 1) bs

-- .. counted from 1
unfoldable pub first_true : List Bool → Option ℕ
first_true bs = first_true_from 1 bs
