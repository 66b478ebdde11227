-- The first day to report for a half that has not begun.
use Rattle.std.specs.Prelude.{ℕ, max}
use Rattle.ldar_law.specs.Reports.{half_first}

-- the first day of the half, or for half 0 that of half 1
abbrev pub first_reported : ℕ → ℕ → ℕ
first_reported startup half = half_first startup (max half 1)
