-- Counts of errors.
use Rattle.std.specs.Prelude.{◌+◌, min, ◌≡◌, ◌<◌, ◌-◌, ◌^◌, ◌⊎◌, ℕ}

-- a count rose in a call: it is greater than before, or at its maximum
abbrev pub Rose : ℕ → ℕ → Type 0
Rose before after = (before < after) ⊎ (after ≡ 2 ^ 64 - 1)

-- the count after one more error; it stays at its maximum
abbrev pub count_after : ℕ → ℕ
count_after n = min (n + 1) (2 ^ 64 - 1)
