-- Ranges of consecutive numbers.
use Rattle.std.specs.Prelude.{◌≡◌, ℕ, ◌+◌, ◌-◌, ◌<◌, ◌≤◌, ◌↔◌, List, Contains, slice_index}
use Rattle.std.specs.List.{range_with_len}

-- the numbers from low up to, but not including, end
unfoldable pub until : ℕ → ℕ → List ℕ
until low end = range_with_len low (end - low)

-- the numbers from low to high, both included
abbrev pub from_to : ℕ → ℕ → List ℕ
from_to low high = until low (high + 1)

-- `until` contains exactly the numbers from low to before end
abbrev pub UntilHolds : Type 0
UntilHolds = (low end n : ℕ) → Contains (until low end) n ↔ ((low ≤ n) × (n < end))

-- `until` counts up by one from low
abbrev pub UntilCounts : Type 0
UntilCounts = (low end i : ℕ) → i < end - low → slice_index (until low end) i ≡ low + i
