-- What a disk's calls do to its bytes.
use Rattle.std.specs.Prelude.{◌≡◌, ◌<◌, ◌≤◌, ◌+◌, ◌-◌, ℕ, List, ◌++◌, length, take, drop, min, max, replicate}

-- a read at this place copied n of these bytes into the slice; n is 0 exactly at the end, or if the slice is empty
pub record Reads (at : ℕ) (bytes old new : List ℕ) (n : ℕ) : Type 0 where
  pub in_range : n ≤ length bytes - at
  pub value : new ≡ take n (drop at bytes) ++ drop n old
  pub at_end : n ≡ 0 → 0 < length old → length bytes ≤ at

-- a partial write of n bytes at this place: any bytes in its range and past the old end, and no change elsewhere
pub record Torn (at n : ℕ) (old new : List ℕ) : Type 0 where
  pub before : take (min at (length old)) new ≡ take at old
  pub after : drop (at + n) new ≡ drop (at + n) old
  pub no_shorter : length old ≤ length new
  pub no_longer : length new ≤ max (length old) (at + n)

-- a complete write of these bytes at this place; zeros fill the gap between the old end and the place
pub record Holds (at : ℕ) (bytes old new : List ℕ) : Type 0 where
  pub inside : at ≤ length old → new ≡ take at old ++ bytes ++ drop (at + length bytes) old
  pub past_end : length old < at → 0 < length bytes → new ≡ old ++ replicate (at - length old) 0 ++ bytes
  pub nothing : length bytes ≡ 0 → new ≡ old
