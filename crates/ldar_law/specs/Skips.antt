-- Skipped quarters (our own rule, after 40 CFR 60.483-2a).
use Rattle.std.specs.Prelude.{ℕ, zero, suc, ◌-◌, Bool, false, not, ◌&&◌, ◌||◌, nat_eq, nat_lt, nat_le, List, [], ◌∷◌, filter, map, slice_get}
use Rattle.std.specs.List.{prefix_len}
use Rattle.std.specs.Option.{option_map_or}
use Rattle.list_words.specs.Ranges.{from_to}
use Rattle.list_words.specs.Words.{last_such}
use Rattle.ldar_days.specs.Quarters.{quarter_first}
use Rattle.ldar_law.specs.declared.election.ElectionEntry.{ElectionEntry}
use Rattle.ldar_law.specs.declared.tally.Tally.{Tally}
use Rattle.ldar_law.specs.Percent.{is_good}

-- a past quarter: whether it was skipped, and whether it was good
abbrev pub Past : Type 0
Past = Bool × Bool

-- the mode elected on a day, by elections in key order; 0 for no election
abbrev pub mode_on : List ElectionEntry → ℕ → ℕ
mode_on elections day = option_map_or (λ e. e.mode) (last_such (λ e. nat_le e.key.day day) elections) 0

-- the number of good quarters in a row among those that were not skipped, latest first
unfoldable pub good_streak : List Past → ℕ
good_streak before = prefix_len (λ past. past.1) (filter (λ past. not past.0) before)

-- the number of skipped quarters directly before
unfoldable pub skips_run : List Past → ℕ
skips_run before = prefix_len (λ past. past.0) before

-- 40 CFR 60.483-2a(b)(2): in mode 1 a quarter is skipped after two good ones, if the quarter directly before was not skipped
-- 40 CFR 60.483-2a(b)(3): in mode 3 at most three quarters in a row are skipped after five good ones
abbrev pub skips_after : ℕ → ℕ → ℕ → Bool
skips_after mode run streak = (nat_eq mode 1 && nat_eq run 0 && nat_le 2 streak) || (nat_eq mode 3 && nat_lt run 3 && nat_le 5 streak)

-- a quarter is skipped in this mode, with these quarters before it, latest first
abbrev pub skips : ℕ → List Past → Bool
skips mode before = skips_after mode (skips_run before) (good_streak before)

-- the counts of each quarter of a unit from quarter 1 on, the unit's elections in key order, and its startup
module _ (tallies : List Tally) (elections : List ElectionEntry) (startup : ℕ) where
  -- the quarter was good
  abbrev pub was_good : ℕ → Bool
  was_good quarter = option_map_or is_good (slice_get tallies (quarter - 1)) false

  -- the quarters with one more
  abbrev pub with_next : ℕ → List Past → List Past
  with_next quarter before = (skips (mode_on elections (quarter_first startup quarter)) before, was_good quarter) ∷ before

  -- the quarters up to this one, latest first
  unfoldable pub quarters : ℕ → List Past
  quarters zero = []
  quarters (suc quarter) = with_next (suc quarter) (quarters quarter)

  -- the quarter is skipped
  unfoldable pub is_skipped : ℕ → Bool
  is_skipped quarter = skips (mode_on elections (quarter_first startup quarter)) (quarters (quarter - 1))

  -- which quarters are skipped, from quarter 1 to this one
  abbrev pub skipped_to : ℕ → List Bool
  skipped_to quarter = map is_skipped (from_to 1 quarter)
