-- Elections in key order: those by a day are a prefix.
use Rattle.std.proofs.Common.{◌≡◌, ℕ, zero, suc, ◌-◌, ◌<◌, ◌≤◌, true, false, nat_le, List, [], ◌∷◌, length, get_or, ap, sym, arith}
use Rattle.std.specs.List.{AllByRecursion}
use Rattle.std.specs.List.Sorted.{IsPartitionedBy, IsPartitionPoint}
use Rattle.std.specs.Option.{option_map_or}
use Rattle.std.proofs.lemmas.Bool.{leb-true, le-leb}
use Rattle.list_words.specs.Order.{Ascends}
use Rattle.list_words.proofs.WordLemmas.{last_such_at, last_such_nowhere}
use Rattle.fact_kinds.specs.Facts.{is_earlier}
use Rattle.fact_kinds.proofs.Cuts.{earlier_day}
use Rattle.ldar_law.specs.declared.election.ElectionEntry.{ElectionEntry}
use Rattle.ldar_law.specs.Skips.{mode_on}

-- an element before all others is before each of them
before_each : (x : ElectionEntry) (ys : List ElectionEntry) (j : ℕ) (d : ElectionEntry) → AllByRecursion (λ y. is_earlier x.key y.key ≡ true) ys →
    j < length ys → is_earlier x.key (get_or ys j d).key ≡ true
before_each x [] j d all within = absurd (omega arith)
before_each x (y ∷ ys) zero d all within = all.0
before_each x (y ∷ ys) (suc j) d all within = before_each x ys j d all.1 (omega (arith, within))

-- the elections by a day are a prefix of elections in key order
pub elected_in_front : (day : ℕ) (elections : List ElectionEntry) → Ascends (λ a b. is_earlier a.key b.key) elections →
    IsPartitionedBy (λ e. nat_le e.key.day day) elections
elected_in_front day [] up i j d le within t = absurd (omega arith)
elected_in_front day (x ∷ xs) up zero zero d le within t = t
elected_in_front day (x ∷ xs) up zero (suc j) d le within t =
    let first = before_each x xs j d up.0 (omega (arith, within)) in
    le-leb x.key.day day (omega (arith, earlier_day x.key (get_or xs j d).key first, leb-true (get_or xs j d).key.day day t))
elected_in_front day (x ∷ xs) up (suc i) zero d le within t = absurd (omega arith)
elected_in_front day (x ∷ xs) up (suc i) (suc j) d le within t = elected_in_front day xs up.1 i j d (omega (arith, le)) (omega (arith, within)) t

-- the mode of the last election of the prefix
pub mode_in_front : (day : ℕ) (elections : List ElectionEntry) (n : ℕ) (d : ElectionEntry) → 0 < n → n ≤ length elections →
    IsPartitionPoint (λ e. nat_le e.key.day day ≡ true) (λ e. nat_le e.key.day day ≡ false) elections n →
    (get_or elections (n - 1) d).mode ≡ mode_on elections day
mode_in_front day elections n d some within parts =
    sym (ap (λ o. option_map_or (λ e. e.mode) o 0) (last_such_at (λ e. nat_le e.key.day day) elections n d some within parts))

-- no election is by the day if the prefix is empty
pub no_mode_in_front : (day : ℕ) (elections : List ElectionEntry) →
    IsPartitionPoint (λ e. nat_le e.key.day day ≡ true) (λ e. nat_le e.key.day day ≡ false) elections 0 → 0 ≡ mode_on elections day
no_mode_in_front day elections parts =
    sym (ap (λ o. option_map_or (λ e. e.mode) o 0) (last_such_nowhere (λ e. nat_le e.key.day day) elections parts))
