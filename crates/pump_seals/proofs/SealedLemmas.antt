-- Whether a pump is sealed, from the mark that a binary search finds.
use Rattle.std.proofs.Common.{◌≡◌, ℕ, ◌-◌, ◌<◌, ◌≤◌, Bool, true, false, List, length, get_or, sym, ap, subst}
use Rattle.std.specs.Prelude.{nat_le, nat_lt}
use Rattle.std.specs.List.Sorted.{IsPartitionPoint}
use Rattle.std.specs.Option.{option_map_or}
use Rattle.std.proofs.Common.{arith}
use Rattle.std.proofs.lemmas.Bool.Decides.{nat_tests}
use Rattle.list_words.proofs.WordLemmas.{last_such_at, last_such_nowhere}
use Rattle.pump_seals.specs.declared.row.Mark.{Mark}
use Rattle.pump_seals.specs.Seals.{is_sealed}
use Rattle.pump_seals.specs.Signs.{is_on}

abbrev Point : List Mark → ℕ → ℕ → Type 0
Point switches day n = IsPartitionPoint (λ m. nat_le m.at.day day ≡ true) (λ m. nat_le m.at.day day ≡ false) switches n

pub sealed_never : (switches : List Mark) (day n : ℕ) → n ≡ 0 → Point switches day n → false ≡ is_sealed switches day
unfolding is_sealed
sealed_never switches day n none parts =
    sym (ap (λ o. option_map_or (λ m. is_on m.what) o false)
    (last_such_nowhere (λ m. nat_le m.at.day day) switches (subst (Point switches day) none parts)))

pub sealed_by : (switches : List Mark) (day n : ℕ) (d : Mark) → 0 < n → n ≤ length switches → Point switches day n
    → is_on (get_or switches (n - 1) d).what ≡ is_sealed switches day
unfolding is_sealed
sealed_by switches day n d some within parts =
    sym (ap (λ o. option_map_or (λ m. is_on m.what) o false) (last_such_at (λ m. nat_le m.at.day day) switches n d some within parts))

-- whether one day is before another, by the other comparison
pub not_from : (a b : ℕ) → nat_lt a b ≡ true → nat_le b a ≡ false
not_from a b e = grind (arith, nat_tests)

pub is_from : (a b : ℕ) → nat_lt a b ≡ false → nat_le b a ≡ true
is_from a b e = grind (arith, nat_tests)
