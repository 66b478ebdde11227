-- Lists by day, cut at one element.
use Rattle.std.proofs.Common.{◌≡◌, ℕ, zero, suc, ◌+◌, ◌-◌, ◌<◌, ◌≤◌, Bool, true, false, ◌&&◌, ◌||◌, nat_le, List, [], ◌∷◌, length, take, drop, slice_get, Some, refl, ap, ◌∙◌, subst, inl, inr, arith, length-drop}
use Rattle.std.specs.List.{AllByRecursion, list_any}
use Rattle.std.proofs.lemmas.List.{take_all}
use Rattle.std.proofs.lemmas.Bool.{cases_Bool}
use Rattle.std.proofs.lemmas.Bool.Decides.{nat_tests}
use Rattle.touched_readings.specs.Windows.{AreByDay}

-- the rest after a place is all of it
pub rest_is : {X : Type 0} (j : ℕ) (xs : List X) → take (length xs - j) (drop j xs) ≡ drop j xs
rest_is j xs = take_all (length xs - j) (drop j xs) (omega (arith, length-drop j xs))

-- what each element passes, each of a part passes
pub each_of_front : {X : Type 0} (P : X → Type 0) (i : ℕ) (xs : List X) → AllByRecursion P xs → AllByRecursion P (take i xs)
each_of_front P zero xs all = tt
each_of_front P (suc i) [] all = tt
each_of_front P (suc i) (x ∷ xs) all = (all.0, each_of_front P i xs all.1)

pub each_of_back : {X : Type 0} (P : X → Type 0) (i : ℕ) (xs : List X) → AllByRecursion P xs → AllByRecursion P (drop i xs)
each_of_back P zero xs all = all
each_of_back P (suc i) [] all = tt
each_of_back P (suc i) (x ∷ xs) all = each_of_back P i xs all.1

module _ {X : Type 0} (day : X → ℕ) where
  -- the parts of a list by day
  pub back_by_day : (i : ℕ) (xs : List X) → AreByDay day xs → AreByDay day (drop i xs)
  back_by_day zero xs up = up
  back_by_day (suc i) [] up = tt
  back_by_day (suc i) (x ∷ xs) up = back_by_day i xs up.1

  pub front_by_day : (i : ℕ) (xs : List X) → AreByDay day xs → AreByDay day (take i xs)
  front_by_day zero xs up = tt
  front_by_day (suc i) [] up = tt
  front_by_day (suc i) (x ∷ xs) up = (each_of_front (λ y. day x ≤ day y) i xs up.0, front_by_day i xs up.1)

  -- a test of elements of the days from one to another
  module _ (q : X → Bool) (first last : ℕ) where
    abbrev pub in_days : X → Bool
    in_days x = q x && (nat_le first (day x) && nat_le (day x) last)

    none_before : (high : ℕ) (xs : List X) → high < first → AllByRecursion (λ y. day y ≤ high) xs → list_any in_days xs ≡ false
    none_before high [] low all = refl
    none_before high (x ∷ xs) low all =
        let out : nat_le first (day x) ≡ false = grind (arith, nat_tests, low, all.0) in
        rw (out, none_before high xs low all.1) grind arith

    none_after : (low : ℕ) (xs : List X) → last < low → AllByRecursion (λ y. low ≤ day y) xs → list_any in_days xs ≡ false
    none_after low [] high all = refl
    none_after low (x ∷ xs) high all =
        let out : nat_le (day x) last ≡ false = grind (arith, nat_tests, high, all.0) in
        rw (out, none_after low xs high all.1) grind arith

  -- at an element of the list: those before it are of no later day, those after it of no earlier one
  module _ (x : X) where
    at_of : (i : ℕ) (P : X → Type 0) (xs : List X) → slice_get xs i ≡ Some x → AllByRecursion P xs → P x
    at_of zero P [] at all = absurd cc
    at_of zero P (y ∷ ys) at all = let same : y ≡ x = cc in subst P same all.0
    at_of (suc i) P [] at all = absurd cc
    at_of (suc i) P (y ∷ ys) at all = at_of i P ys at all.1

    front_low : (i : ℕ) (xs : List X) → slice_get xs i ≡ Some x → AreByDay day xs → AllByRecursion (λ y. day y ≤ day x) (take i xs)
    front_low zero xs at up = tt
    front_low (suc i) [] at up = tt
    front_low (suc i) (y ∷ ys) at up = (at_of i (λ z. day y ≤ day z) ys at up.0, front_low i ys at up.1)

    high_from : (i : ℕ) (xs : List X) → slice_get xs i ≡ Some x → AreByDay day xs → AllByRecursion (λ y. day x ≤ day y) (drop (suc i) xs)
    high_from zero [] at up = tt
    high_from zero (y ∷ ys) at up = let same : y ≡ x = cc in subst (λ (z : X). AllByRecursion (λ w. day z ≤ day w) ys) same up.0
    high_from (suc i) [] at up = tt
    high_from (suc i) (y ∷ ys) at up = high_from i ys at up.1

    back_high : (i : ℕ) (xs : List X) → slice_get xs i ≡ Some x → AreByDay day xs → AllByRecursion (λ y. day x ≤ day y) (drop (i + 1) xs)
    back_high i xs at up =
        let next : suc i ≡ i + 1 = omega arith in
        subst (λ j. AllByRecursion (λ y. day x ≤ day y) (drop j xs)) next (high_from i xs at up)

    -- a test of some, cut there
    split_from : (p : X → Bool) (i : ℕ) (xs : List X) → slice_get xs i ≡ Some x
        → list_any p xs ≡ (list_any p (take i xs) || (p x || list_any p (drop (suc i) xs)))
    split_from p zero [] at = absurd cc
    split_from p zero (y ∷ ys) at = let same : y ≡ x = cc in ap (λ z. p z || list_any p ys) same
    split_from p (suc i) [] at = absurd cc
    split_from p (suc i) (y ∷ ys) at =
        let rest = split_from p i ys at in
        elim (cases_Bool (p y)) [ inl passes ↦ rw passes refl | inr fails ↦ rw fails rest ]

    split_any : (p : X → Bool) (i : ℕ) (xs : List X) → slice_get xs i ≡ Some x
        → list_any p xs ≡ (list_any p (take i xs) || (p x || list_any p (drop (i + 1) xs)))
    split_any p i xs at =
        let next : suc i ≡ i + 1 = omega arith in
        subst (λ j. list_any p xs ≡ (list_any p (take i xs) || (p x || list_any p (drop j xs)))) next (split_from p i xs at)

    module _ (q : X → Bool) (first last : ℕ) (i : ℕ) (xs : List X) (at : slice_get xs i ≡ Some x) (up : AreByDay day xs) where
      -- all are after it where its day is too early
      pub any_after : day x < first → list_any (in_days q first last) xs ≡ list_any (in_days q first last) (drop (i + 1) xs)
      any_after early =
          let out : nat_le first (day x) ≡ false = grind (arith, nat_tests, early) in
          let none = none_before q first last (day x) (take i xs) early (front_low i xs at up) in
          split_any (in_days q first last) i xs at ∙ rw (none, out) grind arith

      -- .. and before it where its day is too late
      pub any_before : last < day x → list_any (in_days q first last) xs ≡ list_any (in_days q first last) (take i xs)
      any_before late =
          let out : nat_le (day x) last ≡ false = grind (arith, nat_tests, late) in
          let none = none_after q first last (day x) (drop (i + 1) xs) late (back_high i xs at up) in
          split_any (in_days q first last) i xs at ∙ rw (none, out) grind arith

      -- it is one of them where its day is between
      pub any_on : first ≤ day x → day x ≤ last → list_any (in_days q first last) xs
          ≡ (list_any (in_days q first last) (take i xs) || (q x || list_any (in_days q first last) (drop (i + 1) xs)))
      any_on low high =
          let from : nat_le first (day x) ≡ true = grind (arith, nat_tests, low) in
          let to : nat_le (day x) last ≡ true = grind (arith, nat_tests, high) in
          split_any (in_days q first last) i xs at ∙ rw (from, to) grind arith
