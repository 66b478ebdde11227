-- The elements with a day of at most the given one are a prefix of a list in key order.
use Rattle.std.proofs.Common.{◌≡◌, ℕ, zero, suc, ◌<◌, ◌≤◌, Bool, true, false, nat_le, List, [], ◌∷◌, length, take, filter, get_or, refl, ap, arith}
use Rattle.std.specs.List.{AllByRecursion}
use Rattle.std.specs.List.Sorted.{IsPartitionedBy, IsPartitionPoint}
use Rattle.std.proofs.lemmas.Bool.{leb-true, le-leb}
use Rattle.list_words.specs.Order.{Ascends}
use Rattle.fact_kinds.specs.declared.key.Key.{Key}
use Rattle.fact_kinds.specs.Facts.{is_earlier}
use Rattle.fact_kinds.proofs.Cuts.{earlier_day}

module _ {X : Type 0} (key : X → Key) where
  -- an element before all others is before each of them
  before_each : (x : X) (ys : List X) (j : ℕ) (d : X) → AllByRecursion (λ y. is_earlier (key x) (key y) ≡ true) ys → j < length ys →
      is_earlier (key x) (key (get_or ys j d)) ≡ true
  before_each x [] j d all within = absurd (omega arith)
  before_each x (y ∷ ys) zero d all within = all.0
  before_each x (y ∷ ys) (suc j) d all within = before_each x ys j d all.1 (omega (arith, within))

  pub days_in_front : (day : ℕ) (xs : List X) → Ascends (λ a b. is_earlier (key a) (key b)) xs → IsPartitionedBy (λ x. nat_le (key x).day day) xs
  days_in_front day [] up i j d le within t = absurd (omega arith)
  days_in_front day (x ∷ xs) up zero zero d le within t = t
  days_in_front day (x ∷ xs) up zero (suc j) d le within t =
      let first = before_each x xs j d up.0 (omega (arith, within)) in
      le-leb (key x).day day (omega (arith, earlier_day (key x) (key (get_or xs j d)) first, leb-true (key (get_or xs j d)).day day t))
  days_in_front day (x ∷ xs) up (suc i) zero d le within t = absurd (omega arith)
  days_in_front day (x ∷ xs) up (suc i) (suc j) d le within t = days_in_front day xs up.1 i j d (omega (arith, le)) (omega (arith, within)) t

-- the prefix that ends at the first element that fails is the part that passes
pub front_filtered : {X : Type 0} (p : X → Bool) (xs : List X) (n : ℕ) → n ≤ length xs → IsPartitionPoint (λ x. p x ≡ true) (λ x. p x ≡ false) xs n →
    take n xs ≡ filter p xs
front_filtered p [] zero within parts = refl
front_filtered p [] (suc n) within parts = absurd (omega (arith, within))
front_filtered p (x ∷ xs) zero within parts =
    let fails : p x ≡ false = parts.1 0 x (omega arith) (omega arith) in
    rw fails (front_filtered p xs zero (omega arith)
    (λ k d low lt. absurd (omega (arith, lt)), λ k d low lt. parts.1 (suc k) d (omega arith) (omega (arith, lt))))
front_filtered p (x ∷ xs) (suc n) within parts =
    let passes : p x ≡ true = parts.0 0 x (omega arith) (omega arith) in
    rw passes (ap (λ ys. x ∷ ys) (front_filtered p xs n (omega (arith, within))
    (λ k d low lt. parts.0 (suc k) d (omega arith) (omega (arith, lt)), λ k d low lt. parts.1 (suc k) d (omega (arith, low)) (omega (arith, lt)))))
