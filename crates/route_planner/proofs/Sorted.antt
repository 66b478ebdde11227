use Rattle.std.proofs.Common.{◌≡◌, ℕ, suc, ◌+◌, ◌<◌, Bool, true, false, cond, not, ◌&&◌, List, [], ◌∷◌, get_or, sum_by, IsPermutation, refl, sym, ap, subst}
use Rattle.std.proofs.Common.{◌∙◌, inl, inr, arith}
use Rattle.std.specs.Cmp.{IsStrictWeakOrder}
use Rattle.std.specs.List.{AllByRecursion}
use Rattle.std.specs.List.Sorted.{IsSortedBy}
use Rattle.std.proofs.lemmas.Bool.{cases_Bool, false≢true}
use Rattle.std.proofs.lemmas.List.Elements.{All-from_get_or, recursion_from_All}
use Rattle.std.proofs.lemmas.List.Sorted.{sorted_far, sum_by-IsPermutation}
use Rattle.std.proofs.lemmas.List.Sums.{sum_by-cons}
use Rattle.list_words.specs.Order.{in_order}
use Rattle.list_words.proofs.Ascending.{in_order_permutes}
use Rattle.ldar_law.proofs.WeakOrder.{InOrder, IsWeakOrder, put_keeps}

-- A sorted permutation is the list in order if elements that tie are equal.
module _ {X : Type 0} (before : X → X → Bool) (order : IsStrictWeakOrder before) where
  -- a strict weak order is a weak one
  pub weak : IsWeakOrder before
  weak = record {
    asymmetric = order.one_way;
    carries = λ x y z e f. elim (cases_Bool (before x z)) [
      | inl t ↦ t
      | inr n ↦ absurd (false≢true (sym (order.chain x z y n f) ∙ e))
    ];
  }

  -- `in_order` is in order
  each_in_order : (xs : List X) → InOrder before (in_order before xs)
  each_in_order [] = tt
  each_in_order (x ∷ xs) = put_keeps before weak x (in_order before xs) (each_in_order xs)

  -- nothing is before itself
  not_itself : (x : X) → before x x ≡ false
  not_itself x = elim (cases_Bool (before x x)) [ inl t ↦ order.one_way x x t | inr f ↦ f ]

  -- the rest of a sorted list is sorted
  sorted_tail : (x : X) (xs : List X) → IsSortedBy before (x ∷ xs) → IsSortedBy before xs
  sorted_tail x xs up k d low high =
      let next : suc k + 1 ≡ suc (k + 1) = omega arith in
      subst (λ n. before (get_or (x ∷ xs) n d) (get_or xs k d) ≡ false) next (up (suc k) d (omega arith) (omega (arith, high)))

  -- a list that is sorted by places is in order
  pub from_sorted : (xs : List X) → IsSortedBy before xs → InOrder before xs
  from_sorted [] up = tt
  from_sorted (x ∷ xs) up = (
    recursion_from_All (λ y. before y x ≡ false) xs
        (All-from_get_or (λ y. before y x ≡ false) xs x (λ i within. sorted_far before order (x ∷ xs) up 0 (suc i) x (omega arith) (omega (arith, within)))),
    from_sorted xs (sorted_tail x xs up),
  )

  module _ (same : (x y : X) → before x y ≡ false → before y x ≡ false → x ≡ y) where
    -- neither element is before the other
    abbrev ties : X → X → Bool
    ties x z = not (before x z) && not (before z x)

    -- how often an element occurs
    abbrev one : X → X → ℕ
    one z x = cond (ties x z) 1 0

    -- how often an element, or one that ties with it, occurs in a list
    abbrev count : X → List X → ℕ
    count z xs = sum_by (one z) xs

    -- a conjunction of two negations
    tied_apart : (a b : Bool) → (not a && not b) ≡ true → (a ≡ false) × (b ≡ false)
    tied_apart true b tied = absurd (false≢true tied)
    tied_apart false true tied = absurd (false≢true tied)
    tied_apart false false tied = (refl, refl)

    -- elements that tie are equal
    tied_same : (x z : X) → ties x z ≡ true → x ≡ z
    tied_same x z tied = let apart = tied_apart (before x z) (before z x) tied in same x z apart.0 apart.1

    -- an element ties with itself
    ties_itself : (x : X) → ties x x ≡ true
    ties_itself x = rw (not_itself x) refl

    -- an element that occurs in a list without one before y is not before y
    occurs_late : (y : X) (ws : List X) → AllByRecursion (λ w. before w y ≡ false) ws → (z : X) → 0 < count z ws → before z y ≡ false
    occurs_late y [] all z some = absurd (omega (arith, some))
    occurs_late y (w ∷ ws) all z some = elim (cases_Bool (ties w z)) [
      | inl t ↦ subst (λ v. before v y ≡ false) (tied_same w z t) all.0
      | inr f ↦
          let counted : count z (w ∷ ws) ≡ 0 + count z ws = sum_by-cons (one z) w ws ∙ ap (λ b. cond b 1 0 + count z ws) f in
          occurs_late y ws all.1 z (omega (arith, some, counted))
    ]

    -- the first element of a list occurs in it
    first_occurs : (x : X) (xs : List X) → 0 < count x (x ∷ xs)
    first_occurs x xs =
        let counted : count x (x ∷ xs) ≡ 1 + count x xs = sum_by-cons (one x) x xs ∙ ap (λ b. cond b 1 0 + count x xs) (ties_itself x) in
        omega (arith, counted)

    -- the first of one list is not before the first of an ordered list with the same elements
    not_before_first : (x : X) (xs : List X) (y : X) (ys : List X) → InOrder before (y ∷ ys) → count x (x ∷ xs) ≡ count x (y ∷ ys) → before x y ≡ false
    not_before_first x xs y ys order_y counts =
        occurs_late y (y ∷ ys) (not_itself y, order_y.0) x (subst (λ n. 0 < n) counts (first_occurs x xs))

    -- two ordered lists in which each element occurs equally often are equal
    one_list : (xs ys : List X) → InOrder before xs → InOrder before ys → ((z : X) → count z xs ≡ count z ys) → xs ≡ ys
    one_list [] [] up upward counts = refl
    one_list [] (y ∷ ys) up upward counts = absurd (omega (arith, counts y, first_occurs y ys))
    one_list (x ∷ xs) [] up upward counts = absurd (omega (arith, counts x, first_occurs x xs))
    one_list (x ∷ xs) (y ∷ ys) up upward counts =
        let head : x ≡ y =
        same x y (not_before_first x xs y ys upward (counts x)) (not_before_first y ys x xs up (sym (counts y))) in
        let tail : xs ≡ ys =
        one_list xs ys up.1 upward.1 (λ z. omega (arith, counts z, sum_by-cons (one z) x xs, sum_by-cons (one z) y ys, ap (one z) head)) in
        ap (λ l. x ∷ l) tail ∙ ap (λ v. v ∷ ys) head

    -- a sorted permutation is the list in order
    pub sorted_is_in_order : (xs ys : List X) → IsPermutation xs ys → IsSortedBy before ys → ys ≡ in_order before xs
    sorted_is_in_order xs ys moved up =
        one_list ys (in_order before xs) (from_sorted ys up) (each_in_order xs)
        (λ z. sum_by-IsPermutation (one z) xs ys moved ∙ sym (sum_by-IsPermutation (one z) xs (in_order before xs) (in_order_permutes before xs)))

    -- permutations of each other are equal once in order
    pub permuted_in_order : (xs ys : List X) → IsPermutation xs ys → in_order before xs ≡ in_order before ys
    permuted_in_order xs ys moved =
        one_list (in_order before xs) (in_order before ys) (each_in_order xs) (each_in_order ys) (λ z.
        sum_by-IsPermutation (one z) xs (in_order before xs) (in_order_permutes before xs)
        ∙ sym (sum_by-IsPermutation (one z) xs ys moved)
        ∙ sym (sum_by-IsPermutation (one z) ys (in_order before ys) (in_order_permutes before ys)))
