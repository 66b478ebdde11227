use Rattle.std.proofs.Common.{◌≡◌, ℕ, zero, suc, ◌+◌, ◌-◌, ◌<◌, ◌≤◌, Bool, true, List, [], ◌∷◌, length, drop, get_or, subst, arith}
use Rattle.std.proofs.lemmas.List.{drop_more}
use Rattle.list_words.specs.Order.{IsStrictOrder, Ascends}
use Rattle.list_words.proofs.Ascending.{before_all}

-- Ascending lists, tested two neighbours at a time.
module _ {X : Type 0} (before : X → X → Bool) where
  -- a single element is in order
  pub alone : (xs : List X) (n : ℕ) → length xs ≤ n + 1 → Ascends before (drop n xs)
  alone [] zero few = tt
  alone [] (suc n) few = tt
  alone (x ∷ []) zero few = (tt, tt)
  alone (x ∷ y ∷ xs) zero few = absurd (omega arith)
  alone (x ∷ xs) (suc n) few = alone xs n (omega (arith, few))

  -- one more element at the head keeps the order if it is before the first one
  pub one_in_front : IsStrictOrder before → (xs : List X) (n : ℕ) (d e : X) → 1 < n → n ≤ length xs →
      before (get_or xs (n - 1 - 1) d) (get_or xs (n - 1) e) ≡ true → Ascends before (drop (n - 1) xs) → Ascends before (drop (n - 1 - 1) xs)
  one_in_front strict xs n d e some within first up =
      let x = get_or xs (n - 1 - 1) d in
      let y = get_or xs (n - 1) e in
      let next : n - 1 - 1 + 1 ≡ n - 1 = omega arith in
      let low : n - 1 - 1 < length xs = omega arith in
      let high : n - 1 < length xs = omega arith in
      let from_y : drop (n - 1) xs ≡ y ∷ drop (n - 1 + 1) xs = drop_more xs (n - 1) e high in
      let from_x : drop (n - 1 - 1) xs ≡ x ∷ drop (n - 1 - 1 + 1) xs = drop_more xs (n - 1 - 1) d low in
      let rises : Ascends before (y ∷ drop (n - 1 + 1) xs) = subst (Ascends before) from_y up in
      rw (from_x, next, from_y) (before_all before strict x y (drop (n - 1 + 1) xs) first rises, rises)

  -- neighbours of an ascending list are in order
  pub neighbours : (xs : List X) (i : ℕ) (d e : X) → Ascends before xs → suc i < length xs → before (get_or xs i d) (get_or xs (suc i) e) ≡ true
  neighbours [] i d e up within = absurd (omega arith)
  neighbours (z ∷ []) i d e up within = absurd (omega arith)
  neighbours (z ∷ w ∷ xs) zero d e up within = up.0.0
  neighbours (z ∷ w ∷ xs) (suc i) d e up within = neighbours (w ∷ xs) i d e up.1 (omega (arith, within))

  -- two neighbours that are not in order show that the list does not ascend
  pub out_of_order : (xs : List X) (n : ℕ) (d e : X) → 1 < n → n ≤ length xs → Ascends before xs → before (get_or xs (n - 1 - 1) d) (get_or xs (n - 1) e) ≡ true
  out_of_order xs n d e some within up =
      let next : suc (n - 1 - 1) ≡ n - 1 = omega arith in
      subst (λ k. before (get_or xs (n - 1 - 1) d) (get_or xs k e) ≡ true) next (neighbours xs (n - 1 - 1) d e up (omega arith))
