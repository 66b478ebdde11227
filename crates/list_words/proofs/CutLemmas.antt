use Rattle.std.proofs.Common.{◌≡◌, Bool, true, false, cond, List, [], ◌∷◌, ◌++◌, filter, take_while, one-add, refl, sym, ap, ◌∙◌, inl, inr}
use Rattle.std.specs.List.{AllByRecursion, prefix_len}
use Rattle.std.proofs.lemmas.Bool.{cases_Bool, false≢true}
use Rattle.list_words.specs.Order.{IsStrictOrder, Ascends}
use Rattle.list_words.proofs.Ascending.{not_behind}
use Rattle.list_words.proofs.Members.{all_weaker}

-- a filter that each element fails is empty
pub filter_none : {X : Type 0} (p : X → Bool) (xs : List X) → AllByRecursion (λ x. p x ≡ false) xs → filter p xs ≡ []
filter_none p [] none = refl
filter_none p (x ∷ xs) none = rw none.0 (filter_none p xs none.1)

-- a filter that each element passes is the list
pub filter_all : {X : Type 0} (p : X → Bool) (xs : List X) → AllByRecursion (λ x. p x ≡ true) xs → filter p xs ≡ xs
filter_all p [] all = refl
filter_all p (x ∷ xs) all = rw all.0 (ap (λ ys. x ∷ ys) (filter_all p xs all.1))

-- `take_while` of a list with one more element at its head
pub take_while-cons : {X : Type 0} (p : X → Bool) (x : X) (xs : List X) → take_while p (x ∷ xs) ≡ cond (p x) (x ∷ take_while p xs) []
take_while-cons p x xs = elim (cases_Bool (p x)) [ inl e ↦ rw (e, one-add (prefix_len p xs)) refl | inr e ↦ rw e refl ]

module _ {X : Type 0} (before : X → X → Bool) where
  -- each element of an ascending list is before a later one
  before_last : (w x : X) (ws ys : List X) → AllByRecursion (λ y. before w y ≡ true) (ws ++ x ∷ ys) → before w x ≡ true
  before_last w x [] ys all = all.0
  before_last w x (v ∷ ws) ys all = before_last w x ws ys all.1

  -- the elements after a cut are exactly the later ones
  pub later_of_cut : IsStrictOrder before → (xs : List X) (x : X) (ys : List X) → Ascends before (xs ++ x ∷ ys) → filter (λ y. before x y) (xs ++ x ∷ ys) ≡ ys
  later_of_cut strict [] x ys up = rw (strict.irreflexive x) (filter_all (λ y. before x y) ys up.0)
  later_of_cut strict (w ∷ ws) x ys up =
      rw (not_behind before strict w x (before_last w x ws ys up.0)) (later_of_cut strict ws x ys up.1)

  -- the elements before a cut are exactly the earlier ones
  pub earlier_of_cut : IsStrictOrder before → (xs : List X) (x : X) (ys : List X) → Ascends before (xs ++ x ∷ ys) → filter (λ y. before y x) (xs ++ x ∷ ys) ≡ xs
  earlier_of_cut strict [] x ys up =
      rw (strict.irreflexive x) (filter_none (λ y. before y x) ys
      (all_weaker (λ y. before x y ≡ true) (λ y. before y x ≡ false) (λ y e. not_behind before strict x y e) ys up.0))
  earlier_of_cut strict (w ∷ ws) x ys up =
      rw (before_last w x ws ys up.0) (ap (λ zs. w ∷ zs) (earlier_of_cut strict ws x ys up.1))

  -- an element after one that fails fails too
  fails_behind : (p : X → Bool) (x y : X) → p x ≡ false → before x y ≡ true → ((v w : X) → before v w ≡ true → p w ≡ true → p v ≡ true) → p y ≡ false
  fails_behind p x y e later closed =
      elim (cases_Bool (p y)) [ inl t ↦ absurd (false≢true (sym e ∙ closed x y later t)) | inr f ↦ f ]

  -- a test that passes every element before one that passes selects a prefix
  pub front_is_cut : (p : X → Bool) (xs : List X) → Ascends before xs → ((x y : X) → before x y ≡ true → p y ≡ true → p x ≡ true)
      → filter p xs ≡ take_while p xs
  front_is_cut p [] up closed = refl
  front_is_cut p (x ∷ xs) up closed =
      elim (cases_Bool (p x)) [
        | inl e ↦ rw (take_while-cons p x xs, e) (ap (λ ys. x ∷ ys) (front_is_cut p xs up.1 closed))
        | inr e ↦ rw (take_while-cons p x xs, e)
            (filter_none p xs (all_weaker (λ y. before x y ≡ true) (λ y. p y ≡ false) (λ y later. fails_behind p x y e later closed) xs up.0))
      ]
