use Rattle.std.proofs.Common.{◌≡◌, Bool, true, false, ◌||◌, cond, Option, Some, None, List, [], ◌∷◌, find, filter, refl, sym, ap, ◌∙◌, inl, inr}
use Rattle.std.specs.List.{list_any, filter_map, cons_option}
use Rattle.std.proofs.lemmas.Bool.{cases_Bool, false≢true}
use Rattle.list_words.specs.Words.{last_such}
use Rattle.list_words.proofs.WordLemmas.{last_such-cons, option_or-None}

-- an element that fails q fails p, which implies q
fails_too : {X : Type 0} (p q : X → Bool) → ((x : X) → p x ≡ true → q x ≡ true) → (x : X) → q x ≡ false → p x ≡ false
fails_too p q implies x e = elim (cases_Bool (p x)) [ inl t ↦ absurd (false≢true (sym e ∙ implies x t)) | inr f ↦ f ]

-- a filter by q before a search for p, which implies q, does not change whether one is found
pub list_any_narrowed : {X : Type 0} (p q : X → Bool) → ((x : X) → p x ≡ true → q x ≡ true) → (xs : List X) → list_any p (filter q xs) ≡ list_any p xs
list_any_narrowed p q implies [] = refl
list_any_narrowed p q implies (x ∷ xs) =
    elim (cases_Bool (q x)) [
      | inl e ↦ rw e (ap (λ b. p x || b) (list_any_narrowed p q implies xs))
      | inr e ↦ rw (e, fails_too p q implies x e) (list_any_narrowed p q implies xs)
    ]

-- a filter by q does not change the first element that passes p, which implies q
pub find_narrowed : {X : Type 0} (p q : X → Bool) → ((x : X) → p x ≡ true → q x ≡ true) → (xs : List X) → find p (filter q xs) ≡ find p xs
find_narrowed p q implies [] = refl
find_narrowed p q implies (x ∷ xs) =
    elim (cases_Bool (q x)) [
      | inl e ↦ rw e (ap (λ o. cond (p x) (Some x) o) (find_narrowed p q implies xs))
      | inr e ↦ rw (e, fails_too p q implies x e) (find_narrowed p q implies xs)
    ]

-- a filter by q does not change the last element that passes p, which implies q
pub last_such_narrowed : {X : Type 0} (p q : X → Bool) → ((x : X) → p x ≡ true → q x ≡ true) → (xs : List X) → last_such p (filter q xs) ≡ last_such p xs
last_such_narrowed p q implies [] = refl
last_such_narrowed p q implies (x ∷ xs) =
    elim (cases_Bool (q x)) [
      | inl e ↦ rw e (last_such-cons p x (filter q xs) ∙ rw (last_such_narrowed p q implies xs) (sym (last_such-cons p x xs)))
      | inr e ↦ rw e (last_such_narrowed p q implies xs ∙ sym (last_such-cons p x xs ∙ rw (fails_too p q implies x e) (option_or-None (last_such p xs))))
    ]

-- a filter by q does not change which elements pass p, which implies q
pub filter_narrowed : {X : Type 0} (p q : X → Bool) → ((x : X) → p x ≡ true → q x ≡ true) → (xs : List X) → filter p (filter q xs) ≡ filter p xs
filter_narrowed p q implies [] = refl
filter_narrowed p q implies (x ∷ xs) =
    elim (cases_Bool (q x)) [
      | inl e ↦ rw e (ap (λ ys. cond (p x) (x ∷ ys) ys) (filter_narrowed p q implies xs))
      | inr e ↦ rw (e, fails_too p q implies x e) (filter_narrowed p q implies xs)
    ]

-- a filter before a map changes nothing if what fails the filter has no value
pub filter_map_narrowed : {X Y : Type 0} (f : X → Option Y) (q : X → Bool) → ((x : X) → q x ≡ false → f x ≡ None) → (xs : List X)
    → filter_map f (filter q xs) ≡ filter_map f xs
filter_map_narrowed f q implies [] = refl
filter_map_narrowed f q implies (x ∷ xs) =
    elim (cases_Bool (q x)) [
      | inl e ↦ rw e (ap (λ ys. cons_option (f x) ys) (filter_map_narrowed f q implies xs))
      | inr e ↦ rw (e, implies x e) (filter_map_narrowed f q implies xs)
    ]

-- two tests that agree on each element agree on the existence of one
pub list_any_agree : {X : Type 0} (p q : X → Bool) → ((x : X) → p x ≡ q x) → (xs : List X) → list_any p xs ≡ list_any q xs
list_any_agree p q same [] = refl
list_any_agree p q same (x ∷ xs) = rw (same x, list_any_agree p q same xs) refl

-- two tests that agree on each element find the same first one
pub find_agree : {X : Type 0} (p q : X → Bool) → ((x : X) → p x ≡ q x) → (xs : List X) → find p xs ≡ find q xs
find_agree p q same [] = refl
find_agree p q same (x ∷ xs) = rw (same x, find_agree p q same xs) refl

-- two tests that agree on each element select the same elements
pub filter_agree : {X : Type 0} (p q : X → Bool) → ((x : X) → p x ≡ q x) → (xs : List X) → filter p xs ≡ filter q xs
filter_agree p q same [] = refl
filter_agree p q same (x ∷ xs) = rw (same x, filter_agree p q same xs) refl
