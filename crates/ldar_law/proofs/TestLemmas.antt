use Rattle.std.proofs.Common.{◌≡◌, Bool, true, false, ◌&&◌, ◌||◌, List, [], ◌∷◌, refl, subst, inl, inr}
use Rattle.std.specs.List.{AllByRecursion, list_any}
use Rattle.std.proofs.lemmas.Bool.{cases_Bool, false≢true}
use Rattle.list_words.specs.Order.{Ascends}

both_of : (a b : Bool) → (a && b) ≡ true → (a ≡ true) × (b ≡ true)
both_of true true e = (refl, refl)
both_of true false e = absurd (false≢true e)
both_of false b e = absurd (false≢true e)

-- if two tests both pass, each one passes
pub both : {a b : Bool} → (a && b) ≡ true → (a ≡ true) × (b ≡ true)
both {a} {b} e = both_of a b e

-- some element passes a test that another one implies
pub list_any_implied : {X : Type 0} (p q : X → Bool) → ((x : X) → p x ≡ true → q x ≡ true) → (xs : List X) → list_any p xs ≡ true → list_any q xs ≡ true
list_any_implied p q implies [] e = e
list_any_implied p q implies (x ∷ xs) e = elim (cases_Bool (p x)) [
  | inl t ↦ rw (implies x t) refl
  | inr f ↦ elim (cases_Bool (q x)) [ inl t ↦ rw t refl | inr g ↦ rw g (list_any_implied p q implies xs (subst (λ b. (b || list_any p xs) ≡ true) f e)) ]
]

-- if some element passes, there is one that does
pub passing : {X : Type 0} (p : X → Bool) (xs : List X) → list_any p xs ≡ true → (x : X) × (p x ≡ true)
passing p [] e = absurd (false≢true e)
passing p (x ∷ xs) e = elim (cases_Bool (p x)) [
  | inl t ↦ (x, t)
  | inr f ↦ passing p xs (subst (λ b. (b || list_any p xs) ≡ true) f e)
]

-- a property of all elements, implied by another one
pub all_implied : {X : Type 0} (P Q : X → Type 0) → ((x : X) → P x → Q x) → (xs : List X) → AllByRecursion P xs → AllByRecursion Q xs
all_implied P Q implies [] h = tt
all_implied P Q implies (x ∷ xs) h = (implies x h.0, all_implied P Q implies xs h.1)

-- a list that ascends by one order ascends by an order that it implies
pub ascends_implied : {X : Type 0} (b c : X → X → Bool) → ((x y : X) → b x y ≡ true → c x y ≡ true) → (xs : List X) → Ascends b xs → Ascends c xs
ascends_implied b c implies [] h = tt
ascends_implied b c implies (x ∷ xs) h = (all_implied (λ y. b x y ≡ true) (λ y. c x y ≡ true) (implies x) xs h.0, ascends_implied b c implies xs h.1)
