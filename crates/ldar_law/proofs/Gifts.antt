use Rattle.std.proofs.Common.{◌≡◌, ◌⊎◌, Option, Some, None, List, [], ◌∷◌, refl, ap, ◌∙◌, inl, inr}
use Rattle.std.specs.List.{filter_map, AllByRecursion}
use Rattle.list_words.proofs.Members.{Among}

-- an option is `None` or `Some`
pub cases_Option : {X : Type 0} (o : Option X) → (o ≡ None) ⊎ ((x : X) × (o ≡ Some x))
cases_Option None = inl refl
cases_Option (Some x) = inr (x, refl)

-- an element of the values of a list is the value of one of its elements
pub among_given : {X Y : Type 0} (f : X → Option Y) (xs : List X) (y : Y) → Among (filter_map f xs) y → (x : X) × Among xs x × (f x ≡ Some y)
among_given f [] y h = absurd h
among_given f (x ∷ xs) y h =
    elim (cases_Option (f x)) [
      | inl none ↦ let rest = among_given f xs y (rw none at h) in (rest.0, inr rest.1, rest.2)
      | inr some ↦
          let split : (some.0 ≡ y) ⊎ Among (filter_map f xs) y = rw some.1 at h in
          elim split [
            | inl here ↦ (x, inl refl, some.1 ∙ ap Some here)
            | inr there ↦ let rest = among_given f xs y there in (rest.0, inr rest.1, rest.2)
          ]
    ]

pub given_among : {X Y : Type 0} (f : X → Option Y) (xs : List X) (x : X) (y : Y) → Among xs x → f x ≡ Some y → Among (filter_map f xs) y
given_among f [] x y h e = absurd h
given_among f (z ∷ xs) x y h e =
    elim h [
      | inl here ↦ let gives : f z ≡ Some y = ap f here ∙ e in rw gives (inl refl)
      | inr there ↦
          let rest = given_among f xs x y there e in
          elim (cases_Option (f z)) [ inl none ↦ rw none rest | inr some ↦ rw some.1 (inr rest) ]
    ]

-- no element has a value
pub no_gift : {X Y : Type 0} (f : X → Option Y) (xs : List X) → AllByRecursion (λ x. f x ≡ None) xs → filter_map f xs ≡ []
no_gift f [] all = refl
no_gift f (x ∷ xs) all = rw (all.0, no_gift f xs all.1) refl
