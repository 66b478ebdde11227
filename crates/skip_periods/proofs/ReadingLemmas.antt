use Rattle.std.proofs.Common.{◌≡◌, Bool, List, [], ◌∷◌, find, is_some, refl, inl, inr}
use Rattle.std.specs.List.{list_any}
use Rattle.std.proofs.lemmas.Bool.{cases_Bool}

-- an element is found exactly if some element passes
pub found_where_any : {X : Type 0} (p : X → Bool) (xs : List X) → list_any p xs ≡ is_some (find p xs)
found_where_any p [] = refl
found_where_any p (x ∷ xs) = elim (cases_Bool (p x)) [
  | inl t ↦ rw t refl
  | inr f ↦ rw f (found_where_any p xs)
]
