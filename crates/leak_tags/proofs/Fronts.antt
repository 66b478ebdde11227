use Rattle.std.proofs.Common.{◌≡◌, ℕ, zero, suc, ◌+◌, Some, List, [], ◌∷◌, ◌++◌, take, slice_get, refl, ap, ◌∙◌, arith}

more : {X : Type 0} (xs : List X) (place : ℕ) (x : X) → slice_get xs place ≡ Some x → take (suc place) xs ≡ take place xs ++ x ∷ []
more [] place x stands = cc
more (y ∷ ys) zero x stands = let same : y ≡ x = cc in rw same refl
more (y ∷ ys) (suc place) x stands = ap (λ front. y ∷ front) (more ys place x stands)

-- the elements before the next place are those before this one and the element here
pub take_one_more : {X : Type 0} (xs : List X) (place : ℕ) (x : X) → slice_get xs place ≡ Some x → take (place + 1) xs ≡ take place xs ++ x ∷ []
take_one_more xs place x stands = let next : place + 1 ≡ suc place = omega arith in ap (λ n. take n xs) next ∙ more xs place x stands
