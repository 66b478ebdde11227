-- Batches at places of a history.
use Rattle.std.proofs.Common.{◌≡◌, ℕ, zero, suc, ◌+◌, ◌-◌, ◌≤◌, Some, List, [], ◌∷◌, ◌++◌, take, drop, slice_get}
use Rattle.std.proofs.Common.{sym, ap, subst, ◌∙◌, arith}
use Rattle.std.proofs.lemmas.List.{take_more}
use Rattle.std.proofs.lemmas.Option.{slice_get_within, get_or_from_slice_get}

-- an element after the first ones
behind : {X : Type 0} (xs : List X) (start i : ℕ) (x : X) → slice_get xs (start + i) ≡ Some x → slice_get (drop start xs) i ≡ Some x
behind xs zero i x here = let same : zero + i ≡ i = omega arith in subst (λ n. slice_get xs n ≡ Some x) same here
behind [] (suc start) i x here = cc
behind (y ∷ xs) (suc start) i x here =
    let same : suc start + i ≡ suc (start + i) = omega arith in
    behind xs start i x (subst (λ n. slice_get (y ∷ xs) n ≡ Some x) same here)

-- the elements between two places, and the next one
pub one_more : {X : Type 0} (xs : List X) (start now : ℕ) (x : X) → start ≤ now → slice_get xs (now + 1 - 1) ≡ Some x
    → take (now - start) (drop start xs) ++ x ∷ [] ≡ take (now + 1 - start) (drop start xs)
one_more xs start now x le here =
    let place : now + 1 - 1 ≡ start + (now - start) = omega (arith, le) in
    let next : now + 1 - start ≡ now - start + 1 = omega (arith, le) in
    let found = behind xs start (now - start) x (subst (λ n. slice_get xs n ≡ Some x) place here) in
    let rest = drop start xs in
    sym (ap (λ n. take n rest) next ∙ take_more rest (now - start) x (slice_get_within rest (now - start) x found)
    ∙ ap (λ y. take (now - start) rest ++ y ∷ []) (get_or_from_slice_get rest (now - start) x x found))
