-- A list cut into parts of n elements.
use Rattle.std.specs.Prelude.{◌≡◌, ℕ, ◌*◌, ◌<◌, zero, suc, nat_lt, Some, None, if◌then◌else◌, List, [], ◌∷◌, length, take, drop, slice_get}
use Rattle.std.specs.List.{flat_map}

-- at most `most` parts of n elements each, the last one possibly shorter
abbrev pub cut_up_to : {X : Type 0} → ℕ → ℕ → List X → List (List X)
cut_up_to zero n xs = []
cut_up_to (suc most) n [] = []
cut_up_to (suc most) n (x ∷ xs) = take n (x ∷ xs) ∷ cut_up_to most n (drop n (x ∷ xs))

-- the whole list in parts of n elements each, the last one possibly shorter
abbrev pub cut : {X : Type 0} → ℕ → List X → List (List X)
cut n xs = cut_up_to (length xs) n xs

-- part i (from 0) has the n elements from place i * n on, or as many as there are
abbrev pub CutHasParts : Type 0 → Type 0
CutHasParts X =
    (n : ℕ) (xs : List X) (i : ℕ) → 0 < n
    → slice_get (cut n xs) i ≡ (if nat_lt (i * n) (length xs) then Some (take n (drop (i * n) xs)) else None)

-- the parts, joined in order, are the list
abbrev pub CutJoins : Type 0 → Type 0
CutJoins X = (n : ℕ) (xs : List X) → 0 < n → flat_map (λ part. part) (cut n xs) ≡ xs
