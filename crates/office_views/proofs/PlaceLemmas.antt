-- Batches and facts at places.
use Rattle.std.proofs.Common.{◌≡◌, ℕ, zero, suc, ◌+◌, ◌<◌, ◌≤◌, None, Some, List, [], ◌∷◌, length, take, drop, map, get_or, slice_get, refl, sym, ap, ◌∙◌}
use Rattle.std.proofs.Common.{subst, arith, length-append, zero-add}
use Rattle.std.specs.Option.{option_map}
use Rattle.std.proofs.lemmas.Option.{slice_get_within, slice_get-map}
use Rattle.fact_kinds.specs.declared.batch.Batch.{Batch}
use Rattle.fact_kinds.specs.Facts.{Entry}
use Rattle.office_views.specs.declared.header.Header.{Header}
use Rattle.office_views.specs.Headers.{headers_of}
use Rattle.office_views.specs.Inside.{facts_stated}

-- a header among the first headers names facts of the first batches
pub header_within : (first : ℕ) (batches : List Batch) (i n : ℕ) (d : Header) → i < n → i < length batches
    → (get_or (headers_of first batches) i d).first + (get_or (headers_of first batches) i d).count ≤ first + length (facts_stated (take n batches))
header_within first [] i n d before within = absurd (omega arith)
header_within first (b ∷ bs) i zero d before within = absurd (omega arith)
header_within first (b ∷ bs) zero (suc n) d before within = omega (arith, length-append b.facts (facts_stated (take n bs)))
header_within first (b ∷ bs) (suc i) (suc n) d before within =
    omega (arith, header_within (first + length b.facts) bs i n d (omega arith) (omega arith), length-append b.facts (facts_stated (take n bs)))

-- an element of the first part of a mapped list
pub taken_at : {X Y : Type 0} (f : X → Y) (xs : List X) (i n : ℕ) (x : X) → i < n → i < length xs → x ≡ get_or xs i x
    → slice_get (take n (map f xs)) i ≡ Some (f x)
taken_at f [] i n x before within is = absurd (omega arith)
taken_at f (y ∷ ys) i zero x before within is = absurd (omega arith)
taken_at f (y ∷ ys) zero (suc n) x before within is = ap (λ z. Some (f z)) (sym is)
taken_at f (y ∷ ys) (suc i) (suc n) x before within is = taken_at f ys i n x (omega arith) (omega arith) is

-- .. and none after them
pub none_at : {X : Type 0} (xs : List X) (i n : ℕ) → n ≤ i → slice_get (take n xs) i ≡ None
none_at [] i zero behind = refl
none_at [] i (suc n) behind = refl
none_at (x ∷ xs) i zero behind = refl
none_at (x ∷ xs) zero (suc n) behind = absurd (omega arith)
none_at (x ∷ xs) (suc i) (suc n) behind = none_at xs i n (omega arith)

-- the fact at a place after the first part
pub stated_at : (arrived : List Entry) (first i : ℕ) (e : Entry) → slice_get arrived (first + i) ≡ Some e
    → slice_get (drop first (map (λ e. e.1) arrived)) i ≡ Some e.1
stated_at [] first i e here = absurd (omega (arith, slice_get_within [] (first + i) e here))
stated_at (x ∷ xs) zero i e here =
    slice_get-map (λ e. e.1) (x ∷ xs) i ∙ ap (option_map (λ e. e.1)) (subst (λ n. slice_get (x ∷ xs) n ≡ Some e) (zero-add i) here)
stated_at (x ∷ xs) (suc first) i e here =
    let moved : suc first + i ≡ suc (first + i) = omega arith in
    stated_at xs first i e (subst (λ n. slice_get (x ∷ xs) n ≡ Some e) moved here)

-- an element of a front
pub front_at : {X : Type 0} (xs : List X) (i n : ℕ) (x : X) → i < n → slice_get xs i ≡ Some x → slice_get (take n xs) i ≡ Some x
front_at [] i n x before here = cc
front_at (y ∷ ys) i zero x before here = absurd (omega arith)
front_at (y ∷ ys) zero (suc n) x before here = here
front_at (y ∷ ys) (suc i) (suc n) x before here = front_at ys i n x (omega arith) here
