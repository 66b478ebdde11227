-- The walk over leaks by their places.
use Rattle.std.proofs.Common.{◌≡◌, ℕ, zero, suc, ◌+◌, ◌<◌, ◌≤◌, Bool, true, false, not, Option, Some, None, List, [], ◌∷◌, ◌++◌, length, get_or, option_and_then}
use Rattle.std.proofs.Common.{refl, sym, ap, ◌∙◌, inl, inr, subst, arith}
use native.Mathlib.Numerals.{unary_clauses}
use Rattle.std.specs.List.{slice_get}
use Rattle.std.specs.Option.{option_map_or}
use Rattle.std.proofs.lemmas.Bool.{false≢true}
use Rattle.pump_seals.specs.Moments.{MomentsRise}
use Rattle.pump_seals.specs.Repairs.{closing_of}
use Rattle.pump_seals.specs.Runs.{first_mend, is_settled_before, runs_on_from, runs_on, IsInRun}
use Rattle.pump_seals.proofs.MomentOrder.{IsLinear, not_true}
use Rattle.pump_seals.proofs.RunLemmas.{closes_last, closes_here, goes_on, run_begins, run_goes_on, run_first}

-- equal options have equal values
some_same : {M : Type 0} (x y : M) → Some x ≡ Some y → x ≡ y
some_same x y e = cc

-- a list is cut at a place, and the element after it is the first of the rest
cut_at : {M : Type 0} (xs : List M) (i : ℕ) (x : M) → slice_get xs i ≡ Some x
    → (front : List M) × (rest : List M) × (xs ≡ front ++ x ∷ rest) × (slice_get xs (i + 1) ≡ slice_get rest 0)
cut_at [] i x e = absurd cc
cut_at (y ∷ xs) zero x e = ([], xs, ap (λ z. z ∷ xs) (some_same y x e), refl)
cut_at (y ∷ xs) (suc i) x e = let (front, rest, is, next) = cut_at xs i x e in (y ∷ front, rest, ap (λ zs. y ∷ zs) is, simp unary_clauses (simp unary_clauses at next))

-- a list without a first element is empty
no_first : {M : Type 0} (xs : List M) → slice_get xs 0 ≡ None → xs ≡ []
no_first [] e = refl
no_first (x ∷ xs) e = absurd cc

some_first : {M : Type 0} (xs : List M) (x : M) → slice_get xs 0 ≡ Some x → (back : List M) × (xs ≡ x ∷ back)
some_first [] x e = absurd cc
some_first (y ∷ xs) x e = (xs, ap (λ z. z ∷ xs) (some_same y x e))

-- a list is cut at two consecutive places
pub cut_twice : {M : Type 0} (xs : List M) (i : ℕ) (x y : M) → slice_get xs i ≡ Some x → slice_get xs (i + 1) ≡ Some y
    → (front : List M) × (back : List M) × (xs ≡ front ++ x ∷ y ∷ back)
cut_twice xs i x y e f =
    let (front, rest, is, next) = cut_at xs i x e in
    let (back, begins) = some_first rest y (sym next ∙ f) in
    (front, back, is ∙ ap (λ zs. front ++ x ∷ zs) begins)

-- a list is cut at its last place
pub cut_last : {M : Type 0} (xs : List M) (i : ℕ) (x : M) → slice_get xs i ≡ Some x → slice_get xs (i + 1) ≡ None
    → (front : List M) × (xs ≡ front ++ x ∷ [])
cut_last xs i x e f =
    let (front, rest, is, next) = cut_at xs i x e in
    (front, is ∙ ap (λ zs. front ++ x ∷ zs) (no_first rest (sym next ∙ f)))

module _ {M : Type 0} (before : M → M → Bool) (linear : IsLinear before) (by_attempt : Bool) (leaks attempts mends : List M)
    (rise : MomentsRise before leaks) (rise_a : MomentsRise before attempts) (rise_m : MomentsRise before mends) where
  -- the tag at a leak that is not settled before the next one closes with the tag at the next one
  pub closing_goes_on : (i : ℕ) (x y : M) → slice_get leaks i ≡ Some x → slice_get leaks (i + 1) ≡ Some y
      → is_settled_before before by_attempt leaks attempts mends x y ≡ false
      → closing_of before by_attempt leaks attempts mends x ≡ closing_of before by_attempt leaks attempts mends y
  closing_goes_on i x y e f late =
      let (front, back, is) = cut_twice leaks i x y e f in
      subst (λ ls. MomentsRise before ls → is_settled_before before by_attempt ls attempts mends x y ≡ false
      → closing_of before by_attempt ls attempts mends x ≡ closing_of before by_attempt ls attempts mends y)
      (sym is) (λ r l. goes_on before linear by_attempt front x y back attempts mends r rise_a rise_m l) rise late

  -- the tag at a leak that is settled before the next one closes at the first mend of the leak
  pub closing_stops : (i : ℕ) (x y : M) → slice_get leaks i ≡ Some x → slice_get leaks (i + 1) ≡ Some y
      → is_settled_before before by_attempt leaks attempts mends x y ≡ true
      → closing_of before by_attempt leaks attempts mends x ≡ first_mend before by_attempt leaks attempts mends x
  closing_stops i x y e f settled =
      let (front, back, is) = cut_twice leaks i x y e f in
      subst (λ ls. MomentsRise before ls → is_settled_before before by_attempt ls attempts mends x y ≡ true
      → closing_of before by_attempt ls attempts mends x ≡ first_mend before by_attempt ls attempts mends x)
      (sym is) (λ r l. closes_here before linear by_attempt front x y back attempts mends r rise_a rise_m l) rise settled

  -- the tag at the last leak closes at the first mend of the leak
  pub closing_ends : (i : ℕ) (x : M) → slice_get leaks i ≡ Some x → slice_get leaks (i + 1) ≡ None
      → closing_of before by_attempt leaks attempts mends x ≡ first_mend before by_attempt leaks attempts mends x
  closing_ends i x e f =
      let (front, is) = cut_last leaks i x e f in
      subst (λ ls. MomentsRise before ls → closing_of before by_attempt ls attempts mends x ≡ first_mend before by_attempt ls attempts mends x)
      (sym is) (λ r. closes_last before linear by_attempt front x attempts mends r rise_a rise_m) rise

  pub next_run_begins : (i : ℕ) (x y : M) → slice_get leaks i ≡ Some x → slice_get leaks (i + 1) ≡ Some y
      → is_settled_before before by_attempt leaks attempts mends x y ≡ true → (closed : Option M)
      → closing_of before by_attempt leaks attempts mends y ≡ closed → IsInRun before by_attempt leaks attempts mends y closed y
  next_run_begins i x y e f settled closed closes =
      let (front, back, is) = cut_twice leaks i x y e f in
      subst (λ ls. MomentsRise before ls → is_settled_before before by_attempt ls attempts mends x y ≡ true
      → closing_of before by_attempt ls attempts mends y ≡ closed → IsInRun before by_attempt ls attempts mends y closed y)
      (sym is) (λ r l c. run_begins before linear by_attempt front x y back attempts mends r rise_a rise_m l closed c) rise settled closes

  pub next_run_goes_on : (i : ℕ) (x y : M) → slice_get leaks i ≡ Some x → slice_get leaks (i + 1) ≡ Some y
      → is_settled_before before by_attempt leaks attempts mends x y ≡ false → (first : M) (closed : Option M)
      → IsInRun before by_attempt leaks attempts mends first closed x → IsInRun before by_attempt leaks attempts mends first closed y
  next_run_goes_on i x y e f late first closed run =
      let (front, back, is) = cut_twice leaks i x y e f in
      subst (λ ls. MomentsRise before ls → is_settled_before before by_attempt ls attempts mends x y ≡ false
      → IsInRun before by_attempt ls attempts mends first closed x → IsInRun before by_attempt ls attempts mends first closed y)
      (sym is) (λ r l c. run_goes_on before linear by_attempt front x y back attempts mends r rise_a rise_m l first closed c) rise late run

  pub first_run_begins : (x : M) → slice_get leaks 0 ≡ Some x → (closed : Option M)
      → closing_of before by_attempt leaks attempts mends x ≡ closed → IsInRun before by_attempt leaks attempts mends x closed x
  first_run_begins x e closed closes =
      let (rest, is) = some_first leaks x e in
      subst (λ ls. MomentsRise before ls → closing_of before by_attempt ls attempts mends x ≡ closed → IsInRun before by_attempt ls attempts mends x closed x)
      (sym is) (λ r c. run_first before linear by_attempt x rest attempts mends r closed c) rise closes
