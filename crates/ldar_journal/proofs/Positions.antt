-- The position of a batch's identity in a history, and how one more batch changes it.
use Rattle.std.proofs.Common.{◌≡◌, ℕ, ◌+◌, ◌<◌, ◌≤◌, Bool, true, false, ◌&&◌, ◌==◌, not, cond, List, [], ◌∷◌, ◌++◌, length, Some, None, is_some, ◌⊎◌, refl}
use Rattle.std.proofs.Common.{sym, ◌∙◌, ap₂, inl, inr, subst, arith, length-append}
use Rattle.std.specs.List.{list_any, position_from}
use Rattle.std.specs.Option.{option_or}
use Rattle.std.proofs.lemmas.Bool.{cases_Bool}
use Rattle.std.proofs.lemmas.Bool.Decides.{nat_tests}
use Rattle.std.proofs.lemmas.Grind.{common_steps}
use Rattle.std.proofs.lemmas.List.Folds.{list_any-append}
use Rattle.std.proofs.lemmas.List.Sums.{sum_by-append}
use Rattle.fact_kinds.specs.declared.batch.Batch.{Batch}
use Rattle.fact_kinds.specs.declared.identity.Identity.{Identity}
use Rattle.fact_kinds.specs.Identity.{identity_of, is_of, is_same_identity, identities_differ, position_of}
use Rattle.ldar_journal.specs.Image.{fact_count, IsKept}

-- the first place of an element that passes, in a list with one more
pub position_from-push : {X : Type 0} (p : X → Bool) (i : ℕ) (xs : List X) (y : X)
    → position_from p i (xs ++ y ∷ []) ≡ option_or (position_from p i xs) (cond (p y) (Some (i + length xs)) None)
position_from-push p i [] y = grind (arith, common_steps)
position_from-push p i (x ∷ xs) y = let rest = position_from-push p (i + 1) xs y in grind (arith, common_steps)

-- there is a place exactly if some element passes
pub is_some-position_from : {X : Type 0} (p : X → Bool) (i : ℕ) (xs : List X) → is_some (position_from p i xs) ≡ list_any p xs
is_some-position_from p i [] = refl
is_some-position_from p i (x ∷ xs) = let rest = is_some-position_from p (i + 1) xs in grind (arith, common_steps)

==-swap : (a b : ℕ) → (a == b) ≡ (b == a)
==-swap a b = grind (arith, nat_tests)

-- having the same identity is symmetric
pub is_same_identity-swap : (a b : Batch) → is_same_identity a b ≡ is_same_identity b a
is_same_identity-swap a b = rw (==-swap a.handheld b.handheld, ==-swap a.number b.number) refl

-- the identities of a history with one more batch differ exactly if they did before and the new one is not among them
pub identities_differ-push : (xs : List Batch) (y : Batch) → identities_differ (xs ++ y ∷ []) ≡ (identities_differ xs && not (list_any (is_same_identity y) xs))
identities_differ-push [] y = refl
identities_differ-push (x ∷ xs) y =
    let rest = identities_differ-push xs y in
    let any = list_any-append (is_same_identity x) xs (y ∷ []) in
    let swapped = is_same_identity-swap x y in
    grind (arith, common_steps)

pub fact_count-push : (xs : List Batch) (y : Batch) → fact_count (xs ++ y ∷ []) ≡ fact_count xs + length y.facts
fact_count-push xs y = omega (arith, sum_by-append (λ (batch : Batch). length batch.facts) xs (y ∷ []))

-- a batch whose identity is already there cannot be kept
pub IsKept-twice : (xs : List Batch) (y : Batch) → is_some (position_of (identity_of y) xs) ≡ true → ¬ (IsKept (xs ++ y ∷ []))
IsKept-twice xs y there kept =
    let any = is_some-position_from (is_same_identity y) 1 xs in
    let differ = identities_differ-push xs y in
    let kept_differ : identities_differ (xs ++ y ∷ []) ≡ true = kept.differ in
    grind (arith, common_steps)

-- a batch with a new identity can be kept if its facts fit
pub IsKept-push : (xs : List Batch) (y : Batch) → is_some (position_of (identity_of y) xs) ≡ false → IsKept xs → fact_count xs + length y.facts ≤ 8_000_000
    → IsKept (xs ++ y ∷ [])
IsKept-push xs y new kept fits = record {
  differ =
      let any = is_some-position_from (is_same_identity y) 1 xs in
      let differ = identities_differ-push xs y in
      let kept_differ : identities_differ xs ≡ true = kept.differ in
      grind (arith, common_steps);
  fits = omega (arith, fact_count-push xs y);
}
