-- When a batch is new, and when it is accepted.
use Rattle.std.proofs.Common.{◌≡◌, ℕ, ◌+◌, Bool, true, false, List, [], ◌∷◌, map, Option, Some, None, refl, sym, ◌∙◌, ap}
use Rattle.std.specs.Prelude.{not, ◌||◌, ◌&&◌, is_none, cond}
use Rattle.std.specs.List.{list_any, position_from}
use Rattle.std.proofs.lemmas.Bool.{false≢true}
use Rattle.fact_kinds.specs.declared.batch.Batch.{Batch}
use Rattle.fact_kinds.specs.declared.identity.Identity.{Identity}
use Rattle.fact_kinds.specs.Identity.{identity_of, position_of}
use Rattle.ldar_law.specs.declared.verdict.Verdict.{Verdict}
use Rattle.ldar_law.specs.declared.verdict.Verdict.TheVariants.{Pass, Denied, Full}
use Rattle.ldar_law.specs.Machine.{IsNew, is_accepted}
use Rattle.ldar_law.specs.Verdicts.{is_pass, verdict_on}
use Rattle.memory_office.specs.Known.{is_identity}

-- no element has a value that passes exactly if the mapped list has none that does
none_among : {A B : Type 0} (f : A → B) (test : B → Bool) (k : ℕ) (xs : List A)
    → is_none (position_from (λ x. test (f x)) k xs) ≡ not (list_any test (map f xs))
none_among f test k [] = refl
none_among {A = A} f test k (x ∷ xs) = by (test (f x)) (none_among f test (k + 1) xs)
  where
    by : (b : Bool) → is_none (position_from (λ (y : A). test (f y)) (k + 1) xs) ≡ not (list_any test (map f xs))
        → is_none (cond b (Some k) (position_from (λ (y : A). test (f y)) (k + 1) xs)) ≡ not (b || list_any test (map f xs))
    by true rest = refl
    by false rest = rest

-- a batch is new exactly if its identity is not among those of the kept batches
pub new_among : (history : List Batch) (identities : List Identity) (batch : Batch) → identities ≡ map identity_of history
    → not (list_any (is_identity (identity_of batch)) identities) ≡ is_none (position_of (identity_of batch) history)
new_among history identities batch kept =
    ap (λ (l : List Identity). not (list_any (is_identity (identity_of batch)) l)) kept
    ∙ sym (none_among identity_of (is_identity (identity_of batch)) 1 history)

-- a batch without a position that passes is new and passes
new_and_passes : (position : Option ℕ) (verdict : Verdict) → (is_none position && is_pass verdict) ≡ true → (position ≡ None) × (verdict ≡ Pass)
new_and_passes None Pass is = (refl, refl)
new_and_passes None (Denied fact rule) is = absurd (false≢true is)
new_and_passes None (Full facts) is = absurd (false≢true is)
new_and_passes (Some n) verdict is = absurd (false≢true is)

-- a batch that is accepted is new
pub accepted_is_new : (history : List Batch) (batch : Batch) → is_accepted history batch ≡ true → IsNew history batch
accepted_is_new history batch is = (new_and_passes (position_of (identity_of batch) history) (verdict_on history batch) is).0

-- a batch that is accepted passes
pub accepted_passes : (history : List Batch) (batch : Batch) → is_accepted history batch ≡ true → verdict_on history batch ≡ Pass
accepted_passes history batch is = (new_and_passes (position_of (identity_of batch) history) (verdict_on history batch) is).1
