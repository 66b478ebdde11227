-- Histories with more batches after them: which may be kept, which pass, and which are new.
use Rattle.std.proofs.Common.{◌≡◌, inl, inr, ℕ, suc, ◌+◌, ◌<◌, ◌≤◌, Bool, true, false, Option, Some, None, is_some, List, [], ◌∷◌, ◌++◌, length}
use Rattle.std.proofs.Common.{take, drop}
use Rattle.std.proofs.Common.{get_or, map, refl, sym, ◌∙◌, ap, subst, arith, append_assoc}
use Rattle.std.specs.Prelude.{◌-◌, ◌↔◌, IsTrue, cond, slice_get}
use Rattle.std.specs.List.{position_from}
use Rattle.std.proofs.lemmas.Option.{same_Some, slice_get-get_or}
use Rattle.std.proofs.lemmas.List.{length-take, length-drop, get_or-drop, get_or-take}
use Rattle.std.proofs.lemmas.Bool.{cases_Bool, false≢true}
use Rattle.std.proofs.lemmas.List.{take-append-drop}
use Rattle.batch_positions.specs.Positions.{position_in}
use Rattle.fact_kinds.specs.declared.batch.Batch.{Batch}
use Rattle.fact_kinds.specs.declared.identity.Identity.{Identity}
use Rattle.fact_kinds.specs.Identity.{identity_of, position_of}
use Rattle.fact_kinds.proofs.OrderFree.{facts_count}
use Rattle.ldar_journal.specs.Image.{IsKept}
use Rattle.ldar_journal.proofs.Histories.{IsKept-front}
use Rattle.ldar_journal.proofs.KeepingLemmas.{next_one, position_of-is}
use Rattle.ldar_journal.proofs.Positions.{IsKept-twice, IsKept-push}
use Rattle.ldar_law.specs.declared.verdict.Verdict.TheVariants.{Pass}
use Rattle.ldar_law.specs.Machine.{IsNew, batch_at}
use Rattle.ldar_law.specs.Verdicts.{is_ruly, verdict_on}
use Rattle.ldar_law.proofs.VerdictLemmas.{ruly_is_each, passes_undenied}
use Rattle.history_laws.proofs.Passing.{one_more_passes}
use Rattle.office_book.specs.Archive.{IsKeptAt}

-- an option without a value is None
none_where : (o : Option ℕ) → is_some o ≡ false → o ≡ None
none_where None none = refl
none_where (Some n) none = absurd (false≢true (sym none))

-- ---- one of the batches after a history

-- the batches before it, and those after it
pub cut_at : (history batches : List Batch) (i : ℕ) (batch : Batch) → i < length batches → batch ≡ get_or batches i batch
    → history ++ batches ≡ (history ++ take i batches) ++ batch ∷ drop (i + 1) batches
cut_at history batches i batch within is =
    ap (λ (l : List Batch). history ++ l)
    (sym (take-append-drop (i + 1) batches) ∙ ap (λ (l : List Batch). l ++ drop (i + 1) batches) (next_one batches i batch within is)
    ∙ append_assoc (take i batches) (batch ∷ []) (drop (i + 1) batches))
    ∙ sym (append_assoc history (take i batches) (batch ∷ drop (i + 1) batches))

-- one of the batches passes after those before it
pub passes_at : (history batches : List Batch) (i : ℕ) (batch : Batch) → i < length batches → batch ≡ get_or batches i batch
    → IsTrue (is_ruly (history ++ batches))
    → verdict_on (history ++ take i batches) batch ≡ Pass
passes_at history batches i batch within is ruly =
    (ruly_is_each (history ++ batches)).0 ruly (history ++ take i batches) batch (drop (i + 1) batches) (cut_at history batches i batch within is)

-- the batches up to it may be kept
pub kept_to : (history batches : List Batch) (i : ℕ) (batch : Batch) → i < length batches → batch ≡ get_or batches i batch → IsKept (history ++ batches)
    → IsKept ((history ++ take i batches) ++ batch ∷ [])
kept_to history batches i batch within is kept =
    IsKept-front ((history ++ take i batches) ++ batch ∷ []) (drop (i + 1) batches)
    (subst (λ (l : List Batch). IsKept l) (cut_at history batches i batch within is
    ∙ sym (append_assoc (history ++ take i batches) (batch ∷ []) (drop (i + 1) batches))) kept)

-- a batch that may be kept after a history is new there
pub new_where_kept : (history : List Batch) (batch : Batch) → IsKept (history ++ batch ∷ []) → IsNew history batch
new_where_kept history batch kept =
    elim (cases_Bool (is_some (position_of (identity_of batch) history))) [
      | inl there ↦ absurd (IsKept-twice history batch there kept)
      | inr new ↦ none_where (position_of (identity_of batch) history) new
    ]

-- one of the batches is new after those before it
pub new_at : (history batches : List Batch) (i : ℕ) (batch : Batch) → i < length batches → batch ≡ get_or batches i batch → IsKept (history ++ batches)
    → IsNew (history ++ take i batches) batch
new_at history batches i batch within is kept = new_where_kept (history ++ take i batches) batch (kept_to history batches i batch within is kept)

-- the identity of a new batch is not among those of the history
pub new_identity : (history : List Batch) (identities : List Identity) (batch : Batch) → identities ≡ map identity_of history → IsNew history batch
    → position_in (identity_of batch) identities ≡ None
new_identity history identities batch known new =
    ap (λ (l : List Identity). position_in (identity_of batch) l) known ∙ sym (position_of-is (identity_of batch) history) ∙ new

-- ---- one more batch

-- a batch that is new and passes may be kept
pub kept_more : (history : List Batch) (batch : Batch) → IsKept history → IsNew history batch → verdict_on history batch ≡ Pass → IsKept (history ++ batch ∷ [])
kept_more history batch kept new passes =
    IsKept-push history batch (ap is_some new) kept (omega (arith, facts_count history, ((passes_undenied history batch).0 passes).1))

-- a history with a batch that passes is ruly
pub ruly_more : (history : List Batch) (batch : Batch) → IsTrue (is_ruly history) → verdict_on history batch ≡ Pass → IsTrue (is_ruly (history ++ batch ∷ []))
ruly_more history batch ruly passes = (one_more_passes history batch).onward ruly passes

-- ---- the position of a kept batch

-- the first element that passes is at the place where it was found
pub found_from : {X : Type 0} (p : X → Bool) (i : ℕ) (xs : List X) (k : ℕ) → position_from p i xs ≡ Some k → (i ≤ k) × (x : X) × (slice_get xs (k - i) ≡ Some x)
found_from p i [] k e = absurd cc
found_from {X = X} p i (x ∷ xs) k e = by (p x) (λ later. found_from p (i + 1) xs k later) e
  where
    by : (b : Bool) → (position_from p (i + 1) xs ≡ Some k → (i + 1 ≤ k) × (y : X) × (slice_get xs (k - (i + 1)) ≡ Some y))
        → cond b (Some i) (position_from p (i + 1) xs) ≡ Some k → (i ≤ k) × (y : X) × (slice_get (x ∷ xs) (k - i) ≡ Some y)
    by true rest e =
        let same : i ≡ k = same_Some i k e in
        let first : 0 ≡ k - i = omega arith in
        (omega arith, x, subst (λ (j : ℕ). slice_get (x ∷ xs) j ≡ Some x) first refl)
    by false rest e =
        let found = rest e in
        let later = found.0 in
        let next : suc (k - (i + 1)) ≡ k - i = omega arith in
        (omega arith, found.1, subst (λ (j : ℕ). slice_get (x ∷ xs) j ≡ Some found.1) next found.2)

-- a batch whose identity was found is kept there, with equal or with other content
pub standing_kept : (history : List Batch) (identities : List Identity) (batch : Batch) (position : ℕ) (same : Bool) → identities ≡ map identity_of history
    → position_in (identity_of batch) identities ≡ Some position → IsTrue same ↔ (batch_at history position ≡ Some batch)
    → IsKeptAt history batch position same
standing_kept history identities batch position same known found tells =
    let here : position_of (identity_of batch) history ≡ Some position =
    position_of-is (identity_of batch) history ∙ ap (λ (l : List Identity). position_in (identity_of batch) l) (sym known) ∙ found in
    let there = found_from _ 1 history position here in (
      there.1,
      (here, there.2),
      λ yes. same_Some there.1 batch (sym there.2 ∙ tells.0 yes),
      λ no is. false≢true (sym no ∙ tells.1 (there.2 ∙ ap Some is)),
    )

-- a batch whose identity was not found is new
pub standing_new : (history : List Batch) (identities : List Identity) (batch : Batch) → identities ≡ map identity_of history
    → position_in (identity_of batch) identities ≡ None → IsNew history batch
standing_new history identities batch known none =
    position_of-is (identity_of batch) history ∙ ap (λ (l : List Identity). position_in (identity_of batch) l) (sym known) ∙ none

-- ---- batches with room, one after the other

-- the first of the remaining batches with room
pub next_spare : (spare batches : List Batch) (i : ℕ) (batch : Batch) → take (length batches) spare ≡ batches → i < length batches
    → batch ≡ get_or batches i batch
    → slice_get (drop i spare) 0 ≡ Some batch
next_spare spare batches i batch roomy within is =
    let long = length-take (length batches) spare in
    let same = ap length roomy in
    let left = length-drop i spare in
    slice_get-get_or (drop i spare) 0 batch (omega arith)
    ∙ ap Some (get_or-drop i spare 0 batch ∙ ap (λ (j : ℕ). get_or spare j batch) (omega arith)
    ∙ sym (get_or-take (length batches) spare i batch within) ∙ ap (λ (l : List Batch). get_or l i batch) roomy ∙ sym is)
