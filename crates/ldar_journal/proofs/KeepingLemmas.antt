-- What is known about a history with one more batch.
use Rattle.std.proofs.Common.{◌≡◌, ◌≢◌, ◌⊎◌, inl, inr, ℕ, ◌+◌, ◌-◌, ◌<◌, ◌≤◌, List, [], ◌∷◌, ◌++◌, length, take, drop, map, get_or, Option, Some, None}
use Rattle.std.proofs.Common.{is_some, Bool, true, false, cond, refl, sym, ◌∙◌, ap, subst, arith, length-append, append_assoc, add-one}
use Rattle.std.specs.List.{position_from}
use Rattle.std.proofs.lemmas.List.{take-take, take_all, length-take-le, map-append, take-append-drop, length-map, append-nil}
use Rattle.std.proofs.Math.Seq.{take-append_seam, take-suc}
use Rattle.batch_positions.specs.Positions.{is_identity, position_in, PositionsState}
use Rattle.fact_kinds.specs.declared.batch.Batch.{Batch}
use Rattle.fact_kinds.specs.declared.identity.Identity.{Identity}
use Rattle.fact_kinds.specs.Identity.{identity_of, is_of, position_of}
use Rattle.ldar_journal.specs.Image.{fact_count, IsKept}
use Rattle.ldar_journal.specs.Known.{IsKnown, AddsBatch}
use Rattle.ldar_journal.proofs.Histories.{IsKept-front}
use Rattle.ldar_journal.proofs.Positions.{IsKept-twice, IsKept-push, fact_count-push}

-- the position of an identity among batches is its position among their identities
position_from-is : (q : Identity) (i : ℕ) (xs : List Batch) → position_from (is_of q) i xs ≡ position_from (is_identity q) i (map identity_of xs)
position_from-is q i [] = refl
position_from-is q i (x ∷ xs) = ap (cond (is_of q x) (Some i)) (position_from-is q (i + 1) xs)

pub position_of-is : (q : Identity) (xs : List Batch) → position_of q xs ≡ position_in q (map identity_of xs)
position_of-is q xs = position_from-is q 1 xs

-- one more batch
pub known_more : (history : List Batch) (identities identities' : List Identity) (facts more : ℕ) (batch : Batch) → IsKnown history identities facts
    → position_in (identity_of batch) identities ≡ None → identities' ≡ identities ++ identity_of batch ∷ [] → more ≡ facts + length batch.facts
    → more ≤ 8_000_000
    → IsKnown (history ++ batch ∷ []) identities' more
known_more history identities identities' facts more batch known is_new added count fits =
    let new : is_some (position_of (identity_of batch) history) ≡ false =
    ap is_some (position_of-is (identity_of batch) history ∙ ap (position_in (identity_of batch)) (sym known.in_order) ∙ is_new) in
    record {
      in_order = added ∙ ap (λ (l : List Identity). l ++ identity_of batch ∷ []) known.in_order ∙ sym (map-append identity_of history (batch ∷ []));
      counted = omega (arith, fact_count-push history batch, known.counted);
      kept = IsKept-push history batch new known.kept (omega (arith, known.counted));
    }

-- a batch that is refused cannot be kept
pub refused : (history : List Batch) (identities : List Identity) (facts : ℕ) (batch : Batch) → IsKnown history identities facts
    → (position_in (identity_of batch) identities ≢ None) ⊎ (8_000_000 < facts + length batch.facts) → ¬ (IsKept (history ++ batch ∷ []))
refused history identities facts batch known (inl there) kept =
    found (position_in (identity_of batch) identities) refl
  where
    found : (o : Option ℕ) → position_in (identity_of batch) identities ≡ o → ⊥
    found None is = there is
    found (Some p) is =
        IsKept-twice history batch (ap is_some (position_of-is (identity_of batch) history ∙ ap (position_in (identity_of batch)) (sym known.in_order) ∙ is))
        kept
refused history identities facts batch known (inr many) kept = omega (arith, fact_count-push history batch, known.counted, kept.fits)

-- a prefix of batches with the next one, and the batches after it
pub next_one : (batches : List Batch) (i : ℕ) (batch : Batch) → i < length batches → batch ≡ get_or batches i batch
    → take (i + 1) batches ≡ take i batches ++ batch ∷ []
next_one batches i batch within is = rw (add-one, take-suc batches i batch within) (ap (λ (b : Batch). take i batches ++ b ∷ []) (sym is))

-- if one batch of a frame cannot be kept, the frame cannot be
pub not_all : (history batches : List Batch) (i : ℕ) (batch : Batch) → take (i + 1) batches ≡ take i batches ++ batch ∷ []
    → ¬ (IsKept ((history ++ take i batches) ++ batch ∷ [])) → ¬ (IsKept (history ++ batches))
not_all history batches i batch next not_kept kept =
    let parts : history ++ batches ≡ ((history ++ take i batches) ++ batch ∷ []) ++ drop (i + 1) batches =
    ap (λ (l : List Batch). history ++ l) (sym (take-append-drop (i + 1) batches)) ∙ sym (append_assoc history (take (i + 1) batches) (drop (i + 1) batches))
    ∙ ap (λ (l : List Batch). l ++ drop (i + 1) batches) (ap (λ (l : List Batch). history ++ l) next
    ∙ sym (append_assoc history (take i batches) (batch ∷ []))) in
    not_kept (IsKept-front ((history ++ take i batches) ++ batch ∷ []) (drop (i + 1) batches) (subst IsKept parts kept))

-- the identities of a prefix, after removing those that follow
pub back_again : (history batches : List Batch) (i : ℕ) (entry identities after : List Identity) (facts count : ℕ) → IsKnown history entry facts
    → i ≤ length batches
    → IsKnown (history ++ take i batches) identities count → after ≡ take (length identities - i) identities → after ≡ entry
back_again history batches i entry identities after facts count known within more taken =
    let all : identities ≡ map identity_of history ++ map identity_of (take i batches) = more.in_order ∙ map-append identity_of history (take i batches) in
    let long : length identities - i ≡ length (map identity_of history) =
    omega (
      arith,
      ap length all,
      length-append (map identity_of history) (map identity_of (take i batches)),
      length-map (take i batches) identity_of,
      length-take-le i batches within,
    ) in
    taken ∙ ap (λ n. take n identities) long ∙ ap (take (length (map identity_of history))) all
    ∙ take-append_seam (map identity_of history) (map identity_of (take i batches)) ∙ sym known.in_order

-- there are identities as long as some have to be removed
pub some_left : (entry now : List Identity) (count left : ℕ) → count ≤ length entry → left ≤ count → 0 < left
    → now ≡ take (length entry - (count - left)) entry → 0 < length now
some_left entry now count left within fits some is =
    omega (arith, ap length is, length-take-le (length entry - (count - left)) entry (omega arith))

-- the identities after one more is removed
pub one_less : (entry now after : List Identity) (count left : ℕ) → count ≤ length entry → left ≤ count → 0 < left
    → now ≡ take (length entry - (count - left)) entry
    → after ≡ take (length now - 1) now → after ≡ take (length entry - (count - (left - 1))) entry
one_less entry now after count left within fits some is taken =
    let long : length now ≡ length entry - (count - left) = ap length is ∙ length-take-le (length entry - (count - left)) entry (omega arith) in
    let n : length now - 1 ≡ length entry - (count - (left - 1)) = omega arith in
    taken ∙ ap (take (length now - 1)) is ∙ take-take (length now - 1) (length entry - (count - left)) entry (omega arith) ∙ ap (λ k. take k entry) n
