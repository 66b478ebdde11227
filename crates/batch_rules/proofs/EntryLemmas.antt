use Rattle.std.proofs.Common.{◌≡◌, ℕ, ◌+◌, ◌<◌, ◌≤◌, List, [], ◌∷◌, ◌++◌, length, take, drop, get_or}
use Rattle.std.proofs.Common.{refl, sym, ap, ◌∙◌, arith}
use Rattle.std.proofs.lemmas.List.{take_more, drop_more, length-take-le, take-append-drop}
use Rattle.fact_kinds.specs.declared.batch.Batch.{Batch}
use Rattle.fact_kinds.specs.Facts.{key_of, entries_from}
use Rattle.fact_kinds.specs.Stated.{Stated}

-- the keys of facts depend only on the batch's identity
pub same_entries : (a b : Batch) → a.handheld ≡ b.handheld → a.number ≡ b.number → (index : ℕ) (facts : List Stated)
    → entries_from a index facts ≡ entries_from b index facts
same_entries a b handheld number index [] = refl
same_entries a b handheld number index (fact ∷ facts) = rw (handheld, number, same_entries a b handheld number (index + 1) facts) refl

-- the entries of joined facts
entries-append : (batch : Batch) (index : ℕ) (facts more : List Stated)
    → entries_from batch index (facts ++ more) ≡ entries_from batch index facts ++ entries_from batch (index + length facts) more
entries-append batch index [] more = ap (λ i. entries_from batch i more) (omega arith)
entries-append batch index (fact ∷ facts) more =
    ap (λ es. (key_of batch index fact, fact) ∷ es)
    (entries-append batch (index + 1) facts more
    ∙ ap (λ i. entries_from batch (index + 1) facts ++ entries_from batch i more) (omega arith))

-- the entries after the first ones, at their place
behind : (batch : Batch) (i : ℕ) (facts more : List Stated) → i ≤ length facts
    → entries_from batch 0 (take i facts ++ more) ≡ entries_from batch 0 (take i facts) ++ entries_from batch i more
behind batch i facts more within =
    let long = length-take-le i facts within in
    let place : 0 + length (take i facts) ≡ i = omega (arith, long) in
    entries-append batch 0 (take i facts) more
    ∙ ap (λ k. entries_from batch 0 (take i facts) ++ entries_from batch k more) place

-- the entries of the first facts with one more
pub entries-take_more : (batch : Batch) (i : ℕ) (facts : List Stated) (fact : Stated) → i < length facts → fact ≡ get_or facts i fact
    → entries_from batch 0 (take (i + 1) facts) ≡ entries_from batch 0 (take i facts) ++ (key_of batch i fact, fact) ∷ []
entries-take_more batch i facts fact within is =
    ap (entries_from batch 0) (take_more facts i fact within ∙ ap (λ (f : Stated). take i facts ++ f ∷ []) (sym is))
    ∙ behind batch i facts (fact ∷ []) (omega (arith, within))

-- the entries of the facts from a place on
pub entries-drop_more : (batch : Batch) (i : ℕ) (facts : List Stated) (fact : Stated) → i < length facts → fact ≡ get_or facts i fact
    → entries_from batch i (drop i facts) ≡ (key_of batch i fact, fact) ∷ entries_from batch (i + 1) (drop (i + 1) facts)
entries-drop_more batch i facts fact within is =
    ap (entries_from batch i) (drop_more facts i fact within ∙ ap (λ (f : Stated). f ∷ drop (i + 1) facts) (sym is))

-- all entries: those before a fact, its own, and those after it
pub entries-split : (batch : Batch) (i : ℕ) (facts : List Stated) (fact : Stated) → i < length facts → fact ≡ get_or facts i fact
    → entries_from batch 0 (take i facts) ++ (key_of batch i fact, fact) ∷ entries_from batch (i + 1) (drop (i + 1) facts) ≡ entries_from batch 0 facts
entries-split batch i facts fact within is =
    ap (λ es. entries_from batch 0 (take i facts) ++ es) (sym (entries-drop_more batch i facts fact within is))
    ∙ sym (behind batch i facts (drop i facts) (omega (arith, within)))
    ∙ ap (entries_from batch 0) (take-append-drop i facts)
