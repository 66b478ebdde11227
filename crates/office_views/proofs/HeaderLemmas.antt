use Rattle.std.proofs.Common.{◌≡◌, ℕ, zero, suc, ◌+◌, ◌<◌, get_or, List, [], ◌∷◌, ◌++◌, length, take, drop, map, refl, sym, ap, ◌∙◌, arith, append_assoc}
use Rattle.std.proofs.Common.{length-append, add-zero}
use Rattle.std.proofs.Math.Seq.{drop-append_seam, take-append_seam}
use Rattle.std.specs.List.{flat_map}
use Rattle.std.proofs.lemmas.List.{append-nil, length-map, map-append, take_more}
use Rattle.std.proofs.lemmas.List.Concat.{flat_map-append}
use Rattle.fact_kinds.specs.declared.batch.Batch.{Batch}
use Rattle.fact_kinds.specs.Facts.{entries_from, entries_of}
use Rattle.fact_kinds.specs.Stated.{Stated}
use Rattle.office_views.specs.declared.header.Header.{Header}
use Rattle.office_views.specs.Headers.{headers_of, batch_by, batches_by}
use Rattle.office_views.specs.Inside.{facts_stated}

-- as many headers as batches
pub length-headers_of : (first : ℕ) (batches : List Batch) → length (headers_of first batches) ≡ length batches
length-headers_of first [] = refl
length-headers_of first (batch ∷ batches) = omega (arith, length-headers_of (first + length batch.facts) batches)

-- the headers of some batches and of others after them
pub headers_of-append : (first : ℕ) (xs ys : List Batch) → headers_of first (xs ++ ys) ≡ headers_of first xs ++ headers_of (first + length (facts_stated xs)) ys
headers_of-append first [] ys = ap (λ n. headers_of n ys) (sym (add-zero first))
headers_of-append first (x ∷ xs) ys =
    let sum : first + length x.facts + length (facts_stated xs) ≡ first + length (x.facts ++ facts_stated xs) =
    omega (arith, length-append x.facts (facts_stated xs)) in
    ap (λ hs. record { handheld = x.handheld; number = x.number; first = first; count = length x.facts } ∷ hs)
    (headers_of-append (first + length x.facts) xs ys
    ∙ ap (λ n. headers_of (first + length x.facts) xs ++ headers_of n ys) sum)

-- the headers of the first batches and of the next one
pub headers_more : (first : ℕ) (batches : List Batch) (i : ℕ) (batch : Batch) → i < length batches → batch ≡ get_or batches i batch
    → headers_of first (take (i + 1) batches)
    ≡ headers_of first (take i batches) ++ record {
      handheld = batch.handheld;
      number = batch.number;
      first = first + length (facts_stated (take i batches));
      count = length batch.facts;
    } ∷ []
headers_more first batches i batch within is =
    ap (headers_of first) (take_more batches i batch within ∙ ap (λ b. take i batches ++ b ∷ []) (sym is))
    ∙ headers_of-append first (take i batches) (batch ∷ [])

-- with one more header
pub headers_pushed : (before old new : List Header) (first next count : ℕ) (batches : List Batch) (i : ℕ) (batch : Batch)
    → i < length batches → batch ≡ get_or batches i batch
    → old ≡ before ++ headers_of first (take i batches) → next ≡ first + length (facts_stated (take i batches)) → count ≡ length batch.facts
    → new ≡ old ++ record { handheld = batch.handheld; number = batch.number; first = next; count = count } ∷ []
    → new ≡ before ++ headers_of first (take (i + 1) batches)
headers_pushed before old new first next count batches i batch within is was next_is count_is pushed =
    pushed ∙ ap (λ hs. hs ++ record { handheld = batch.handheld; number = batch.number; first = next; count = count } ∷ []) was
    ∙ ap (λ n. (before ++ headers_of first (take i batches)) ++ record { handheld = batch.handheld; number = batch.number; first = n; count = count } ∷ [])
    next_is
    ∙ ap (λ n. (before ++ headers_of first (take i batches)) ++ record {
      handheld = batch.handheld;
      number = batch.number;
      first = first + length (facts_stated (take i batches));
      count = n;
    } ∷ []) count_is
    ∙ append_assoc before (headers_of first (take i batches)) (record {
      handheld = batch.handheld;
      number = batch.number;
      first = first + length (facts_stated (take i batches));
      count = length batch.facts;
    } ∷ [])
    ∙ ap (λ hs. before ++ hs) (sym (headers_more first batches i batch within is))

-- .. and how many facts they have
pub stated_more : (batches : List Batch) (i : ℕ) (batch : Batch) → i < length batches → batch ≡ get_or batches i batch
    → length (facts_stated (take (i + 1) batches)) ≡ length (facts_stated (take i batches)) + length batch.facts
stated_more batches i batch within is =
    ap (λ bs. length (facts_stated bs)) (take_more batches i batch within ∙ ap (λ b. take i batches ++ b ∷ []) (sym is))
    ∙ ap length (flat_map-append (λ b. b.facts) (take i batches) (batch ∷ []))
    ∙ length-append (facts_stated (take i batches)) (batch.facts ++ [])
    ∙ ap (λ fs. length (facts_stated (take i batches)) + length fs) (append-nil batch.facts)

-- the headers of the first batches
pub take-headers_of : (n first : ℕ) (batches : List Batch) → take n (headers_of first batches) ≡ headers_of first (take n batches)
take-headers_of zero first batches = refl
take-headers_of (suc n) first [] = refl
take-headers_of (suc n) first (batch ∷ batches) =
    ap (λ hs. record { handheld = batch.handheld; number = batch.number; first = first; count = length batch.facts } ∷ hs)
    (take-headers_of n (first + length batch.facts) batches)

-- with their headers the batches are found again among the facts of all, which follow some facts and precede others
pub batches_back : (before : List Stated) (batches : List Batch) (after : List Stated)
    → batches_by (before ++ (facts_stated batches ++ after)) (headers_of (length before) batches) ≡ batches
batches_back before [] after = refl
batches_back before (batch ∷ batches) after =
    let all = before ++ (facts_stated (batch ∷ batches) ++ after) in
    let rest = facts_stated batches ++ after in
    let joined : before ++ ((batch.facts ++ facts_stated batches) ++ after) ≡ before ++ (batch.facts ++ rest) =
    ap (λ xs. before ++ xs) (append_assoc batch.facts (facts_stated batches) after) in
    let own : take (length batch.facts) (drop (length before) all) ≡ batch.facts =
    ap (λ xs. take (length batch.facts) (drop (length before) xs)) joined
    ∙ ap (take (length batch.facts)) (drop-append_seam before (batch.facts ++ rest)) ∙ take-append_seam batch.facts rest in
    let behind : batches_by all (headers_of (length before + length batch.facts) batches) ≡ batches =
    ap (λ xs. batches_by xs (headers_of (length before + length batch.facts) batches)) (joined ∙ sym (append_assoc before batch.facts rest))
    ∙ ap (λ n. batches_by ((before ++ batch.facts) ++ rest) (headers_of n batches)) (sym (length-append before batch.facts))
    ∙ batches_back (before ++ batch.facts) batches after in
    let first : batch_by all (record { handheld = batch.handheld; number = batch.number; first = length before; count = length batch.facts }) ≡ batch =
    ap (λ facts. record { handheld = batch.handheld; number = batch.number; facts = facts }) own in
    ap (λ b. b ∷ batches_by all (headers_of (length before + length batch.facts) batches)) first ∙ ap (λ bs. batch ∷ bs) behind

-- the facts of a batch with their keys are its facts
stated_from : (batch : Batch) (index : ℕ) (facts : List Stated) → map (λ e. e.1) (entries_from batch index facts) ≡ facts
stated_from batch index [] = refl
stated_from batch index (fact ∷ facts) = ap (λ fs. fact ∷ fs) (stated_from batch (index + 1) facts)

-- .. and so those of some batches
pub stated_of_entries : (batches : List Batch) → map (λ e. e.1) (flat_map entries_of batches) ≡ facts_stated batches
stated_of_entries [] = refl
stated_of_entries (batch ∷ batches) =
    map-append (λ e. e.1) (entries_of batch) (flat_map entries_of batches)
    ∙ ap (λ xs. xs ++ map (λ e. e.1) (flat_map entries_of batches)) (stated_from batch 0 batch.facts)
    ∙ ap (λ xs. batch.facts ++ xs) (stated_of_entries batches)

-- as many as there are facts
pub length-entries_of : (batch : Batch) → length (entries_of batch) ≡ length batch.facts
length-entries_of batch =
    sym (length-map (entries_of batch) (λ e. e.1)) ∙ ap length (stated_from batch 0 batch.facts)
