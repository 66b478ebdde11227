-- The steps of a loop that writes the facts of a batch.
use Rattle.std.proofs.Common.{◌≡◌, ℕ, ◌+◌, ◌<◌, ◌≤◌, List, [], ◌∷◌, ◌++◌, length, get_or, take, sym, ap, ◌∙◌, append_assoc, arith}
use Rattle.std.proofs.Common.{Result, Ok, Err}
use Rattle.std.specs.Prelude.{OnOk}
use Rattle.std.specs.List.{flat_map, AllByRecursion}
use Rattle.std.proofs.lemmas.List.{append-nil, take_more, take_all}
use Rattle.std.proofs.lemmas.List.Concat.{flat_map-append}
use Rattle.fact_kinds.specs.declared.batch.Batch.{Batch}
use Rattle.fact_kinds.specs.Stated.{Stated}
use Rattle.fact_kinds.specs.Fields.{Field, number, IsFilled, IsFact, first_letters, handhelds, batch_numbers, counts, fact_fields}
use Rattle.ldar_facts.specs.Grammar.{spelled, Spells}
use Rattle.ldar_facts.proofs.FactTies.{spelled-append, filled-append}

-- the fields before the facts
abbrev pub head_fields : Batch → List Field
head_fields batch =
    number 1 first_letters 66 ∷ number 2 handhelds batch.handheld ∷ number 4 batch_numbers batch.number ∷ number 2 counts (length batch.facts) ∷ []

-- the head and the first facts are written
pub record IsWritten (batch : Batch) (count : ℕ) (bytes : List ℕ) : Type 0 where
  pub items : bytes ≡ spelled (head_fields batch) ++ spelled (flat_map fact_fields (take count batch.facts))
  pub filled : AllByRecursion IsFilled (flat_map fact_fields (take count batch.facts))

-- the fields of one more fact are after the others
more_fields : (facts : List Stated) (i : ℕ) (fact : Stated) → i < length facts → fact ≡ get_or facts i fact
    → flat_map fact_fields (take (i + 1) facts) ≡ flat_map fact_fields (take i facts) ++ fact_fields fact
more_fields facts i fact lt is =
    let more : take (i + 1) facts ≡ take i facts ++ fact ∷ [] = take_more facts i fact lt ∙ ap (λ f. take i facts ++ f ∷ []) (sym is) in
    ap (flat_map fact_fields) more ∙ flat_map-append fact_fields (take i facts) (fact ∷ [])
    ∙ ap (λ l. flat_map fact_fields (take i facts) ++ l) (append-nil (fact_fields fact))

-- only the head is written
pub head_written : (batch : Batch) (bytes : List ℕ) → bytes ≡ spelled (head_fields batch) → IsWritten batch 0 bytes
head_written batch bytes is = record { items = is; filled = tt }

-- one more fact is written
pub one_more : (batch : Batch) (i : ℕ) (bytes bytes' : List ℕ) (fact : Stated) → IsWritten batch i bytes → i < length batch.facts
    → fact ≡ get_or batch.facts i fact → IsFact fact
    → bytes' ≡ bytes ++ spelled (fact_fields fact) → IsWritten batch (i + 1) bytes'
one_more batch i bytes bytes' fact so_far lt is is_fact added =
    let so = flat_map fact_fields (take i batch.facts) in
    let fields = more_fields batch.facts i fact lt is in
    record {
      items = added ∙ ap (λ l. l ++ spelled (fact_fields fact)) so_far.items
          ∙ append_assoc (spelled (head_fields batch)) (spelled so) (spelled (fact_fields fact))
          ∙ ap (λ l. spelled (head_fields batch) ++ l) (sym (spelled-append so (fact_fields fact)) ∙ ap spelled (sym fields));
      filled = rw fields (filled-append so (fact_fields fact) so_far.filled is_fact);
    }

-- all facts are written
pub all_written : (batch : Batch) (i : ℕ) (bytes : List ℕ) → IsWritten batch i bytes → length batch.facts ≤ i → 0 < length batch.facts
    → length batch.facts ≤ 512
    → batch.handheld ≤ 65_535 → batch.number ≤ 4_294_967_295 → Spells bytes batch
all_written batch i bytes so_far le some few any_handheld any_number =
    let all = take_all i batch.facts le in
    record {
      filled = ((omega arith, omega arith), ((omega arith, any_handheld), ((omega arith, any_number), ((some, few), rw all at so_far.filled))));
      spells = so_far.items ∙ ap (λ (facts : List Stated). spelled (head_fields batch) ++ spelled (flat_map fact_fields facts)) all;
    }

-- ---- appending in several calls

-- what two calls append is the joined bytes
pub more : (old mid new added other : List ℕ) → mid ≡ old ++ added → new ≡ mid ++ other → new ≡ old ++ (added ++ other)
more old mid new added other first second = second ∙ ap (λ l. l ++ other) first ∙ append_assoc old added other

-- what two calls append is the joined bytes, if the last call was not out of memory
pub last : (old mid new added other : List ℕ) {E : Type 0} (answer : Result (Unit {0}) E) → mid ≡ old ++ added → OnOk answer (new ≡ mid ++ other)
    → OnOk answer (new ≡ old ++ (added ++ other))
last old mid new added other (Ok x) first second = more old mid new added other first second
last old mid new added other (Err e) first second = tt
