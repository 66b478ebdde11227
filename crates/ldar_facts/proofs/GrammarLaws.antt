-- Laws of the grammar.
use Rattle.std.proofs.Common.{◌≡◌, ℕ, suc, ◌+◌, ◌-◌, ◌*◌, ◌<◌, ◌≤◌, List, [], ◌∷◌, ◌++◌, length, take, drop, replicate, Some, None, Ok, refl, sym, ap}
use Rattle.std.proofs.Common.{subst, ◌∙◌, append_assoc, length-append, arith, inl, inr}
use Rattle.std.specs.List.{flat_map, AllByRecursion}
use Rattle.std.proofs.lemmas.Bool.{cases_lt}
use Rattle.std.proofs.lemmas.List.{append-nil, length-replicate, take-append-drop, take-take}
use Rattle.fact_kinds.specs.declared.batch.Batch.{Batch}
use Rattle.fact_kinds.specs.declared.body.FactBody.{FactBody}
use Rattle.fact_kinds.specs.declared.body.FactBody.TheVariants.{Unit as UnitFact, Component as ComponentFact, Class as ClassFact, Retire, Election}
use Rattle.fact_kinds.specs.declared.body.FactBody.TheVariants.{Shutdown, Calibration, Precision, Drift, Reading, Visual, Attempt, Delay, Release}
use Rattle.fact_kinds.specs.declared.body.FactBody.TheVariants.{Indication}
use Rattle.fact_kinds.specs.Stated.{Stated}
use Rattle.fact_kinds.specs.Name.{IsName, spelled_name}
use Rattle.fact_kinds.specs.Fields.{IsFilled, IsFact, body_fields, fact_fields}
use Rattle.ldar_facts.specs.Grammar.{spelled, Spells, Begins, IsFirstWrongPlace}
use Rattle.ldar_facts.specs.Compose.{ok_pair}
use Rattle.ldar_facts.specs.FactForms.{batch}
use Rattle.ldar_facts.proofs.Batches.{read_again}
use Rattle.ldar_facts.proofs.FactTies.{spelled-append, filled-front}

-- ---- spellings

-- some bytes spell at most one batch
pub one_batch : (bytes : List ℕ) (b other : Batch) → Spells bytes b → Spells bytes other → b ≡ other
one_batch bytes b other is is_other = (ok_pair (b, []) (other, []) (sym (read_again bytes b [] is) ∙ read_again bytes other [] is_other)).0

-- a batch has exactly one spelling
pub one_spelling : (bytes other : List ℕ) (b : Batch) → Spells bytes b → Spells other b → bytes ≡ other
one_spelling bytes other b is is_other = is.spells ∙ sym is_other.spells

-- no spelling is a proper prefix of another
pub no_proper_front : (bytes more : List ℕ) (b other : Batch) → Spells bytes b → Spells (bytes ++ more) other → more ≡ []
no_proper_front bytes more b other is is_other =
    let whole : batch.read (bytes ++ more) ≡ Ok (other, []) = subst (λ l. batch.read l ≡ Ok (other, [])) (append-nil (bytes ++ more))
    (read_again (bytes ++ more) other [] is_other) in
    (ok_pair (b, more) (other, []) (sym (read_again bytes b more is) ∙ whole)).1

-- ---- lengths

-- a name has twelve bytes
name_length : (name : List ℕ) → IsName name → length (spelled_name name) ≡ 12
name_length name is = omega (arith, is.fits, length-append name (replicate (12 - length name) 0), length-replicate {A = ℕ} (12 - length name) 0)

-- a fact has 2 to 18 bytes after its kind, day and minute
body_length : (b : FactBody) → AllByRecursion IsFilled (body_fields b) → (2 ≤ length (spelled (body_fields b))) × (length (spelled (body_fields b)) ≤ 18)
body_length (UnitFact unit older name) h =
    let is = name_length name h.1.1.0 in
    let whole : length (spelled_name name ++ []) ≡ 12 = ap length (append-nil (spelled_name name)) ∙ is in
    let len : length (spelled (body_fields (UnitFact unit older name))) ≡ suc (suc (length (spelled_name name ++ []))) = refl in
    (omega arith, omega arith)
body_length (ComponentFact c u k m r class) h = (omega arith, omega arith)
body_length (ClassFact c class) h = (omega arith, omega arith)
body_length (Retire c) h = (omega arith, omega arith)
body_length (Election u mode day) h = (omega arith, omega arith)
body_length (Shutdown u days) h = (omega arith, omega arith)
body_length (Calibration i gas) h = (omega arith, omega arith)
body_length (Precision i value readings) h = (omega arith, omega arith)
body_length (Drift i value readings) h = (omega arith, omega arith)
body_length (Reading c i o p ppm background) h = (omega arith, omega arith)
body_length (Visual c state) h = (omega arith, omega arith)
body_length (Attempt c complete) h = (omega arith, omega arith)
body_length (Delay c reason signer None) h = (omega arith, omega arith)
body_length (Delay c reason signer (Some day)) h = (omega arith, omega arith)
body_length (Release c) h = (omega arith, omega arith)
body_length (Indication c sort present) h = (omega arith, omega arith)

-- a fact has 7 to 23 bytes
pub fact_length : (fact : Stated) → IsFact fact → (7 ≤ length (spelled (fact_fields fact))) × (length (spelled (fact_fields fact)) ≤ 23)
fact_length fact h = let body = body_length fact.body h.1.1.1 in (omega (arith, body.0), omega (arith, body.1))

-- facts have 7 to 23 bytes each
facts_length : (facts : List Stated) → AllByRecursion IsFilled (flat_map fact_fields facts)
    → (7 * length facts ≤ length (spelled (flat_map fact_fields facts))) × (length (spelled (flat_map fact_fields facts)) ≤ 23 * length facts)
facts_length [] h = (omega arith, omega arith)
facts_length (fact ∷ facts) h =
    let parts = filled-front (fact_fields fact) (flat_map fact_fields facts) h in
    let one = fact_length fact parts.0 in
    let rest = facts_length facts parts.1 in
    let both : length (spelled (fact_fields fact ++ flat_map fact_fields facts)) ≡ length (spelled (fact_fields fact)) + length
    (spelled (flat_map fact_fields facts))
    = ap length (spelled-append (fact_fields fact) (flat_map fact_fields facts))
    ∙ length-append (spelled (fact_fields fact)) (spelled (flat_map fact_fields facts)) in
    (omega (arith, both, one.0, rest.0), omega (arith, both, one.1, rest.1))

-- a batch has 9 bytes before its facts
pub spelling_length : (bytes : List ℕ) (b : Batch) → Spells bytes b
    → (9 + 7 * length b.facts ≤ length bytes) × (length bytes ≤ 9 + 23 * length b.facts) × (1 ≤ length b.facts) × (length b.facts ≤ 512)
spelling_length bytes b is =
    let rest = facts_length b.facts is.filled.1.1.1.1 in
    let count = is.filled.1.1.1.0 in
    let len = ap length is.spells in
    (omega (arith, len, rest.0), omega (arith, len, rest.1), count.0, count.1)

-- ---- beginnings

-- a prefix of the beginning of a batch begins a batch
pub begins_front : (front rest : List ℕ) → Begins (front ++ rest) → Begins front
begins_front front rest begins = (begins.0, rest ++ begins.1, subst (λ l. Spells l begins.0) (append_assoc front rest begins.1) begins.2)

-- bytes that begin a batch have no wrong place
pub none_wrong : (bytes : List ℕ) (at : ℕ) → Begins bytes → IsFirstWrongPlace bytes at → ⊥
none_wrong bytes at begins is = is.after
    (begins_front (take (at + 1) bytes) (drop (at + 1) bytes) (subst Begins (sym (take-append-drop (at + 1) bytes)) begins))

-- a place before the first wrong one is not wrong
not_before : (bytes : List ℕ) (at other : ℕ) → IsFirstWrongPlace bytes at → IsFirstWrongPlace bytes other → at < other → ⊥
not_before bytes at other is is_other lt =
    let front : take (at + 1) (take other bytes) ≡ take (at + 1) bytes = take-take (at + 1) other bytes (omega arith) in
    let begins = begins_front (take (at + 1) (take other bytes)) (drop (at + 1) (take other bytes))
    (subst Begins (sym (take-append-drop (at + 1) (take other bytes))) is_other.before) in
    is.after (subst Begins front begins)

-- there is at most one first wrong place
pub one_wrong_place : (bytes : List ℕ) (at other : ℕ) → IsFirstWrongPlace bytes at → IsFirstWrongPlace bytes other → at ≡ other
one_wrong_place bytes at other is is_other =
    elim (cases_lt at other) [
      | inl lt ↦ absurd (not_before bytes at other is is_other lt)
      | inr le ↦ elim (cases_lt other at) [ inl lt ↦ absurd (not_before bytes other at is_other is lt) | inr ge ↦ omega arith ]
    ]
