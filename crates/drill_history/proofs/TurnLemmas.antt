-- Batches that pass one after the other, if each fact passes after those that are stated.
use Rattle.std.proofs.Common.{◌≡◌, ℕ, ◌+◌, ◌≤◌, Bool, false, ◌||◌, None, List, [], ◌∷◌, ◌++◌, length, refl, sym, ap, ◌∙◌}
use Rattle.std.proofs.lemmas.List.{append-nil, append_assoc}
use Rattle.std.proofs.lemmas.Grind.{flat_map-append}
use Rattle.std.specs.List.{list_any, flat_map}
use Rattle.std.specs.Option.{option_map, option_or}
use Rattle.std.specs.Prelude.{IsTrue}
use Rattle.list_words.specs.Words.{first_given_from}
use Rattle.fact_kinds.specs.declared.batch.Batch.{Batch}
use Rattle.fact_kinds.specs.declared.body.FactBody.{FactBody}
use Rattle.fact_kinds.specs.declared.key.Key.{Key}
use Rattle.fact_kinds.specs.declared.limits.TheConstants.{MOST_FACTS}
use Rattle.fact_kinds.specs.Facts.{Entry, key_of, entries_from, entries_of, facts_of}
use Rattle.fact_kinds.specs.Stated.{Stated}
use Rattle.ldar_law.specs.Judged.{case_of}
use Rattle.ldar_law.specs.Verdicts.{least_rule, denial_at, first_denial, is_ruly, unruly_at}
use Rattle.ldar_law.proofs.RegisterLemmas.{list_any-in_order}
use Rattle.ldar_law.proofs.VerdictLemmas.{ruly_has_no_unruly}
use Rattle.history_laws.proofs.Counting.{list_any-append}
use Rattle.drill_history.proofs.FactLemmas.{States}

-- no rule denies the fact, sent by this handheld after facts that are stated
abbrev pub Passes : List Stated → ℕ → Stated → Type 0
Passes done handheld fact =
    (held earlier later : List Entry) (key : Key) → key.day ≡ fact.day → key.handheld ≡ handheld → States (held ++ earlier) done
    → least_rule (case_of held earlier (key, fact) later) ≡ None

-- .. each of some facts after those before it
abbrev pub PassInTurn : List Stated → ℕ → List Stated → Type 0
PassInTurn done handheld [] = Unit {0}
PassInTurn done handheld (fact ∷ facts) = Passes done handheld fact × PassInTurn (done ++ fact ∷ []) handheld facts

-- .. each of some batches after those before it
abbrev pub BatchesPass : List Stated → List Batch → Type 0
BatchesPass done [] = Unit {0}
BatchesPass done (batch ∷ batches) = PassInTurn done batch.handheld batch.facts × BatchesPass (done ++ batch.facts) batches

-- what is stated with one fact more
states_more : (entries : List Entry) (done : List Stated) (key : Key) (fact : Stated) → States entries done → States (entries ++ (key, fact) ∷ []) (done ++ fact ∷ [])
states_more entries done key fact states p =
    list_any-append (λ e. p e.1.body) entries ((key, fact) ∷ [])
    ∙ ap (λ b. b || (p fact.body || false)) (states p)
    ∙ sym (list_any-append (λ f. p f.body) done (fact ∷ []))

-- no fact of a batch is denied
none_denied : (held : List Entry) (batch : Batch) (done : List Stated) (front : List Entry) (index : ℕ) (facts : List Stated)
    → PassInTurn done batch.handheld facts → States (held ++ front) done
    → first_given_from (denial_at held) front (entries_from batch index facts) ≡ None
none_denied held batch done front index [] pass states = refl
none_denied held batch done front index (fact ∷ facts) pass states =
    let key = key_of batch index fact in
    let after = entries_from batch (index + 1) facts in
    let more : States (held ++ (front ++ (key, fact) ∷ [])) (done ++ fact ∷ []) =
    λ p. sym (ap (list_any (λ e. p e.1.body)) (append_assoc held front ((key, fact) ∷ []))) ∙ states_more (held ++ front) done key fact states p in
    ap (λ o. option_or (option_map (λ number. (length front + 1, number)) o) (first_given_from (denial_at held) (front ++ (key, fact) ∷ []) after))
    (pass.0 held front after key refl refl states)
    ∙ none_denied held batch (done ++ fact ∷ []) (front ++ (key, fact) ∷ []) (index + 1) facts pass.1 more

-- the entries of a batch state its facts
entries_state : (p : FactBody → Bool) (batch : Batch) (index : ℕ) (facts : List Stated)
    → list_any (λ e. p e.1.body) (entries_from batch index facts) ≡ list_any (λ f. p f.body) facts
entries_state p batch index [] = refl
entries_state p batch index (fact ∷ facts) = ap (λ b. p fact.body || b) (entries_state p batch (index + 1) facts)

-- what is stated with one batch more
batch_states : (front : List Batch) (batch : Batch) (done : List Stated) → States (flat_map entries_of front) done
    → States (flat_map entries_of (front ++ batch ∷ [])) (done ++ batch.facts)
batch_states front batch done states p =
    ap (list_any (λ e. p e.1.body)) (flat_map-append entries_of front (batch ∷ []) ∙ ap (λ es. flat_map entries_of front ++ es) (append-nil (entries_of batch)))
    ∙ list_any-append (λ e. p e.1.body) (flat_map entries_of front) (entries_of batch)
    ∙ ap (λ b. b || list_any (λ e. p e.1.body) (entries_of batch)) (states p)
    ∙ ap (λ b. list_any (λ f. p f.body) done || b) (entries_state p batch 0 batch.facts)
    ∙ sym (list_any-append (λ f. p f.body) done batch.facts)

-- no batch is unruly
none_unruly : (done : List Stated) (front rest : List Batch) → BatchesPass done rest → States (flat_map entries_of front) done
    → first_given_from unruly_at front rest ≡ None
none_unruly done front [] pass states = refl
none_unruly done front (batch ∷ rest) pass states =
    let held : States (facts_of front ++ []) done =
    λ p. ap (list_any (λ e. p e.1.body)) (append-nil (facts_of front)) ∙ list_any-in_order (λ e. p e.1.body) (flat_map entries_of front) ∙ states p in
    let none : first_denial front batch ≡ None = none_denied (facts_of front) batch done [] 0 batch.facts pass.0 held in
    ap (λ o. option_or (option_map (λ denial. (length front + 1, denial.1)) o) (first_given_from unruly_at (front ++ batch ∷ []) rest)) none
    ∙ none_unruly (done ++ batch.facts) (front ++ batch ∷ []) rest pass.1 (batch_states front batch done states)

-- batches that pass one after the other are a ruly history
pub ruly_in_turn : (history : List Batch) → length (facts_of history) ≤ MOST_FACTS → BatchesPass [] history → IsTrue (is_ruly history)
ruly_in_turn history fits pass = (ruly_has_no_unruly history fits).1 (none_unruly [] [] history pass (λ p. refl))
