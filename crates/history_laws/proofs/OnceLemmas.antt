use Rattle.std.proofs.Common.{◌≡◌, ℕ, ◌≤◌, Bool, true, false, ◌||◌, cond, List, [], ◌∷◌, ◌++◌}
use Rattle.std.proofs.Common.{count_by, refl, sym, ap, ◌∙◌, subst, inl, inr, arith}
use Rattle.std.specs.Prelude.{codes}
use Rattle.std.specs.List.{list_any, flat_map}
use Rattle.std.specs.Option.{is_some}
use Rattle.std.proofs.lemmas.Bool.{cases_Bool, false≢true}
use Rattle.std.proofs.lemmas.Bool.Decides.{nat_tests}
use Rattle.std.proofs.lemmas.List.{append-nil, append_assoc}
use Rattle.std.proofs.lemmas.List.Concat.{flat_map-append}
use Rattle.std.proofs.lemmas.List.Sorted.{sum_by-IsPermutation}
use Rattle.list_words.proofs.Ascending.{in_order_permutes}
use Rattle.list_words.proofs.Members.{among_from_Contains, Contains-from_among}
use Rattle.fact_kinds.specs.declared.batch.Batch.{Batch}
use Rattle.fact_kinds.specs.declared.body.FactBody.{FactBody}
use Rattle.fact_kinds.specs.declared.body.FactBody.TheVariants.{Unit as UnitFact, Component as ComponentFact}
use Rattle.fact_kinds.specs.declared.key.Key.{Key}
use Rattle.fact_kinds.specs.Facts.{Entry, goes_first, entries_of, facts_of}
use Rattle.ldar_law.specs.declared.verdict.Verdict.TheVariants.{Pass}
use Rattle.ldar_law.specs.BatchLaws.{unretired}
use Rattle.ldar_law.specs.Denials as denials
use Rattle.ldar_law.specs.Denials.{component_asked, unit_asked}
use Rattle.ldar_law.specs.Equipment.{equipment_of, unit_entry_of}
use Rattle.ldar_law.specs.Judged.{Register, register_with, first_entry}
use Rattle.ldar_law.specs.RegisterLaws.{enters_component, enters_unit}
use Rattle.ldar_law.specs.Slices.{register_facts}
use Rattle.ldar_law.specs.Verdicts.{Rule, numbered, verdict_on}
use Rattle.ldar_law.proofs.BatchLemmas.{first_entry_is_registered, first_entry_is_equipment}
use Rattle.ldar_law.proofs.EnteredLemmas.{component_where_entered, unit_where_entered}
use Rattle.ldar_law.proofs.RegisterLemmas.{list_any-in_order}
use Rattle.ldar_law.proofs.SliceLemmas.{register_facts_suffice}
use Rattle.ldar_law.proofs.VerdictLemmas.{ruly_is_each}
use Rattle.history_laws.specs.RulyLaws.{EachIsEnteredOnce, PartHasEachOnce, HaveCome, PassingBatchEntersFirst}
use Rattle.history_laws.proofs.Counting.{any_among, among_any, list_any-append, count_filtered, once_behind}
use Rattle.history_laws.proofs.Passing.{some_mapped, is_nothing, let_pass}

-- ---- each is entered only once

-- the register has a first entry if a fact enters the component
pub entered_there : (number : ℕ) (facts : List Entry)
    → is_some (first_entry number (register_facts facts)) ≡ list_any (λ e. enters_component number e.1.body) facts
entered_there number facts =
    ap is_some (first_entry_is_registered number facts)
    ∙ sym (ap is_some (first_entry_is_equipment number facts))
    ∙ some_mapped unretired (equipment_of number facts)
    ∙ (component_where_entered number facts).0

-- the register has a process unit if a fact enters it
pub unit_there : (number : ℕ) (facts : List Entry) → is_some (unit_entry_of number (register_facts facts)) ≡ list_any (λ e. enters_unit number e.1.body) facts
unit_there number facts = ap is_some ((register_facts_suffice number facts).1.entry) ∙ unit_where_entered number facts

-- rule 18
abbrev twice_rule : Rule
twice_rule = numbered 18 (codes "P3") denials.entered_twice

-- by rule 18, no earlier fact has entered the component
twice_component : (number : ℕ) (key : Key) (day minute : ℕ) (body : FactBody) (known whole : Register)
    → denials.entered_twice (record { entry = (key, record { day = day; minute = minute; body = body }); known = known; whole = whole }) ≡ false
    → enters_component number body ≡ true → is_some (first_entry number known.entered) ≡ false
twice_component number key day minute (ComponentFact other unit kind monomer replaces class) known whole once enters =
    let same : other ≡ number = grind (arith, nat_tests) in
    subst (λ n. is_some (first_entry n known.entered) ≡ false) same once
twice_component number key day minute _ known whole once enters = absurd (false≢true enters)

-- by rule 18, no earlier fact has entered the process unit
twice_unit : (number : ℕ) (key : Key) (day minute : ℕ) (body : FactBody) (known whole : Register)
    → denials.entered_twice (record { entry = (key, record { day = day; minute = minute; body = body }); known = known; whole = whole }) ≡ false
    → enters_unit number body ≡ true → is_some (unit_entry_of number known.entered) ≡ false
twice_unit number key day minute (UnitFact other older name) known whole once enters =
    let same : other ≡ number = grind (arith, nat_tests) in
    subst (λ n. is_some (unit_entry_of n known.entered) ≡ false) same once
twice_unit number key day minute _ known whole once enters = absurd (false≢true enters)

-- a batch that passes
module _ (history : List Batch) (batch : Batch) (passes : verdict_on history batch ≡ Pass) (before : List Entry) (entry : Entry) (after : List Entry)
    (stands : entries_of batch ≡ before ++ entry ∷ after) (number : ℕ) where
  -- no earlier fact enters the component that a fact enters
  pub no_component_before : enters_component number entry.1.body ≡ true → list_any (λ e. enters_component number e.1.body) (facts_of history ++ before) ≡ false
  unfolding register_with
  no_component_before enters =
      sym (entered_there number (facts_of history ++ before))
      ∙ twice_component number entry.0 entry.1.day entry.1.minute entry.1.body (register_with (facts_of history) before)
      (register_with (facts_of history) (before ++ entry ∷ after))
      (let_pass history batch passes before entry after stands twice_rule (17, omega arith, refl)) enters

  -- no earlier fact enters the process unit that a fact enters
  pub no_unit_before : enters_unit number entry.1.body ≡ true → list_any (λ e. enters_unit number e.1.body) (facts_of history ++ before) ≡ false
  unfolding register_with
  no_unit_before enters =
      sym (unit_there number (facts_of history ++ before))
      ∙ twice_unit number entry.0 entry.1.day entry.1.minute entry.1.body (register_with (facts_of history) before)
      (register_with (facts_of history) (before ++ entry ∷ after))
      (let_pass history batch passes before entry after stands twice_rule (17, omega arith, refl)) enters

-- a ruly history, in which a passing fact is the first one that passes
module _ (p : Entry → Bool) where
  -- a test passes on facts in order exactly if it passes on them in order of arrival
  as_they_came : (history : List Batch) (more : List Entry) → list_any p (facts_of history ++ more) ≡ list_any p (flat_map entries_of history ++ more)
  as_they_came history more =
      list_any-append p (facts_of history) more
      ∙ ap (λ b. b || list_any p more) (list_any-in_order p (flat_map entries_of history))
      ∙ sym (list_any-append p (flat_map entries_of history) more)

  -- at most one of the facts of later batches passes
  once_in : (front rest : List Batch)
      → ((before : List Batch) (batch : Batch) (after : List Batch) → front ++ rest ≡ before ++ batch ∷ after
      → (b : List Entry) (e : Entry) (a : List Entry) → entries_of batch ≡ b ++ e ∷ a → p e ≡ true → list_any p (flat_map entries_of before ++ b) ≡ false)
      → count_by p (flat_map entries_of front) ≤ 1 → count_by p (flat_map entries_of (front ++ rest)) ≤ 1
  once_in front [] first few = subst (λ l. count_by p (flat_map entries_of l) ≤ 1) (sym (append-nil front)) few
  once_in front (batch ∷ rest) first few =
      let moved : (front ++ batch ∷ []) ++ rest ≡ front ++ batch ∷ rest = append_assoc front (batch ∷ []) rest in
      let held = flat_map entries_of front in
      let joined : flat_map entries_of (front ++ batch ∷ []) ≡ held ++ entries_of batch =
      flat_map-append entries_of front (batch ∷ []) ∙ ap (λ es. held ++ es) (append-nil (entries_of batch)) in
      let one : count_by p (held ++ entries_of batch) ≤ 1 =
      once_behind p held [] (entries_of batch) (λ b e a stands. first front batch rest refl b e a stands)
      (subst (λ l. count_by p l ≤ 1) (sym (append-nil held)) few) in
      subst (λ l. count_by p (flat_map entries_of l) ≤ 1) moved
      (once_in (front ++ batch ∷ []) rest (λ before b after stands. first before b after (sym moved ∙ stands))
      (subst (λ l. count_by p l ≤ 1) (sym joined) one))

  -- at most one of all facts in key order passes
  once_of : (history : List Batch)
      → ((before : List Batch) (batch : Batch) (after : List Batch) → history ≡ before ++ batch ∷ after
      → (b : List Entry) (e : Entry) (a : List Entry) → entries_of batch ≡ b ++ e ∷ a → p e ≡ true → list_any p (facts_of before ++ b) ≡ false)
      → count_by p (facts_of history) ≤ 1
  once_of history first =
      let flat = flat_map entries_of history in
      let same : count_by p (facts_of history) ≡ count_by p flat =
      sum_by-IsPermutation (λ x. cond (p x) 1 0) flat (facts_of history) (in_order_permutes goes_first flat) in
      subst (λ n. n ≤ 1) (sym same)
      (once_in [] history (λ before batch after stands b e a here t. sym (as_they_came before b) ∙ first before batch after stands b e a here t) (omega arith))

-- some of the facts that arrived enter nothing if none of them does
pub nothing_of : (p : Entry → Bool) (history : List Batch) (before facts : List Entry) → list_any p (facts_of history ++ before) ≡ false
    → HaveCome history before facts → list_any p facts ≡ false
nothing_of p history before facts none of =
    let came_none = sym (as_they_came p history before) ∙ none in
    elim (cases_Bool (list_any p facts)) [
      | inl some ↦
          let found = any_among p facts some in
          let there = among_from_Contains (flat_map entries_of history ++ before) found.0 (of found.0 (Contains-from_among facts found.0 found.1)) in
          absurd (false≢true (sym came_none ∙ among_any p (flat_map entries_of history ++ before) found.0 there found.2))
      | inr nowhere ↦ nowhere
    ]

pub passing_batch_enters_first : PassingBatchEntersFirst
passing_batch_enters_first history batch passes = record {
  component = λ before entry after number facts stands enters of.
      is_nothing (equipment_of number facts)
      ((component_where_entered number facts).0
      ∙ nothing_of (λ e. enters_component number e.1.body) history before facts
      (no_component_before history batch passes before entry after stands number enters) of);
  unit = λ before entry after number facts stands enters of.
      is_nothing (unit_entry_of number facts)
      (unit_where_entered number facts
      ∙ nothing_of (λ e. enters_unit number e.1.body) history before facts (no_unit_before history batch passes before entry after stands number enters) of);
}

pub each_is_entered_once : EachIsEnteredOnce
each_is_entered_once history ruly =
    let passing = (ruly_is_each history).0 ruly in
    record {
      components = λ number. once_of (λ e. enters_component number e.1.body) history (λ before batch after cut b e a stands enters.
          no_component_before before batch (passing before batch after cut) b e a stands number enters);
      units = λ number. once_of (λ e. enters_unit number e.1.body) history (λ before batch after cut b e a stands enters.
          no_unit_before before batch (passing before batch after cut) b e a stands number enters);
    }

pub part_has_each_once : PartHasEachOnce
part_has_each_once facts test once = record {
  components = λ number. omega (arith, once.components number, count_filtered (λ e. enters_component number e.1.body) test facts);
  units = λ number. omega (arith, once.units number, count_filtered (λ e. enters_unit number e.1.body) test facts);
}
