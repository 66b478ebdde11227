-- What the verdict on a batch means, as laws.
use Rattle.std.specs.Prelude.{◌≡◌, ℕ, ◌≤◌, ◌<◌, ◌↔◌, true, false, IsTrue, Option, Some, None, List, [], ◌∷◌, ◌++◌, length, Contains, IsPermutation}
use Rattle.list_words.specs.Words.{GivesFirst}
use Rattle.fact_kinds.specs.declared.batch.Batch.{Batch}
use Rattle.fact_kinds.specs.declared.class.Class.{Class}
use Rattle.fact_kinds.specs.declared.key.Key.{Key}
use Rattle.list_words.specs.Order.{in_order}
use Rattle.fact_kinds.specs.Facts.{Entry, goes_first, entries_of, facts_of}
use Rattle.fact_kinds.specs.Identity.{identities_differ}
use Rattle.ldar_law.specs.declared.verdict.Verdict.TheVariants.{Pass, Denied, Full}
use Rattle.fact_kinds.specs.declared.limits.TheConstants.{MOST_FACTS}
use Rattle.ldar_law.specs.Equipment.{class_at, classes_of}
use Rattle.ldar_law.specs.Force.{class_by}
use Rattle.ldar_law.specs.Judged.{Case, register_with}
use Rattle.ldar_law.specs.RegisterLaws.{with_class}
use Rattle.ldar_law.specs.Slices.{register_facts}
use Rattle.ldar_law.specs.Verdicts.{Rule, rules, least_rule, denial_at, denial_after, first_denial, facts_with, verdict_on, is_ruly, first_unruly}

-- a fact is denied by the rule with the least number of those that deny it
abbrev pub LeastRuleIsTold : Type 0
LeastRuleIsTold =
    (case : Case) (number : ℕ) → least_rule case ≡ Some number
    → ((rule : Rule) × Contains rules rule × (rule.number ≡ number) × (rule.denies case ≡ true))
    × ((other : Rule) → Contains rules other → other.denies case ≡ true → number ≤ other.number)

-- if no rule is reported for a fact, no rule denies it
abbrev pub NoRuleDenies : Type 0
NoRuleDenies = (case : Case) → least_rule case ≡ None → (rule : Rule) → Contains rules rule → rule.denies case ≡ false

-- a batch is denied exactly for its first fact that a rule denies
abbrev pub FirstFactIsTold : Type 0
FirstFactIsTold =
    (history : List Batch) (batch : Batch) (fact number : ℕ)
    → (verdict_on history batch ≡ Denied fact number) ↔ GivesFirst (denial_at (facts_of history)) (entries_of batch) (fact, number)

-- no fact of the batch is denied
abbrev pub IsUndenied : List Batch → Batch → Type 0
IsUndenied history batch =
    (before : List Entry) (entry : Entry) (after : List Entry) → entries_of batch ≡ before ++ entry ∷ after
    → denial_at (facts_of history) before entry after ≡ None

-- a batch passes exactly if no fact of it is denied and its facts fit
abbrev pub PassesUndenied : Type 0
PassesUndenied =
    (history : List Batch) (batch : Batch)
    → (verdict_on history batch ≡ Pass) ↔ (IsUndenied history batch × (facts_with history batch ≤ MOST_FACTS))

-- a batch is too large exactly if no fact of it is denied and its facts do not fit
abbrev pub FullUndenied : Type 0
FullUndenied =
    (history : List Batch) (batch : Batch) (facts : ℕ)
    → (verdict_on history batch ≡ Full facts) ↔ (IsUndenied history batch × (MOST_FACTS < facts) × (facts ≡ facts_with history batch))

-- a history is ruly exactly if each batch passes after those before it
abbrev pub RulyIsEach : Type 0
RulyIsEach =
    (history : List Batch)
    → IsTrue (is_ruly history) ↔ ((before : List Batch) (batch : Batch) (after : List Batch)
    → history ≡ before ++ batch ∷ after → verdict_on before batch ≡ Pass)

-- a history of at most MOST_FACTS facts is ruly exactly if it has no unruly batch
abbrev pub RulyHasNoUnruly : Type 0
RulyHasNoUnruly =
    (history : List Batch) → length (facts_of history) ≤ MOST_FACTS → IsTrue (is_ruly history) ↔ (first_unruly history ≡ None)

-- the order in which batches arrived does not change the verdict on another batch
abbrev pub VerdictForgetsOrder : Type 0
VerdictForgetsOrder =
    (history other : List Batch) (batch : Batch) → IsPermutation history other → IsTrue (identities_differ history)
    → verdict_on other batch ≡ verdict_on history batch

-- only the register's facts of a history decide which facts are denied
abbrev pub RegisterDecides : Type 0
RegisterDecides =
    (history : List Batch) (batch : Batch)
    → denial_after (register_facts (facts_of history)) batch ≡ first_denial history batch

-- the last class entered for a component by a day, after some facts one by one
abbrev pub later_class : ℕ → ℕ → List Entry → Option (Key × Class) → Option (Key × Class)
later_class number day [] latest = latest
later_class number day (entry ∷ entries) latest = later_class number day entries (with_class day (class_at number entry) latest)

-- when facts are added to others in key order, the class in force is the later of the old one and the last one added; a key may occur twice
abbrev pub ClassAfterFacts : Type 0
ClassAfterFacts =
    (number day : ℕ) (entries more : List Entry)
    → class_by day (classes_of number (register_with (in_order goes_first entries) more).in_order)
    ≡ later_class number day more (class_by day (classes_of number (in_order goes_first entries)))
