-- The table of rules, the verdict on a batch, and histories that keep the rules.
use Rattle.std.specs.Prelude.{ℕ, ◌+◌, Bool, true, false, not, nat_lt, nat_eq, if◌then◌else◌, Option, Some, None, List, [], ◌∷◌, length, find, codes}
use Rattle.std.specs.Option.{option_map}
use Rattle.list_words.specs.Words.{first_given, somewhere}
use Rattle.fact_kinds.specs.declared.batch.Batch.{Batch}
use Rattle.fact_kinds.specs.Facts.{Entry, entries_of, facts_of}
use Rattle.ldar_law.specs.declared.verdict.Verdict.{Verdict}
use Rattle.ldar_law.specs.declared.verdict.Verdict.TheVariants.{Pass, Denied, Full}
use Rattle.fact_kinds.specs.declared.limits.TheConstants.{MOST_FACTS}
use Rattle.ldar_law.specs.Judged.{Case, case_of}
use Rattle.ldar_law.specs.Denials as denials

-- a rule: its number, the paragraph that a denial by it names, and the facts that it denies
pub record Rule : Type 0 where
  pub number : ℕ
  pub paragraph : List ℕ
  pub denies : Case → Bool

-- a rule from its number, its paragraph and its test
abbrev pub numbered : ℕ → List ℕ → (Case → Bool) → Rule
numbered number paragraph denies = record { number = number; paragraph = paragraph; denies = denies }

-- the rules in order of their numbers; if several rules deny a fact, the one with the least number is reported
abbrev pub rules : List Rule
rules =
    numbered 1 (codes "60.486a(e)(1)") denials.component_unknown
    ∷ numbered 2 (codes "60.482-1a(d)") denials.looked_in_vacuum
    ∷ numbered 3 (codes "60.482-1a(e)") denials.looked_under_300_hours
    ∷ numbered 4 (codes "60.486a(a)(3)") denials.reading_unsigned
    ∷ numbered 5 (codes "60.482-2a(a)(2)") denials.no_pump_to_see
    ∷ numbered 6 (codes "60.482-3a(f)") denials.no_compressor_to_sense
    ∷ numbered 7 (codes "60.482-4a(b)") denials.no_relief_device
    ∷ numbered 8 (codes "60.482-8a(a)") denials.no_evidence_counts
    ∷ numbered 9 (codes "60.482-9a(c)") denials.purges_no_valve
    ∷ numbered 10 (codes "60.482-9a(d)") denials.seals_no_pump
    ∷ numbered 11 (codes "60.482-9a(e)") denials.stocks_no_valve
    ∷ numbered 12 (codes "60.486a(c)(6)") denials.delay_unsigned
    ∷ numbered 13 (codes "60.486a(c)(7)") denials.repair_not_expected
    ∷ numbered 14 (codes "60.487a(d)") denials.notified_late
    ∷ numbered 15 (codes "60.482-7a(h)(2)(ii)") denials.too_many_difficult
    ∷ numbered 16 (codes "P1") denials.entered_by_a_handheld
    ∷ numbered 17 (codes "P2") denials.unit_unknown
    ∷ numbered 18 (codes "P3") denials.entered_twice
    ∷ numbered 19 (codes "P4") denials.day_too_late
    ∷ numbered 20 (codes "P5") denials.elected_within_a_quarter
    ∷ numbered 21 (codes "P6") denials.class_unsuited
    ∷ []

-- the paragraph of a rule
abbrev pub paragraph_of : ℕ → List ℕ
paragraph_of number = elim (find (λ rule. nat_eq rule.number number) rules) [ None ↦ [] | Some rule ↦ rule.paragraph ]

-- the least rule that denies a fact
abbrev pub least_rule : Case → Option ℕ
least_rule case = option_map (λ rule. rule.number) (find (λ rule. rule.denies case) rules)

-- a fact of a batch that is denied: its place in the batch, from 1, and the number of the least rule that denies it
abbrev pub denial_at : List Entry → List Entry → Entry → List Entry → Option (ℕ × ℕ)
denial_at held earlier entry later =
    option_map (λ number. (length earlier + 1, number)) (least_rule (case_of held earlier entry later))

-- the first fact of a batch that is denied after some facts
abbrev pub denial_after : List Entry → Batch → Option (ℕ × ℕ)
denial_after held batch = first_given (denial_at held) (entries_of batch)

-- the first fact of a batch that is denied after a history
abbrev pub first_denial : List Batch → Batch → Option (ℕ × ℕ)
first_denial history batch = denial_after (facts_of history) batch

-- the number of facts of a history and one more batch
abbrev pub facts_with : List Batch → Batch → ℕ
facts_with history batch = length (facts_of history) + length batch.facts

-- a batch is denied for its first fact that a rule denies; otherwise it is too large if there would be more than 8,000,000 facts; otherwise
-- it passes
abbrev pub verdict_by : Option (ℕ × ℕ) → ℕ → Verdict
verdict_by (Some denial) facts = Denied denial.0 denial.1
verdict_by None facts = if nat_lt MOST_FACTS facts then Full facts else Pass

-- the verdict on a batch after a history
abbrev pub verdict_on : List Batch → Batch → Verdict
verdict_on history batch = verdict_by (first_denial history batch) (facts_with history batch)

abbrev pub is_pass : Verdict → Bool
is_pass Pass = true
is_pass _ = false

-- each batch passes after those before it
abbrev pub is_ruly : List Batch → Bool
is_ruly history = not (somewhere (λ before batch after. not (is_pass (verdict_on before batch))) history)

-- the position, from 1, of a batch that is denied after those before it, and the rule
abbrev pub unruly_at : List Batch → Batch → List Batch → Option (ℕ × ℕ)
unruly_at before batch after = option_map (λ denial. (length before + 1, denial.1)) (first_denial before batch)

-- the first batch that is denied after those before it
abbrev pub first_unruly : List Batch → Option (ℕ × ℕ)
first_unruly history = first_given unruly_at history
