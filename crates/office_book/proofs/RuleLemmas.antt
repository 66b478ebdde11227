-- What a verdict implies about the rules: a denial names one of them, and a passing batch of a handheld makes no entry in the register.
use Rattle.std.proofs.Common.{◌≡◌, ℕ, ◌+◌, ◌≤◌, true, ◌&&◌, Option, Some, None, List, length, refl}
use Rattle.std.proofs.Common.{ap, subst, arith}
use Rattle.std.specs.Prelude.{nat_le}
use Rattle.std.specs.List.{AllByRecursion}
use Rattle.std.specs.Option.{option_map}
use Rattle.std.proofs.lemmas.Bool.Decides.{nat_tests}
use Rattle.list_words.proofs.Members.{all_at, among_from_Contains}
use Rattle.fact_kinds.specs.declared.batch.Batch.{Batch}
use Rattle.fact_kinds.specs.Facts.{Entry, facts_of}
use Rattle.ldar_law.specs.declared.verdict.Verdict.TheVariants.{Denied}
use Rattle.ldar_law.specs.Judged.{case_of}
use Rattle.ldar_law.specs.Verdicts.{Rule, rules, least_rule, verdict_on}
use Rattle.ldar_law.proofs.VerdictLemmas.{least_rule_is_told, first_fact_is_told}

-- the rules are numbered from 1 to 21
abbrev IsNumbered : Rule → Type 0
IsNumbered rule = (nat_le 1 rule.number && nat_le rule.number 21) ≡ true

each_is_numbered : AllByRecursion IsNumbered rules
each_is_numbered = (
  refl,
  (
    refl,
    (
      refl,
      (
        refl,
        (
          refl,
          (
            refl,
            (refl, (refl, (refl, (refl, (refl, (refl, (refl, (refl, (refl, (refl, (refl, (refl, (refl, (refl, (refl, tt))))))))))))))),
          ),
        ),
      ),
    ),
  ),
)

numbered_within : (n : ℕ) → (nat_le 1 n && nat_le n 21) ≡ true → (1 ≤ n) × (n ≤ 21)
numbered_within n test = (grind (arith, nat_tests), grind (arith, nat_tests))

-- the rule of a denial
rule_named : Option (ℕ × ℕ) → Option ℕ
rule_named None = None
rule_named (Some denial) = Some denial.1

-- the rule that denies a fact
denied_by : (earlier : List Entry) (rule : Option ℕ) (fact number : ℕ) → option_map {U = ℕ × ℕ} (λ n. (length earlier + 1, n)) rule ≡ Some (fact, number)
    → rule ≡ Some number
unfolding rule_named
denied_by earlier (Some n) fact number e = ap rule_named e
denied_by earlier None fact number e = ap rule_named e

-- a denial names a rule from 1 to 21
pub rule_in_range : (history : List Batch) (batch : Batch) (fact number : ℕ) → verdict_on history batch ≡ Denied fact number → (1 ≤ number) × (number ≤ 21)
rule_in_range history batch fact number e =
    let first = (first_fact_is_told history batch fact number).0 e in
    let case = case_of (facts_of history) first.before first.element first.after in
    let told = (least_rule_is_told case number (denied_by first.before (least_rule case) fact number first.gives)).0 in
    numbered_within number (subst (λ (n : ℕ). (nat_le 1 n && nat_le n 21) ≡ true) told.2
    (all_at IsNumbered rules told.0 each_is_numbered (among_from_Contains rules told.0 told.1)))
