use Rattle.std.proofs.Common.{◌≡◌, ℕ, ◌+◌, ◌≤◌, true, false, codes, Option, Some, None, List, [], ◌∷◌, length}
use Rattle.std.proofs.Common.{refl, sym, ap, ◌∙◌, inl, inr, subst, arith, length-append}
use Rattle.std.specs.Prelude.{IfSome}
use Rattle.std.specs.List.{list_any}
use Rattle.std.proofs.lemmas.Bool.{cases_eq, eq-eqb, ne_eqb}
use Rattle.list_words.proofs.Members.{Contains-from_among, all_append}
use Rattle.ldar_law.specs.Denials.{too_many_difficult, unit_with_one_more}
use Rattle.ldar_law.specs.Judged.{Register, Case}
use Rattle.ldar_law.specs.Verdicts.{numbered, rules, least_rule}
use Rattle.ldar_law.proofs.VerdictLemmas.{no_rule_denies}
use Rattle.batch_rules.specs.Passed.{is_reached, is_of, IsPassed, ArePassed, with_asked}

-- if no rule denies a fact, the rule on difficult valves passes it
pub passes_share : (case : Case) → least_rule case ≡ None → too_many_difficult case ≡ false
passes_share case none = no_rule_denies case none (numbered 15 (codes "60.482-7a(h)(2)(ii)") too_many_difficult)
    (Contains-from_among rules (numbered 15 (codes "60.482-7a(h)(2)(ii)") too_many_difficult)
    (inr (inr (inr (inr (inr (inr (inr (inr (inr (inr (inr (inr (inr (inr (inl refl))))))))))))))))

-- the rule depends only on the day and the register with the whole batch
reached_alike : (case other : Case) (unit : ℕ) → other.whole ≡ case.whole → other.entry.0.day ≡ case.entry.0.day
    → is_reached other unit ≡ is_reached case unit
reached_alike case other unit whole day =
    ap (λ (r : Register). is_reached (record other { whole = r }) unit) whole
    ∙ ap (λ (d : ℕ). is_reached (record { entry = (record other.entry.0 { day = d }, other.entry.1); known = other.known; whole = case.whole }) unit) day

-- if a fact that makes one more valve difficult passes, so does each like it
pub now_passed : (case : Case) (unit : ℕ) → too_many_difficult case ≡ false → unit_with_one_more case ≡ Some unit
    → IsPassed case.whole (unit, case.entry.0.day)
now_passed case unit passes makes other whole day =
    reached_alike case other unit whole day ∙ (rw (makes, too_many_difficult) at passes)

-- if the rule passed an earlier fact for the unit and day, it passes this one
pub passed_where : (case : Case) (unit : ℕ) (asked : List (ℕ × ℕ)) → ArePassed case.whole asked
    → list_any (is_of unit case.entry.0.day) asked ≡ true → is_reached case unit ≡ false
passed_where case unit [] passed has = absurd cc
passed_where case unit (a ∷ rest) passed has = elim (cases_eq a.0 unit) [
  | inl same ↦ elim (cases_eq a.1 case.entry.0.day) [
    | inl that_day ↦ subst (λ u. is_reached case u ≡ false) same (passed.0 case refl (sym that_day))
    | inr differ ↦ passed_where case unit rest passed.1 (rw (ne_eqb a.1 case.entry.0.day differ, eq-eqb a.0 unit same) at has)
  ]
  | inr differ ↦ passed_where case unit rest passed.1 (rw (ne_eqb a.0 unit differ) at has)
]

-- one more unit and day for which the rule passes
pub passed_with : (whole : Register) (unit : Option ℕ) (day : ℕ) (asked : List (ℕ × ℕ)) → ArePassed whole asked
    → IfSome unit (λ u. IsPassed whole (u, day)) → ArePassed whole (with_asked unit day asked)
passed_with whole None day asked passed now = passed
passed_with whole (Some unit) day asked passed now = all_append (IsPassed whole) asked ((unit, day) ∷ []) passed (now, tt)

-- at most one is added
pub length-with_asked : (unit : Option ℕ) (day : ℕ) (asked : List (ℕ × ℕ)) → length (with_asked unit day asked) ≤ length asked + 1
length-with_asked None day asked = omega arith
length-with_asked (Some unit) day asked = omega (arith, length-append asked ((unit, day) ∷ []))
