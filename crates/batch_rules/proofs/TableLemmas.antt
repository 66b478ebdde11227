use Rattle.std.proofs.Common.{◌≡◌, ℕ, ◌+◌, ◌<◌, length, drop, get_or, Bool, false}
use Rattle.std.proofs.Common.{cond, Option, Some, List, [], ◌∷◌, refl, sym, inl, inr}
use Rattle.std.specs.Prelude.{find}
use Rattle.std.specs.Option.{option_map}
use Rattle.std.proofs.lemmas.Bool.{cases_Bool}
use Rattle.std.proofs.lemmas.List.{drop_more}
use Rattle.ldar_law.specs.Denials as denials
use Rattle.ldar_law.specs.Judged.{Case}
use Rattle.ldar_law.specs.Verdicts.{Rule, rules, least_rule}
use Rattle.batch_rules.specs.Table.{elected_if_in_time, first_true_from, first_true}

-- the first true element from a place on
pub first_from_place : (bs : List Bool) (i : ℕ) → i < length bs
    → first_true_from (i + 1) (drop i bs) ≡ cond (get_or bs i false) (Some (i + 1)) (first_true_from (i + 1 + 1) (drop (i + 1) bs))
first_from_place bs i within = rw (drop_more bs i false within) refl

-- the findings of some rules on a fact, each evaluated only if those before it passed the fact
Says : Case → ℕ → List Rule → List Bool → Type 0
Says case number [] [] = Unit {0}
Says case number (x ∷ xs) (b ∷ bs) = (x.number ≡ number) × (x.denies case ≡ b) × (b ≡ false → Says case (number + 1) xs bs)
Says case number _ _ = ⊥

-- the least of some rules that denies the fact
told : Case → List Rule → Option ℕ
told case xs = option_map (λ rule. rule.number) (find (λ rule. rule.denies case) xs)

-- it is the first true finding
first_told : (case : Case) (number : ℕ) (xs : List Rule) (bs : List Bool) → Says case number xs bs → told case xs ≡ first_true_from number bs
unfolding told Says
first_told case number [] [] says = refl
first_told case number [] (b ∷ bs) says = absurd says
first_told case number (x ∷ xs) [] says = absurd says
first_told case number (x ∷ xs) (b ∷ bs) says =
    elim (cases_Bool b) [
      | inl denies ↦ rw (says.1, denies, says.0) refl
      | inr passes ↦ rw (says.1, passes) (first_told case (number + 1) xs bs (says.2 passes))
    ]

-- the findings of all rules
abbrev pub findings : Case → List Bool
findings case =
    denials.component_unknown case
    ∷ denials.looked_in_vacuum case
    ∷ denials.looked_under_300_hours case
    ∷ denials.reading_unsigned case
    ∷ denials.no_pump_to_see case
    ∷ denials.no_compressor_to_sense case
    ∷ denials.no_relief_device case
    ∷ denials.no_evidence_counts case
    ∷ denials.purges_no_valve case
    ∷ denials.seals_no_pump case
    ∷ denials.stocks_no_valve case
    ∷ denials.delay_unsigned case
    ∷ denials.repair_not_expected case
    ∷ denials.notified_late case
    ∷ denials.too_many_difficult case
    ∷ denials.entered_by_a_handheld case
    ∷ denials.unit_unknown case
    ∷ denials.entered_twice case
    ∷ denials.day_too_late case
    ∷ elected_if_in_time case
    ∷ denials.class_unsuited case
    ∷ []

-- the findings are those of the rules
all_say : (case : Case) → Says case 1 rules (findings case)
unfolding Says
all_say case = (
  refl,
  refl,
  λ _. (
    refl,
    refl,
    λ _. (
      refl,
      refl,
      λ _. (
        refl,
        refl,
        λ _. (
          refl,
          refl,
          λ _. (
            refl,
            refl,
            λ _. (
              refl,
              refl,
              λ _. (
                refl,
                refl,
                λ _. (
                  refl,
                  refl,
                  λ _. (
                    refl,
                    refl,
                    λ _. (
                      refl,
                      refl,
                      λ _. (
                        refl,
                        refl,
                        λ _. (
                          refl,
                          refl,
                          λ _. (
                            refl,
                            refl,
                            λ _. (
                              refl,
                              refl,
                              λ _. (
                                refl,
                                refl,
                                λ _. (
                                  refl,
                                  refl,
                                  λ _. (
                                    refl,
                                    refl,
                                    λ _. (
                                      refl,
                                      refl,
                                      λ in_time.
                                          (refl, rw in_time refl, λ _. (refl, refl, λ _. tt)),
                                    ),
                                  ),
                                ),
                              ),
                            ),
                          ),
                        ),
                      ),
                    ),
                  ),
                ),
              ),
            ),
          ),
        ),
      ),
    ),
  ),
)

-- the first true finding is the least rule that denies the fact
pub first_finding_is : (case : Case) → first_true (findings case) ≡ least_rule case
unfolding first_true told
first_finding_is case = sym (first_told case 1 rules (findings case) (all_say case))
