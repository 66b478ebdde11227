use Rattle.std.proofs.Common.{◌≡◌, ℕ, zero, suc, ◌+◌, ◌≤◌, Bool, true, cond, List, [], ◌∷◌, length, take, filter, refl, subst, ◌∙◌, inl, inr, arith}
use Rattle.std.specs.Prelude.{count_by, fold, not, if◌then◌else◌}
use Rattle.std.specs.List.{prefix_len, list_all}
use Rattle.std.proofs.lemmas.Bool.{cases_Bool, leb-true, le-leb}
use Rattle.std.proofs.lemmas.List.Sums.{sum_by-cons}
use Rattle.ldar_law.specs.declared.tally.Mark.{Mark}
use Rattle.ldar_law.specs.declared.tally.Tally.{Tally}
use Rattle.ldar_law.specs.QuarterLaws.{TallyCounts, StreakIsOfGoodQuarters}
use Rattle.ldar_law.specs.Skips.{good_streak}
use Rattle.ldar_law.specs.Tallies.{with_mark}
use Rattle.ldar_law.proofs.TestLemmas.{both}

-- the elements of a prefix that passes pass
reaches : {X : Type 0} (p : X → Bool) (xs : List X) (n : ℕ) → n ≤ prefix_len p xs → (n ≤ length xs) × (list_all p (take n xs) ≡ true)
reaches p xs zero h = (omega arith, refl)
reaches p [] (suc n) h = absurd (omega (arith, h))
reaches p (x ∷ xs) (suc n) h = elim (cases_Bool (p x)) [
  | inl t ↦ let rest = reaches p xs n (omega (arith, subst (λ b. suc n ≤ cond b (1 + prefix_len p xs) 0) t h)) in (omega (arith, rest.0), rw (t, rest.1) refl)
  | inr f ↦ absurd (omega (arith, subst (λ b. suc n ≤ cond b (1 + prefix_len p xs) 0) f h))
]

-- elements that pass, from the first on, are in the prefix
reached : {X : Type 0} (p : X → Bool) (xs : List X) (n : ℕ) → n ≤ length xs → list_all p (take n xs) ≡ true → n ≤ prefix_len p xs
reached p xs zero h e = omega arith
reached p [] (suc n) h e = absurd (omega (arith, h))
reached p (x ∷ xs) (suc n) h e =
    let parts : (p x ≡ true) × (list_all p (take n xs) ≡ true) = both e in
    let rest : n ≤ prefix_len p xs = reached p xs n (omega (arith, h)) parts.1 in
    rw parts.0 (omega (arith, rest))

pub streak_is_of_good_quarters : StreakIsOfGoodQuarters
unfolding good_streak
streak_is_of_good_quarters n before = (
  λ e. reaches (λ past. past.1) (filter (λ past. not past.0) before) n (leb-true n _ e),
  λ there. le-leb n _ (reached (λ past. past.1) (filter (λ past. not past.0) before) n there.0 there.1),
)

abbrev of_one : Bool → ℕ
of_one b = if b then 1 else 0

-- the counts of more marks, starting from some counts
counts_on : (tally : Tally) (marks : List Mark) → fold with_mark tally marks
    ≡ record { leaking = tally.leaking + count_by (λ mark. mark.leaking) marks; monitored = tally.monitored + count_by (λ mark. mark.monitored) marks }
counts_on tally [] =
    let a : tally.leaking + 0 ≡ tally.leaking = omega arith in
    let b : tally.monitored + 0 ≡ tally.monitored = omega arith in
    rw (a, b) refl
counts_on tally (mark ∷ marks) =
    let a = of_one mark.leaking in
    let b = of_one mark.monitored in
    let c = count_by (λ m. m.leaking) marks in
    let d = count_by (λ m. m.monitored) marks in
    let e : (tally.leaking + a) + c ≡ tally.leaking + (a + c) = omega arith in
    let f : (tally.monitored + b) + d ≡ tally.monitored + (b + d) = omega arith in
    rw (sum_by-cons (λ m. of_one m.leaking) mark marks, sum_by-cons (λ m. of_one m.monitored) mark marks)
    (counts_on (with_mark tally mark) marks ∙ rw (e, f) refl)

pub tally_counts : TallyCounts
tally_counts marks =
    let c = count_by (λ m. m.leaking) marks in
    let d = count_by (λ m. m.monitored) marks in
    let e : 0 + c ≡ c = omega arith in
    let f : 0 + d ≡ d = omega arith in
    counts_on (record { leaking = 0; monitored = 0 }) marks ∙ rw (e, f) refl
