-- Numbers without a value are skipped.
use Rattle.std.proofs.Common.{◌≡◌, ℕ, zero, suc, ◌+◌, ◌-◌, ◌<◌, ◌≤◌, Option, None, List, ◌++◌, refl, sym, ap, ◌∙◌, subst, inl, inr, arith}
use Rattle.std.specs.List.{filter_map}
use Rattle.std.proofs.lemmas.Bool.{cases_lt}
use Rattle.list_words.specs.Ranges.{until}
use Rattle.list_words.proofs.RangeLemmas.{until_none, until_more}

-- some numbers without a value are skipped
passed_over : {B : Type 0} (f : ℕ → Option B) (low end count : ℕ) → ((n : ℕ) → low ≤ n → n < low + count → f n ≡ None) →
    filter_map f (until low end) ≡ filter_map f (until (low + count) end)
passed_over f low end zero none = let same : low + 0 ≡ low = omega arith in rw same refl
passed_over f low end (suc count) none =
    let on : low + 1 + count ≡ low + suc count = omega arith in
    elim (cases_lt low end) [
      | inl more ↦
          let rest = passed_over f (low + 1) end count (λ n from before. none n (omega (arith, from)) (omega (arith, before))) in
          rw (until_more low end more, none low (omega arith) (omega arith), ← on) rest
      | inr all ↦ rw (until_none low end all, until_none (low + suc count) end (omega (arith, all))) refl
    ]

-- the values of a range, from a later start if the numbers before it have none
pub from_later : {B : Type 0} (f : ℕ → Option B) (low cut end : ℕ) → low ≤ cut → ((n : ℕ) → low ≤ n → n < cut → f n ≡ None) →
    filter_map f (until cut end) ≡ filter_map f (until low end)
from_later f low cut end le none =
    let at : low + (cut - low) ≡ cut = omega arith in
    sym (subst (λ from. filter_map f (until low end) ≡ filter_map f (until from end)) at (passed_over f low end (cut - low) (λ n from to. none n from
    (omega (arith, to)))))

-- the values up to an end are all values, if they are for that end
pub listed_in : {B : Type 0} (f : ℕ → Option B) (done : List B) (low end last : ℕ) (all : List ℕ) → end ≡ last →
    filter_map f (until low last) ≡ filter_map f all → done ++ filter_map f (until low end) ≡ done ++ filter_map f all
listed_in f done low end last all at is = ap (λ e. done ++ filter_map f (until low e)) at ∙ ap (λ ds. done ++ ds) is
