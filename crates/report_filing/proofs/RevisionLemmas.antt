-- Revisions in the order of filing, and the last of them.
use Rattle.std.proofs.Common.{◌≡◌, ℕ, ◌+◌, Bool, true, nat_eq, Option, Some, None, List, [], ◌∷◌}
use Rattle.std.proofs.Common.{◌++◌, filter, length, refl, sym, ap, ◌∙◌, subst, inl, inr, arith}
use Rattle.std.specs.Option.{option_or}
use Rattle.std.proofs.lemmas.Bool.{cases_Bool, and_parts}
use Rattle.std.proofs.lemmas.Bool.Decides.{nat_tests}
use Rattle.std.proofs.lemmas.List.{append-nil}
use Rattle.std.proofs.lemmas.List.Elements.{filter-append}
use Rattle.disk_model.specs.Told.{Told}
use Rattle.list_words.specs.Words.{last_such}
use Rattle.list_words.proofs.WordLemmas.{last_such-cons}
use Rattle.ldar_law.specs.declared.report.Filed.{Filed}
use Rattle.ldar_law.specs.declared.report.Report.{Report}
use Rattle.report_filing.specs.Answers.{filed_as, Follows}
use Rattle.report_filing.specs.Revisions.{is_filed_for, revisions, latest_of, CountFrom, AreNumbered, IsNext}

-- ---- one more revision

-- revisions that count up from a number, with the next one at the end
CountFrom-push : (number : ℕ) (filed : List Filed) (next : Filed) → CountFrom number filed → next.revision ≡ length filed + number
    → CountFrom number (filed ++ next ∷ [])
CountFrom-push number [] next counted is = (omega (arith, is), tt)
CountFrom-push number (first ∷ more) next counted is = (counted.0, CountFrom-push (number + 1) more next counted.1 (omega arith))

-- the revisions of a unit's half, with one more report
pub revisions_put : (unit half : ℕ) (all : List Filed) (next : Filed)
    → revisions unit half (all ++ next ∷ []) ≡ revisions unit half all ++ filter (is_filed_for unit half) (next ∷ [])
revisions_put unit half all next = filter-append (is_filed_for unit half) all (next ∷ [])

-- a report is filed for its own unit and half
own : (unit half : ℕ) (next : Filed) → is_filed_for unit half next ≡ true → (unit ≡ next.unit) × (half ≡ next.half)
own unit half next is =
    let parts = and_parts (nat_eq next.unit unit) (nat_eq next.half half) is in
    (grind (arith, nat_tests), grind (arith, nat_tests))

-- the revisions still count from 1 with the next one
pub numbered_put : (all : List Filed) (next : Filed) → AreNumbered all → IsNext next all → AreNumbered (all ++ next ∷ [])
numbered_put all next numbered is unit half = elim (cases_Bool (is_filed_for unit half next)) [
  | inl passes ↦
      let same = own unit half next passes in
      let counted = CountFrom-push 1 (revisions next.unit next.half all) next (numbered next.unit next.half) is in
      subst (CountFrom 1) (sym (revisions_put unit half all next)) (rw (passes, same.0, same.1) counted)
  | inr fails ↦ subst (CountFrom 1) (sym (revisions_put unit half all next)) (rw (fails, append-nil) (numbered unit half))
]

-- ---- the last revision

-- the number after that of the last report, or another one without a last report
abbrev pub after : ℕ → Option Filed → ℕ
after number None = number
after number (Some last) = last.revision + 1

-- the first report counts if no other follows
after_first : (number : ℕ) (last : Option Filed) (first : Filed) → first.revision ≡ number
    → after number (option_or last (Some first)) ≡ after (number + 1) last
after_first number None first is = omega arith
after_first number (Some last) first is = refl

-- no report follows
or_none : (last : Option Filed) → option_or last None ≡ last
or_none None = refl
or_none (Some last) = refl

-- the number of the last report is the number of reports
pub last_counted : (p : Filed → Bool) (number : ℕ) (all : List Filed) → CountFrom number (filter p all)
    → after number (last_such p all) ≡ length (filter p all) + number
last_counted p number [] counted = omega arith
last_counted p number (filed ∷ more) counted = elim (cases_Bool (p filed)) [
  | inl passes ↦
      let all : CountFrom number (filed ∷ filter p more) = rw passes at counted in
      let rest = last_counted p (number + 1) more all.1 in
      let first = after_first number (last_such p more) filed all.0 in
      rw (last_such-cons p filed more, passes) (omega arith)
  | inr fails ↦
      let rest : CountFrom number (filter p more) = rw fails at counted in
      rw (last_such-cons p filed more, fails, or_none) (last_counted p number more rest)
]

-- the revision that follows the last one has the next number
follows_after : (report : Report) (revision : ℕ) (last : Option Filed) → Follows report revision last → revision ≡ after 1 last
follows_after report revision None follows = follows
follows_after report revision (Some last) follows = follows.1

-- the revision that follows the last one is the next of its unit and half
pub told_next : (report : Report) (revision : ℕ) (last : Option Filed) → Follows report revision last
    → (told : Option (List Filed)) → Told told (λ old. last ≡ latest_of report.unit report.half old) → Told told AreNumbered
    → Told told (IsNext (filed_as revision report))
told_next report revision last follows None value numbered = tt
told_next report revision last follows (Some old) value numbered =
    let counted = last_counted (is_filed_for report.unit report.half) 1 old (numbered report.unit report.half) in
    follows_after report revision last follows ∙ ap (after 1) value ∙ counted
