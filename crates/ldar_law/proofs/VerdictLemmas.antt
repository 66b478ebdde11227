use Rattle.std.proofs.Common.{◌≡◌, ℕ, ◌≤◌, ◌<◌, true, false, not, nat_lt, Option, Some, None, is_some, List, [], ◌∷◌, ◌++◌, length, ◌+◌, refl, sym, ap, ◌∙◌}
use Rattle.std.proofs.Common.{inl, inr, subst, arith}
use Rattle.std.specs.Prelude.{Contains, find}
use Rattle.std.specs.Option.{option_map}
use Rattle.std.proofs.lemmas.Bool.{cases_Bool, false≢true}
use Rattle.std.proofs.lemmas.Bool.Decides.{nat_tests}
use Rattle.std.proofs.lemmas.List.Sums.{sum_by-cons, sum_by-append}
use Rattle.list_words.specs.Words.{first_given, somewhere, Passes}
use Rattle.list_words.specs.Order.{Ascends}
use Rattle.list_words.proofs.Members.{Among, all_at, among_from_Contains, Contains-from_among}
use Rattle.list_words.proofs.WordLaws.{somewhere_decides, first_given_is_first, first_given_finds}
use Rattle.fact_kinds.specs.declared.batch.Batch.{Batch}
use Rattle.fact_kinds.specs.Facts.{Entry, entries_of, facts_of}
use Rattle.fact_kinds.proofs.OrderFree.{order_free, facts_count}
use Rattle.ldar_law.specs.declared.verdict.Verdict.{Verdict}
use Rattle.ldar_law.specs.declared.verdict.Verdict.TheVariants.{Pass, Denied, Full}
use Rattle.ldar_law.proofs.Gifts.{cases_Option}
use Rattle.ldar_law.specs.Judged.{Case}
use Rattle.ldar_law.specs.Verdicts.{Rule, rules, denial_at, first_denial, facts_with, verdict_by, verdict_on, is_pass, is_ruly, unruly_at}
use Rattle.ldar_law.specs.DenialLaws.{LeastRuleIsTold, NoRuleDenies, FirstFactIsTold, PassesUndenied, FullUndenied, RulyIsEach, RulyHasNoUnruly}
use Rattle.ldar_law.specs.DenialLaws.{VerdictForgetsOrder}

-- ---- the least rule

-- the first of ascending rules that denies has the least number of those that do
least_of : (case : Case) (xs : List Rule) (found other : Rule) → Ascends (λ a b. nat_lt a.number b.number) xs
    → find (λ rule. rule.denies case) xs ≡ Some found → Among xs other → other.denies case ≡ true → found.number ≤ other.number
least_of case [] found other up e among denies = absurd among
least_of case (x ∷ xs) found other up e among denies =
    elim (cases_Bool (x.denies case)) [
      | inl denied ↦
          let same : x ≡ found = cc in
          elim among [
            | inl here ↦ let least : x.number ≤ x.number = omega arith in subst (λ (r : Rule). r.number ≤ other.number) same
                (subst (λ (r : Rule). x.number ≤ r.number) here least)
            | inr there ↦ let after : nat_lt x.number other.number ≡ true = all_at (λ y. nat_lt x.number y.number ≡ true) xs other up.0 there in
                let least : x.number ≤ other.number = grind (arith, nat_tests) in subst (λ (r : Rule). r.number ≤ other.number) same least
          ]
      | inr let_pass ↦ elim among [
        | inl here ↦ absurd cc
        | inr there ↦ least_of case xs found other up.1 (rw let_pass at e) there denies
      ]
    ]

-- if a rule is found, it denies
found_of : (case : Case) (xs : List Rule) (found : Rule) → find (λ rule. rule.denies case) xs ≡ Some found → Among xs found × (found.denies case ≡ true)
found_of case [] found e = absurd cc
found_of case (x ∷ xs) found e =
    elim (cases_Bool (x.denies case)) [
      | inl denied ↦ let same : x ≡ found = cc in (inl same, subst (λ (r : Rule). r.denies case ≡ true) same denied)
      | inr let_pass ↦ let rest = found_of case xs found (rw let_pass at e) in (inr rest.0, rest.1)
    ]

-- if no rule is found, none denies
none_of : (case : Case) (xs : List Rule) (other : Rule) → find (λ rule. rule.denies case) xs ≡ None → Among xs other → other.denies case ≡ false
none_of case [] other e among = absurd among
none_of case (x ∷ xs) other e among =
    elim (cases_Bool (x.denies case)) [
      | inl denied ↦ let clash : Some x ≡ None = rw denied at e in absurd cc
      | inr let_pass ↦ elim among [
        | inl here ↦ subst (λ (r : Rule). r.denies case ≡ false) here let_pass
        | inr there ↦ none_of case xs other (rw let_pass at e) there
      ]
    ]

-- the table is in order of number
table_ascends : Ascends (λ a b. nat_lt a.number b.number) rules
table_ascends = search

-- the rule that is reported, from rules in order of number
told_of : (case : Case) (xs : List Rule) (number : ℕ) → Ascends (λ a b. nat_lt a.number b.number) xs
    → option_map (λ rule. rule.number) (find (λ rule. rule.denies case) xs) ≡ Some number
    → ((rule : Rule) × Contains xs rule × (rule.number ≡ number) × (rule.denies case ≡ true))
    × ((other : Rule) → Contains xs other → other.denies case ≡ true → number ≤ other.number)
told_of case xs number up e =
    elim (cases_Option (find (λ rule. rule.denies case) xs)) [
      | inl none ↦ let clash : None ≡ Some number = rw none at e in absurd cc
      | inr some ↦
          let found = found_of case xs some.0 some.1 in
          let same : Some some.0.number ≡ Some number = rw some.1 at e in
          let told : some.0.number ≡ number = cc in (
            (some.0, Contains-from_among xs some.0 found.0, told, found.1),
            λ other among denies. subst (λ n. n ≤ other.number) told (least_of case xs some.0 other up some.1 (among_from_Contains xs other among) denies),
          )
    ]

-- if no rule is found, there is no number
none_told : (case : Case) (xs : List Rule) → option_map (λ rule. rule.number) (find (λ rule. rule.denies case) xs) ≡ None
    → (rule : Rule) → Contains xs rule → rule.denies case ≡ false
none_told case xs e rule among =
    elim (cases_Option (find (λ rule. rule.denies case) xs)) [
      | inl none ↦ none_of case xs rule none (among_from_Contains xs rule among)
      | inr some ↦ let clash : Some some.0.number ≡ None = rw some.1 at e in absurd cc
    ]

pub least_rule_is_told : LeastRuleIsTold
least_rule_is_told case number e = told_of case rules number table_ascends e

pub no_rule_denies : NoRuleDenies
no_rule_denies case e rule among = none_told case rules e rule among

-- ---- the verdict

denied_told : (o : Option (ℕ × ℕ)) (facts fact number : ℕ) → verdict_by o facts ≡ Denied fact number → o ≡ Some (fact, number)
denied_told (Some denial) facts fact number e =
    let first : denial.0 ≡ fact = cc in
    let second : denial.1 ≡ number = cc in
    rw (sym first, sym second) refl
denied_told None facts fact number e =
    elim (cases_Bool (nat_lt 8_000_000 facts)) [
      | inl full ↦ let clash : Full facts ≡ Denied fact number = rw full at e in absurd cc
      | inr fits ↦ let clash : Pass ≡ Denied fact number = rw fits at e in absurd cc
    ]

pub first_fact_is_told : FirstFactIsTold
first_fact_is_told history batch fact number =
    let first = first_given_is_first Entry (ℕ × ℕ) (denial_at (facts_of history)) (entries_of batch) (fact, number) in (
      λ e. first.0 (denied_told (first_denial history batch) (facts_with history batch) fact number e),
      λ given. ap (λ o. verdict_by o (facts_with history batch)) (first.1 given),
    )

-- if a batch passes or is too large, no fact of it is denied
pass_told : (o : Option (ℕ × ℕ)) (facts : ℕ) → verdict_by o facts ≡ Pass → (o ≡ None) × (facts ≤ 8_000_000)
pass_told (Some denial) facts e = absurd cc
pass_told None facts e =
    elim (cases_Bool (nat_lt 8_000_000 facts)) [
      | inl full ↦ let clash : Full facts ≡ Pass = rw full at e in absurd cc
      | inr fits ↦ (refl, grind (arith, nat_tests))
    ]

full_told : (o : Option (ℕ × ℕ)) (facts told : ℕ) → verdict_by o facts ≡ Full told → (o ≡ None) × (8_000_000 < told) × (told ≡ facts)
full_told (Some denial) facts told e = absurd cc
full_told None facts told e =
    elim (cases_Bool (nat_lt 8_000_000 facts)) [
      | inl full ↦
          let same : Full facts ≡ Full told = rw full at e in
          let told_facts : told ≡ facts = cc in
          (refl, subst (λ n. 8_000_000 < n) (sym told_facts) (grind (arith, nat_tests)), told_facts)
      | inr fits ↦ let clash : Pass ≡ Full told = rw fits at e in absurd cc
    ]

-- if no fact is denied, the batch passes or is too large
pass_of : (facts : ℕ) → facts ≤ 8_000_000 → verdict_by None facts ≡ Pass
pass_of facts fits = let test : nat_lt 8_000_000 facts ≡ false = grind (arith, nat_tests) in rw test refl

full_of : (facts : ℕ) → 8_000_000 < facts → verdict_by None facts ≡ Full facts
full_of facts full = let test : nat_lt 8_000_000 facts ≡ true = grind (arith, nat_tests) in rw test refl

-- there is no first value exactly if no element has a value
none_given : {X Y : Type 0} (f : List X → X → List X → Option Y) (xs : List X) → first_given f xs ≡ None
    → (before : List X) (x : X) (after : List X) → xs ≡ before ++ x ∷ after → f before x after ≡ None
none_given {X = X} {Y = Y} f xs e before x after stands =
    elim (cases_Option (f before x after)) [
      | inl none ↦ none
      | inr some ↦
          let here : Passes (λ before x after. is_some (f before x after)) xs x =
          record { before = before; after = after; stands = stands; passes = ap is_some some.1 } in
          let found = (somewhere_decides X (λ before x after. is_some (f before x after)) xs).1 (x, here) in
          absurd (false≢true (sym (ap is_some e) ∙ first_given_finds X Y f xs ∙ found))
    ]

-- if no element has a value, there is no first one
none_first : {X Y : Type 0} (f : List X → X → List X → Option Y) (xs : List X)
    → ((before : List X) (x : X) (after : List X) → xs ≡ before ++ x ∷ after → f before x after ≡ None) → first_given f xs ≡ None
none_first {X = X} {Y = Y} f xs none =
    elim (cases_Option (first_given f xs)) [
      | inl nothing ↦ nothing
      | inr some ↦
          let first = (first_given_is_first X Y f xs some.0).0 some.1 in
          let clash : Some some.0 ≡ None = sym first.gives ∙ none first.before first.element first.after first.stands in
          absurd cc
    ]

pub passes_undenied : PassesUndenied
passes_undenied history batch = (
  λ e. let told = pass_told (first_denial history batch) (facts_with history batch) e in
      (none_given (denial_at (facts_of history)) (entries_of batch) told.0, told.1),
  λ h.
      let none : first_denial history batch ≡ None = none_first (denial_at (facts_of history)) (entries_of batch) h.0 in
      ap (λ o. verdict_by o (facts_with history batch)) none ∙ pass_of (facts_with history batch) h.1,
)

pub full_undenied : FullUndenied
full_undenied history batch facts = (
  λ e. let told = full_told (first_denial history batch) (facts_with history batch) facts e in
      (none_given (denial_at (facts_of history)) (entries_of batch) told.0, told.1, told.2),
  λ h.
      let none : first_denial history batch ≡ None = none_first (denial_at (facts_of history)) (entries_of batch) h.0 in
      ap (λ o. verdict_by o (facts_with history batch)) none ∙ subst (λ n. verdict_by None n ≡ Full facts) h.2 (full_of facts h.1),
)

-- ---- ruly histories

passes_from : (verdict : Verdict) → is_pass verdict ≡ true → verdict ≡ Pass
passes_from Pass e = refl
passes_from (Denied fact number) e = absurd (false≢true e)
passes_from (Full facts) e = absurd (false≢true e)

pub ruly_is_each : RulyIsEach
ruly_is_each history =
    let decides = somewhere_decides Batch (λ before batch after. not (is_pass (verdict_on before batch))) history in (
      λ ruly before batch after stands.
          elim (cases_Bool (is_pass (verdict_on before batch))) [
            | inl passes ↦ passes_from (verdict_on before batch) passes
            | inr fails ↦
                let found = decides.1 (batch, record { before = before; after = after; stands = stands; passes = ap not fails }) in
                let unruly : is_ruly history ≡ false = ap not found in
                absurd (false≢true (sym unruly ∙ ruly))
          ],
      λ each.
          elim (cases_Bool (somewhere (λ before batch after. not (is_pass (verdict_on before batch))) history)) [
            | inl somewhere_fails ↦
                let found = decides.0 somewhere_fails in
                let passes = each found.1.before found.0 found.1.after found.1.stands in
                let clash : not (is_pass Pass) ≡ true = subst (λ v. not (is_pass v) ≡ true) passes found.1.passes in
                absurd (false≢true clash)
            | inr nowhere ↦ ap not nowhere
          ],
    )

-- the facts of a batch and of those before it are at most the facts of the history
facts_before : (before : List Batch) (batch : Batch) (after : List Batch)
    → facts_with before batch ≤ length (facts_of (before ++ batch ∷ after))
facts_before before batch after =
    let size : Batch → ℕ = λ b. length b.facts in
    let whole = facts_count (before ++ batch ∷ after) in
    let front = facts_count before in
    let split = sum_by-append size before (batch ∷ after) in
    let first = sum_by-cons size batch after in
    omega (arith, whole, front, split, first)

-- such a batch passes if it is not denied
passes_there : (before : List Batch) (batch : Batch) (after : List Batch) → length (facts_of (before ++ batch ∷ after)) ≤ 8_000_000
    → first_denial before batch ≡ None → verdict_on before batch ≡ Pass
passes_there before batch after fits none =
    let within = facts_before before batch after in
    ap (λ o. verdict_by o (facts_with before batch)) none ∙ pass_of (facts_with before batch) (omega (arith, within, fits))

-- a batch that is not unruly is not denied
undenied : {X Y : Type 0} (f : X → Y) (o : Option X) → option_map f o ≡ None → o ≡ None
undenied f None e = refl
undenied f (Some x) e = absurd cc

pub ruly_has_no_unruly : RulyHasNoUnruly
ruly_has_no_unruly history fits = (
  λ ruly. none_first unruly_at history (λ before batch after stands.
      let passes = (ruly_is_each history).0 ruly before batch after stands in
      let placed : ℕ × ℕ → ℕ × ℕ = λ denial. (length before + 1, denial.1) in
      ap (option_map placed) ((pass_told (first_denial before batch) (facts_with before batch) passes).0)),
  λ none. (ruly_is_each history).1 (λ before batch after stands.
      let placed : ℕ × ℕ → ℕ × ℕ = λ denial. (length before + 1, denial.1) in
      passes_there before batch after (subst (λ h. length (facts_of h) ≤ 8_000_000) stands fits)
      (undenied placed (first_denial before batch) (none_given unruly_at history none before batch after stands))),
)

pub verdict_forgets_order : VerdictForgetsOrder
verdict_forgets_order history other batch moved differ =
    ap (λ facts. verdict_by (first_given (denial_at facts) (entries_of batch)) (length facts + length batch.facts)) (order_free history other moved differ)
