-- What is true of summaries stays true when a batch arrives, and what it touches is no more up to date.
use Rattle.std.proofs.Common.{◌≡◌, ◌⊎◌, ℕ, zero, suc, ◌+◌, ◌≤◌, Bool, true, false, ◌&&◌, ◌||◌, not, nat_eq, IsTrue, Option, Some, None, List, [], ◌∷◌, ◌++◌, length, length-append, take, drop, filter, refl, sym, ap, ◌∙◌, subst, inl, inr, arith, take-append-drop}
use Rattle.std.specs.Prelude.{Contains}
use Rattle.std.specs.List.{AllByRecursion, flat_map, list_any}
use Rattle.std.proofs.lemmas.Bool.{cases_Bool, false≢true}
use Rattle.std.proofs.lemmas.Bool.Decides.{nat_tests}
use Rattle.std.proofs.lemmas.List.{drop-append-le}
use Rattle.std.proofs.lemmas.List.Concat.{flat_map-append}
use Rattle.std.proofs.lemmas.List.Folds.{list_any-append}
use Rattle.std.proofs.lemmas.List.Sorted.{list_any-IsPermutation}
use Rattle.list_words.proofs.Ascending.{among_in_order, in_order_permutes}
use Rattle.list_words.proofs.Members.{Among, among_from_Contains, Contains-from_among}
use Rattle.fact_kinds.specs.declared.batch.Batch.{Batch}
use Rattle.fact_kinds.specs.declared.body.FactBody.{FactBody}
use Rattle.fact_kinds.specs.declared.body.FactBody.TheVariants.{Component as ComponentFact}
use Rattle.fact_kinds.specs.Facts.{Entry, entries_from, entries_of, facts_of, goes_first}
use Rattle.fact_kinds.specs.Identity.{identities_differ}
use Rattle.fact_kinds.specs.Named.{component_of, unit_of, is_numbered}
use Rattle.fact_kinds.specs.Stated.{Stated}
use Rattle.history_laws.specs.KnownLaws.{HasSameFacts}
use Rattle.history_laws.specs.MoreLaws.{with_batch}
use Rattle.history_laws.proofs.KnownLemmas.{same_facts_judge_alike}
use Rattle.history_laws.proofs.TouchLemmas.{touched_stays, untouched_stays, unnamed_unit_stays}
use Rattle.ldar_law.specs.Equipment.{equipment_of, member_entered, members_of}
use Rattle.ldar_law.specs.Force.{limit_on}
use Rattle.ldar_law.specs.Slices.{facts_of_component}
use Rattle.ldar_law.specs.Stirred.{is_touched, matters_to, touches}
use Rattle.ldar_law.proofs.EnteredLemmas.{members_are_entered}
use Rattle.touched_readings.specs.Windows.{is_judged_anew}
use Rattle.unit_summaries.specs.declared.kept.DayTallies.{DayTallies}
use Rattle.unit_summaries.specs.declared.summary.Summary.{Summary}
use Rattle.unit_summaries.specs.declared.summary.UnitSummary.{UnitSummary}
use Rattle.unit_summaries.specs.Kept.{IsKept}
use Rattle.unit_summaries.specs.Rows.{is_fresh, row_of}
use Rattle.unit_summaries.specs.Says.{IsSaid, IsUnitSaid}
use Rattle.unit_summaries.specs.Sound.{Are, Sums, answered_at, is_known, news_of}
use Rattle.unit_summaries.proofs.KeptLemmas.{counted_same}

-- ---- tests of lists

or_first : (a b : Bool) → a ≡ true → (a || b) ≡ true
or_first true b is = refl
or_first false b is = absurd (false≢true is)

or_second : (a b : Bool) → b ≡ true → (a || b) ≡ true
or_second true b is = refl
or_second false b is = is

or_either : (a b : Bool) → (a || b) ≡ true → (a ≡ true) ⊎ (b ≡ true)
or_either true b is = inl refl
or_either false b is = inr is

or_neither : (a b : Bool) → (a || b) ≡ false → (a ≡ false) × (b ≡ false)
or_neither false false is = (refl, refl)
or_neither false true is = absurd cc
or_neither true b is = absurd cc

some_weaker : {X : Type 0} (p q : X → Bool) → ((x : X) → p x ≡ true → q x ≡ true) → (xs : List X) → list_any p xs ≡ true → list_any q xs ≡ true
some_weaker p q weaker [] some = absurd (false≢true some)
some_weaker p q weaker (x ∷ xs) some =
    elim (or_either (p x) (list_any p xs) some) [
      | inl here ↦ or_first (q x) (list_any q xs) (weaker x here)
      | inr there ↦ or_second (q x) (list_any q xs) (some_weaker p q weaker xs there)
    ]

among_any : {X : Type 0} (p : X → Bool) (xs : List X) (x : X) → Among xs x → p x ≡ true → list_any p xs ≡ true
among_any p [] x among passes = absurd among
among_any p (y ∷ ys) x (inl same) passes = or_first (p y) (list_any p ys) (subst (λ z. p z ≡ true) (sym same) passes)
among_any p (y ∷ ys) x (inr there) passes = or_second (p y) (list_any p ys) (among_any p ys x there passes)

any_swap : {X Y : Type 0} (q : X → Y → Bool) (xs : List X) (ys : List Y) → list_any (λ x. list_any (q x) ys) xs ≡ true
    → list_any (λ y. list_any (λ x. q x y) xs) ys ≡ true
any_swap q [] ys some = absurd (false≢true some)
any_swap q (x ∷ xs) ys some =
    elim (or_either (list_any (q x) ys) (list_any (λ z. list_any (q z) ys) xs) some) [
      | inl here ↦ some_weaker (q x) (λ y. list_any (λ z. q z y) (x ∷ xs)) (λ y is. or_first (q x y) (list_any (λ z. q z y) xs) is) ys here
      | inr there ↦
          some_weaker (λ y. list_any (λ z. q z y) xs) (λ y. list_any (λ z. q z y) (x ∷ xs))
          (λ y is. or_second (q x y) (list_any (λ z. q z y) xs) is) ys (any_swap q xs ys there)
    ]

and_parts : (a b : Bool) → (a && b) ≡ true → (a ≡ true) × (b ≡ true)
and_parts true true is = (refl, refl)
and_parts true false is = absurd cc
and_parts false b is = absurd cc

and_from : (a b : Bool) → a ≡ true → b ≡ true → (a && b) ≡ true
and_from a b first second = rw (first, second) refl

any_filtered : {X : Type 0} (p q : X → Bool) (xs : List X) → list_any p (filter q xs) ≡ true → list_any (λ x. q x && p x) xs ≡ true
any_filtered p q [] some = absurd (false≢true some)
any_filtered p q (x ∷ xs) some =
    elim (cases_Bool (q x)) [
      | inl keeps ↦
          let both : (p x || list_any p (filter q xs)) ≡ true = rw keeps at some in
          elim (or_either (p x) (list_any p (filter q xs)) both) [
            | inl here ↦ or_first (q x && p x) (list_any (λ x. q x && p x) xs) (and_from (q x) (p x) keeps here)
            | inr there ↦ or_second (q x && p x) (list_any (λ x. q x && p x) xs) (any_filtered p q xs there)
          ]
      | inr drops ↦
          let rest : list_any p (filter q xs) ≡ true = rw drops at some in
          or_second (q x && p x) (list_any (λ x. q x && p x) xs) (any_filtered p q xs rest)
    ]

filtered_any : {X : Type 0} (p q : X → Bool) (xs : List X) → list_any (λ x. q x && p x) xs ≡ true → list_any p (filter q xs) ≡ true
filtered_any p q [] some = absurd (false≢true some)
filtered_any p q (x ∷ xs) some =
    elim (cases_Bool (q x)) [
      | inl keeps ↦
          let both : (p x || list_any (λ x. q x && p x) xs) ≡ true = rw keeps at some in
          rw keeps
          (elim (or_either (p x) (list_any (λ x. q x && p x) xs) both) [
            | inl here ↦ or_first (p x) (list_any p (filter q xs)) here
            | inr there ↦ or_second (p x) (list_any p (filter q xs)) (filtered_any p q xs there)
          ])
      | inr drops ↦ let rest : list_any (λ x. q x && p x) xs ≡ true = rw drops at some in rw drops (filtered_any p q xs rest)
    ]

all_joined : {X : Type 0} (P : X → Type 0) (xs ys : List X) → AllByRecursion P xs → AllByRecursion P ys → AllByRecursion P (xs ++ ys)
all_joined P [] ys first second = second
all_joined P (x ∷ xs) ys first second = (first.0, all_joined P xs ys first.1 second)

all_after : {X : Type 0} (P : X → Type 0) (i : ℕ) (xs ys : List X) → AllByRecursion P (drop i xs) → AllByRecursion P ys → AllByRecursion P (drop i (xs ++ ys))
all_after P zero xs ys first second = all_joined P xs ys first second
all_after P (suc i) [] ys first second = back P (suc i) ys second
  where
    back : {X : Type 0} (P : X → Type 0) (i : ℕ) (xs : List X) → AllByRecursion P xs → AllByRecursion P (drop i xs)
    back P zero xs all = all
    back P (suc i) [] all = tt
    back P (suc i) (x ∷ xs) all = back P i xs all.1
all_after P (suc i) (x ∷ xs) ys first second = all_after P i xs ys first second

weaker_all : {X : Type 0} (P Q : X → Type 0) → ((x : X) → P x → Q x) → (xs : List X) → AllByRecursion P xs → AllByRecursion Q xs
weaker_all P Q weaker [] all = tt
weaker_all P Q weaker (x ∷ xs) all = (weaker x all.0, weaker_all P Q weaker xs all.1)

-- ---- the facts of a batch

-- the fact names the component, or the process unit
abbrev pub is_of_component : ℕ → Entry → Bool
is_of_component n e = is_numbered (component_of e.1.body) n

abbrev pub is_of_unit : ℕ → Entry → Bool
is_of_unit u e = is_numbered (unit_of e.1.body) u

-- what a fact of a batch names, its fact with a key names
pub named_in_batch : (test : FactBody → Bool) (batch : Batch) (k : ℕ) (facts : List Stated)
    → list_any (λ e. test e.1.body) (entries_from batch k facts) ≡ list_any (λ fact. test fact.body) facts
named_in_batch test batch k [] = refl
named_in_batch test batch k (fact ∷ facts) = ap (λ b. test fact.body || b) (named_in_batch test batch (k + 1) facts)

-- a fact that enters a component in a process unit names the component
enters_names : (u n : ℕ) (body : FactBody) → member_entered u body ≡ Some n → is_numbered (component_of body) n ≡ true
enters_names u n (ComponentFact component unit kind monomer replaces class) is =
    elim (cases_Bool (nat_eq unit u)) [
      | inl here ↦
          let given : Some component ≡ Some n = rw here at is in
          let same : component ≡ n = cc in
          grind (arith, nat_tests, same)
      | inr else ↦
          let given : None ≡ Some n = rw else at is in
          absurd cc
    ]
enters_names u n _ is = absurd cc

module _ (history : List Batch) (batch : Batch) (arrived : List Entry) (came : arrived ≡ flat_map entries_of history)
    (differ : IsTrue (identities_differ (with_batch history batch))) where
  abbrev facts : List Entry
  facts = facts_of history

  abbrev more : List Entry
  more = facts_of (with_batch history batch)

  abbrev news : List Entry
  news = entries_of batch

  all_came : flat_map entries_of (with_batch history batch) ≡ arrived ++ news
  all_came =
      flat_map-append entries_of history (batch ∷ []) ∙ ap (λ es. es ++ (news ++ [])) (sym came) ∙ ap (λ es. arrived ++ es) (append_none news)
    where
      append_none : (es : List Entry) → es ++ [] ≡ es
      append_none [] = refl
      append_none (e ∷ es) = ap (λ xs. e ∷ xs) (append_none es)

  -- some fact of the history passes a test if some fact that arrived does
  any_came : (p : Entry → Bool) → list_any p facts ≡ list_any p arrived
  any_came p =
      sym (list_any-IsPermutation p (flat_map entries_of history) facts (in_order_permutes goes_first (flat_map entries_of history)))
      ∙ ap (list_any p) (sym came)

  -- a fact of the longer history is one of the history or of the batch
  either_came : (e : Entry) → Among more e → Among facts e ⊎ Among news e
  either_came e among =
      let there = subst (λ es. Among es e) all_came ((among_in_order goes_first (flat_map entries_of (with_batch history batch)) e).1 among) in
      elim (among_parts arrived news e there) [
        | inl old ↦ inl ((among_in_order goes_first (flat_map entries_of history) e).0 (subst (λ es. Among es e) came old))
        | inr new ↦ inr new
      ]
    where
      among_parts : (xs ys : List Entry) (e : Entry) → Among (xs ++ ys) e → Among xs e ⊎ Among ys e
      among_parts [] ys e among = inr among
      among_parts (x ∷ xs) ys e (inl same) = inl (inl same)
      among_parts (x ∷ xs) ys e (inr there) = elim (among_parts xs ys e there) [ inl old ↦ inl (inr old) | inr new ↦ inr new ]

  -- what is touched by the batch, or was touched before
  touched_now : (k n : ℕ) → k ≤ length arrived → is_touched more (drop k arrived ++ news) n ≡ true → is_touched more (drop k (arrived ++ news)) n ≡ true
  touched_now k n within is = subst (λ es. is_touched more es n ≡ true) (sym (drop-append-le k arrived news within)) is

  touched_by_name : (k n : ℕ) → list_any (is_of_component n) news ≡ true → is_touched more (drop k arrived ++ news) n ≡ true
  touched_by_name k n named =
      let touch : list_any (touches more (drop k arrived ++ news) n) news ≡ true =
      some_weaker (is_of_component n) (touches more (drop k arrived ++ news) n) (λ e is. or_first (is_of_component n e) _ is) news named in
      list_any-append (touches more (drop k arrived ++ news) n) (drop k arrived) news ∙ or_second _ _ touch

  -- a reading among the first facts is one of the history
  judged_now : (listed n : ℕ) → is_judged_anew (take listed arrived) news n ≡ true → is_touched facts news n ≡ true
  judged_now listed n judged =
      let q : Entry → Bool = λ r. is_of_component n r && list_any (matters_to r) news in
      let all : list_any q arrived ≡ true =
      ap (list_any q) (sym (take-append-drop listed arrived)) ∙ list_any-append q (take listed arrived) (drop listed arrived) ∙ or_first _ _ judged in
      let own : list_any (λ r. list_any (matters_to r) news) (facts_of_component n facts) ≡ true =
      filtered_any (λ r. list_any (matters_to r) news) (is_of_component n) facts (any_came q ∙ all) in
      some_weaker (λ e. list_any (λ r. matters_to r e) (facts_of_component n facts)) (touches facts news n)
      (λ e is. or_second (is_of_component n e) _ is) news (any_swap matters_to (facts_of_component n facts) news own)

  -- a component that no listed fact names and no reading of which is judged anew is not touched
  quiet_now : (listed n : ℕ) → list_any (is_of_component n) news ≡ false → is_judged_anew (take listed arrived) news n ≡ false
      → list_any (is_of_component n) (drop listed arrived) ≡ false → is_touched facts news n ≡ false
  quiet_now listed n unnamed unjudged none_after =
      elim (cases_Bool (is_touched facts news n)) [
        | inr quiet ↦ quiet
        | inl touched ↦ absurd (false≢true (sym unjudged ∙ judged touched))
      ]
    where
      q : Entry → Bool
      q r = is_of_component n r && list_any (matters_to r) news

      -- no fact names it, so some matters to a reading of it
      matters_only : (es : List Entry) → list_any (is_of_component n) es ≡ false → list_any (touches facts news n) es ≡ true
          → list_any (λ e. list_any (λ r. matters_to r e) (facts_of_component n facts)) es ≡ true
      matters_only [] none some = absurd (false≢true some)
      matters_only (e ∷ es) none some =
          let parts = or_neither (is_of_component n e) (list_any (is_of_component n) es) none in
          elim (or_either (touches facts news n e) (list_any (touches facts news n) es) some) [
            | inl here ↦ or_first (list_any (λ r. matters_to r e) (facts_of_component n facts)) _ (let test : (false || list_any (λ r. matters_to r e) (facts_of_component n facts)) ≡ true = ap (λ b. b || list_any (λ r. matters_to r e) (facts_of_component n facts)) (sym parts.0) ∙ here in test)
            | inr there ↦ or_second (list_any (λ r. matters_to r e) (facts_of_component n facts)) _ (matters_only es parts.1 there)
          ]

      no_both : (es : List Entry) → list_any (is_of_component n) es ≡ false → list_any q es ≡ true → list_any q es ≡ false
      no_both [] none some = refl
      no_both (e ∷ es) none some =
          let parts = or_neither (is_of_component n e) (list_any (is_of_component n) es) none in
          absurd (false≢true (sym none ∙ some_weaker q (is_of_component n) (λ r is. (and_parts (is_of_component n r) _ is).0) (e ∷ es) some))

      judged : is_touched facts news n ≡ true → is_judged_anew (take listed arrived) news n ≡ true
      judged touched =
          let own = any_swap (λ e r. matters_to r e) news (facts_of_component n facts) (matters_only news unnamed touched) in
          let all : list_any q arrived ≡ true = sym (any_came q) ∙ any_filtered (λ r. list_any (matters_to r) news) (is_of_component n) facts own in
          elim (or_either (list_any q (take listed arrived)) (list_any q (drop listed arrived))
          (sym (list_any-append q (take listed arrived) (drop listed arrived)) ∙ ap (list_any q) (take-append-drop listed arrived) ∙ all)) [
            | inl front ↦ front
            | inr back ↦ absurd (false≢true (sym none_after ∙ some_weaker q (is_of_component n) (λ r is. (and_parts (is_of_component n r) _ is).0) (drop listed arrived) back))
          ]

  -- ---- summaries after the batch

  module _ (listed : ℕ) (old new : Sums) (are : Are facts arrived listed old)
      (rows : (n : ℕ) → row_of new.components n ≡ row_of old.components n)
      (flags : (n : ℕ) → is_fresh new.components n
      ≡ ((is_fresh old.components n && not (is_judged_anew (take listed arrived) news n)) && not (list_any (is_of_component n) news)))
      (unit_rows : (u : ℕ) → row_of new.units u ≡ row_of old.units u)
      (unit_flags : (u : ℕ) → is_fresh new.units u ≡ (is_fresh old.units u && not (list_any (is_of_unit u) news)))
      (same : (u : ℕ) → answered_at new u ≡ answered_at old u) (kept_same : new.kept ≡ old.kept) where
    three_kept : (a b c : Bool) → ((a && not b) && not c) ≡ true → (a ≡ true) × (b ≡ false) × (c ≡ false)
    three_kept true false false is = (refl, refl, refl)
    three_kept true false true is = absurd cc
    three_kept true true c is = absurd cc
    three_kept false b c is = absurd cc

    two_kept : (a b : Bool) → (a && not b) ≡ true → (a ≡ true) × (b ≡ false)
    two_kept true false is = (refl, refl)
    two_kept true true is = absurd cc
    two_kept false b is = absurd cc

    none_after : (n : ℕ) (es : List Entry)
        → AllByRecursion (λ e. (m : ℕ) → is_numbered (component_of e.1.body) m ≡ true → is_fresh old.components m ≡ false) es
        → is_fresh old.components n ≡ true → list_any (is_of_component n) es ≡ false
    none_after n [] all fresh = refl
    none_after n (e ∷ es) all fresh =
        elim (cases_Bool (is_of_component n e)) [
          | inl named ↦ absurd (false≢true (sym (all.0 n named) ∙ fresh))
          | inr unnamed ↦ rw unnamed (none_after n es all.1 fresh)
        ]

    said_more : (n : ℕ) (o : Option Summary) → is_touched facts news n ≡ false → IsSaid facts n o → IsSaid more n o
    said_more n None quiet said = said
    said_more n (Some s) quiet said =
        let stays = untouched_stays n history batch differ quiet in
        let alike = same_facts_judge_alike s.item facts more (subst (λ m. HasSameFacts m facts more) (sym said.named) stays) in
        record {
          named = said.named;
          equipment = subst (λ m. equipment_of m more ≡ equipment_of m facts) said.named alike.equipment ∙ said.equipment;
          judged = record {
            classes = said.judged.classes ∙ sym alike.classes;
            events = said.judged.events ∙ sym (alike.events s.classes (limit_on s.item s.classes));
            spans = said.judged.spans;
          };
        }

    unit_said_more : (u : ℕ) (o : Option UnitSummary) → list_any (is_of_unit u) news ≡ false → IsUnitSaid facts u o → IsUnitSaid more u o
    unit_said_more u None unnamed said = said
    unit_said_more u (Some s) unnamed said =
        let stays = unnamed_unit_stays u history batch differ unnamed in
        record { of_unit = said.of_unit ∙ sym stays.of_unit; elections = said.elections ∙ sym stays.elections }

    fresh_more : (n : ℕ) → is_fresh new.components n ≡ true → IsSaid more n (row_of new.components n)
    fresh_more n is =
        let kept = three_kept _ _ _ (sym (flags n) ∙ is) in
        let quiet = quiet_now listed n kept.2 kept.1 (none_after n (drop listed arrived) are.tail kept.0) in
        subst (IsSaid more n) (sym (rows n)) (said_more n (row_of old.components n) quiet (are.fresh n kept.0))

    touched_more : (u n : ℕ) → is_touched more (drop (answered_at old u) arrived ++ news) n ≡ true
        → is_touched more (news_of (arrived ++ news) new u) n ≡ true
    touched_more u n is =
        subst (λ k. is_touched more (drop k (arrived ++ news)) n ≡ true) (sym (same u)) (touched_now (answered_at old u) n (are.asked u) is)

    twice : (n : ℕ) (es : List Entry) → is_touched more (news ++ news) n ≡ true → is_touched more (es ++ news) n ≡ true
    twice n es is =
        let t : Entry → Bool = touches more news n in
        let once : list_any t news ≡ true =
        elim (or_either (list_any t news) (list_any t news) (sym (list_any-append t news news) ∙ is)) [ inl here ↦ here | inr here ↦ here ] in
        list_any-append t es news ∙ or_second (list_any t es) (list_any t news) once

    stale_more : (u n : ℕ) → Contains (members_of u more) n → is_fresh new.components n ≡ false → is_touched more (news_of (arrived ++ news) new u) n ≡ true
    stale_more u n held is =
        let k = answered_at old u in
        let entered = ((members_are_entered u more).0 n).0 held in
        touched_more u n
        (elim (cases_Bool (list_any (is_of_component n) news)) [
          | inl named ↦ touched_by_name k n named
          | inr unnamed ↦ elim (cases_Bool (is_judged_anew (take listed arrived) news n)) [
            | inl judged ↦ twice n (drop k arrived) (touched_stays n history batch news differ (judged_now listed n judged))
            | inr unjudged ↦
                let was : is_fresh old.components n ≡ false = was_stale _ _ _ unjudged unnamed (sym (flags n) ∙ is) in
                elim (either_came entered.entry (among_from_Contains more entered.entry entered.held)) [
                  | inl there ↦
                      touched_stays n history batch (drop k arrived) differ
                      (are.stale u n
                      (((members_are_entered u facts).0 n).1
                      (record { entry = entered.entry; held = Contains-from_among facts entered.entry there; enters = entered.enters }))
                      was)
                  | inr here ↦
                      absurd (false≢true (sym unnamed
                      ∙ among_any (is_of_component n) news entered.entry here (enters_names u n entered.entry.1.body entered.enters)))
                ]
          ]
        ])
      where
        was_stale : (a b c : Bool) → b ≡ false → c ≡ false → ((a && not b) && not c) ≡ false → a ≡ false
        was_stale false b c quiet unnamed is = refl
        was_stale true b c quiet unnamed is = absurd (let kept : true ≡ false = rw (quiet, unnamed) at is in cc)

    gone_for : (a b c : Bool) → c ≡ true → ((a && not b) && not c) ≡ false
    gone_for false b c is = refl
    gone_for true true c is = refl
    gone_for true false c is = rw is refl

    still_gone : (a b c : Bool) → a ≡ false → ((a && not b) && not c) ≡ false
    still_gone a b c is = rw is refl

    all_named : (es : List Entry) → ((e : Entry) → Among es e → Among news e)
        → AllByRecursion (λ e. (n : ℕ) → is_numbered (component_of e.1.body) n ≡ true → is_fresh new.components n ≡ false) es
    all_named [] within = tt
    all_named (e ∷ es) within = (
      λ n named. flags n ∙ gone_for _ _ _ (among_any (is_of_component n) news e (within e (inl refl)) named),
      all_named es (λ x there. within x (inr there)),
    )

    known_more : (u : ℕ) → is_known (drop (answered_at old u) arrived ++ news) u ≡ true → is_known (news_of (arrived ++ news) new u) u ≡ true
    known_more u is =
        subst (λ k. is_known (drop k (arrived ++ news)) u ≡ true) (sym (same u))
        (subst (λ es. is_known es u ≡ true) (sym (drop-append-le (answered_at old u) arrived news (are.asked u))) is)

    unread_more : (u : ℕ) → is_known (arrived ++ news) u ≡ true → is_fresh new.units u ≡ false → is_known (news_of (arrived ++ news) new u) u ≡ true
    unread_more u known is =
        let k = answered_at old u in
        known_more u
        (list_any-append (is_of_unit u) (drop k arrived) news
        ∙ elim (cases_Bool (list_any (is_of_unit u) news)) [
          | inl named ↦ or_second (is_known (drop k arrived) u) _ named
          | inr unnamed ↦
              let before : is_known arrived u ≡ true =
              elim (or_either (is_known arrived u) (list_any (is_of_unit u) news) (sym (list_any-append (is_of_unit u) arrived news) ∙ known)) [
                | inl there ↦ there
                | inr here ↦ absurd (false≢true (sym unnamed ∙ here))
              ] in
              let was : is_fresh old.units u ≡ false = was_stale (is_fresh old.units u) (list_any (is_of_unit u) news) unnamed (sym (unit_flags u) ∙ is) in
              or_first (is_known (drop k arrived) u) _ (are.unread u before was)
        ])
      where
        was_stale : (a b : Bool) → b ≡ false → (a && not b) ≡ false → a ≡ false
        was_stale false b unnamed is = refl
        was_stale true b unnamed is = absurd (let kept : true ≡ false = rw unnamed at is in cc)

    -- what is kept counts the same members, if the batch does not name their process unit
    kept_more : (d : DayTallies) → IsKept facts old.components old.units d → IsKept more new.components new.units d
    kept_more d kept = record {
      startup = kept.startup;
      long = kept.long;
      counted = λ unit fresh row.
          let was = two_kept (is_fresh old.units d.unit) (list_any (is_of_unit d.unit) news) (sym (unit_flags d.unit) ∙ fresh) in
          let stays = unnamed_unit_stays d.unit history batch differ was.1 in
          counted_same unit d (members_of d.unit facts) (members_of d.unit more) old.components new.components stays.members
          (all_rows (members_of d.unit facts)) (kept.counted unit was.0 (sym (unit_rows d.unit) ∙ row));
    }
      where
        all_rows : (ns : List ℕ) → AllByRecursion (λ n. row_of new.components n ≡ row_of old.components n) ns
        all_rows [] = tt
        all_rows (n ∷ ns) = (rows n, all_rows ns)

    pub are_more : Are more (arrived ++ news) listed new
    are_more = record {
      fresh = fresh_more;
      stale = stale_more;
      tail = all_after (λ e. (n : ℕ) → is_numbered (component_of e.1.body) n ≡ true → is_fresh new.components n ≡ false) listed arrived news
          (weaker_all (λ e. (n : ℕ) → is_numbered (component_of e.1.body) n ≡ true → is_fresh old.components n ≡ false)
          (λ e. (n : ℕ) → is_numbered (component_of e.1.body) n ≡ true → is_fresh new.components n ≡ false)
          (λ e stale n named. flags n ∙ still_gone _ _ _ (stale n named)) (drop listed arrived) are.tail)
          (all_named news (λ e among. among));
      lists = λ u is.
          let kept = two_kept _ _ (sym (unit_flags u) ∙ is) in
          subst (IsUnitSaid more u) (sym (unit_rows u)) (unit_said_more u (row_of old.units u) kept.1 (are.lists u kept.0));
      unread = unread_more;
      asked = λ u. omega (arith, same u, are.asked u, length-append arrived news);
      counted = record {
        orderly = λ n x is. are.counted.orderly n x (sym (rows n) ∙ is);
        kept = subst (AllByRecursion (IsKept more new.components new.units)) (sym kept_same)
            (weaker_all (IsKept facts old.components old.units) (IsKept more new.components new.units) kept_more old.kept are.counted.kept);
      };
    }
