-- What new facts touch: components that are not touched, components that stay touched, and process units that no new fact names.
use Rattle.std.proofs.Common.{◌≡◌, ℕ, Bool, true, false, ◌||◌, Some, List, [], ◌∷◌, ◌++◌, filter, refl, sym, ap, ◌∙◌, subst, inl, inr}
use Rattle.std.specs.List.{AllByRecursion, list_any}
use Rattle.std.specs.Option.{option_map_or}
use Rattle.std.proofs.lemmas.Bool.{cases_Bool, false≢true}
use Rattle.std.proofs.lemmas.List.Folds.{list_any-append}
use Rattle.list_words.specs.Order.{put_each, put_in_order}
use Rattle.list_words.proofs.Members.{all_weaker}
use Rattle.list_words.proofs.PutLemmas.{list_any-put}
use Rattle.fact_kinds.specs.Facts.{Entry, goes_first, entries_of, facts_of}
use Rattle.fact_kinds.specs.Named.{component_of, unit_of, reading_instrument, is_numbered}
use Rattle.ldar_law.specs.Equipment.{elections_of, members_of, of_unit, unit_entry_of}
use Rattle.ldar_law.specs.Slices.{facts_of_component, facts_of_unit}
use Rattle.ldar_law.specs.Stirred.{matters, matters_to, touches}
use Rattle.ldar_law.proofs.SliceLemmas.{unit_facts_judge, unit_facts_suffice}
use Rattle.history_laws.specs.MoreLaws.{with_batch}
use Rattle.history_laws.specs.TouchLaws.{NotTouchedIsUntouched, UntouchedStays, TouchedStays, UnnamedUnitStays}
use Rattle.history_laws.proofs.MoreLemmas.{lists_grow, part_stays}

-- ---- tests of a list

-- a disjunction whose second part passes
or_right : (a : Bool) {b : Bool} → b ≡ true → (a || b) ≡ true
or_right true is = refl
or_right false is = is

-- a disjunction still holds with one more part
past_one : (a b c : Bool) → (a || c) ≡ true → (a || (b || c)) ≡ true
past_one true b c is = refl
past_one false b c is = or_right b is

or_left : (a b : Bool) → a ≡ true → (a || b) ≡ true
or_left true b is = refl
or_left false b is = absurd (false≢true is)

-- a disjunction still holds with a weaker second part
in_second : (a : Bool) {b c : Bool} → (b ≡ true → c ≡ true) → (a || b) ≡ true → (a || c) ≡ true
in_second true weaker is = refl
in_second false weaker is = weaker is

-- an element that passes a test passes a weaker one
some_weaker : {X : Type 0} (p q : X → Bool) → ((x : X) → p x ≡ true → q x ≡ true) → (xs : List X) → list_any p xs ≡ true → list_any q xs ≡ true
some_weaker p q weaker [] some = absurd (false≢true some)
some_weaker p q weaker (x ∷ xs) some =
    elim (cases_Bool (p x)) [
      | inl t ↦ rw (weaker x t) refl
      | inr f ↦ let rest : list_any p xs ≡ true = rw f at some in or_right (q x) (some_weaker p q weaker xs rest)
    ]

-- if the weaker test fails on all elements, so does the stronger one
none_weaker : {X : Type 0} (p q : X → Bool) → ((x : X) → p x ≡ true → q x ≡ true) → (xs : List X) → list_any q xs ≡ false → list_any p xs ≡ false
none_weaker p q weaker xs none =
    elim (cases_Bool (list_any p xs)) [
      | inl t ↦ absurd (false≢true (sym none ∙ some_weaker p q weaker xs t))
      | inr f ↦ f
    ]

-- if some element passes, some element still passes after more are inserted
list_any-put_each : {X : Type 0} (p : X → Bool) (before : X → X → Bool) (new xs : List X) → list_any p xs ≡ true → list_any p (put_each before new xs) ≡ true
list_any-put_each p before [] xs some = some
list_any-put_each p before (x ∷ new) xs some =
    list_any-put_each p before new (put_in_order before x xs) (list_any-put p before x xs ∙ or_right (p x) some)

-- ---- components

-- if no new fact matters to any of some facts, none matters to each of them
untested : (q : Entry → Bool) (news own : List Entry) → list_any (λ e. q e || list_any (λ r. matters_to r e) own) news ≡ false
    → AllByRecursion (λ r. list_any (matters_to r) news ≡ false) own
untested q news [] none = tt
untested q news (r ∷ own) none = (
  none_weaker (matters_to r) (λ e. q e || (matters_to r e || list_any (λ x. matters_to x e) own)) (λ e t. or_right (q e) (or_left (matters_to r e) _ t)) news none,
  untested q news own (none_weaker (λ e. q e || list_any (λ x. matters_to x e) own)
      (λ e. q e || (matters_to r e || list_any (λ x. matters_to x e) own)) (λ e t. past_one (q e) (matters_to r e) _ t) news none),
)

pub not_touched_is_untouched : NotTouchedIsUntouched
not_touched_is_untouched number facts news none =
    let own = facts_of_component number facts in
    let named : Entry → Bool = λ e. is_numbered (component_of e.1.body) number in
    record {
      component = none_weaker named (touches facts news number) (λ e t. or_left (named e) _ t) news none;
      tests = all_weaker (λ r. list_any (matters_to r) news ≡ false)
          (λ r. (instrument : ℕ) → reading_instrument r.1.body ≡ Some instrument → list_any (matters instrument r.0.day) news ≡ false)
          (λ r quiet instrument read. subst (λ o. list_any (λ e. option_map_or (λ i. matters i r.0.day e) o false) news ≡ false) read quiet)
          own (untested named news own none);
    }

pub untouched_stays : UntouchedStays
untouched_stays number history batch differ none =
    let untouched = not_touched_is_untouched number (facts_of history) (entries_of batch) none in
    record {
      own = part_stays (λ e. is_numbered (component_of e.1.body) number) history batch differ untouched.component;
      tests = all_weaker (λ e. (instrument : ℕ) → reading_instrument e.1.body ≡ Some instrument
          → list_any (matters instrument e.0.day) (entries_of batch) ≡ false)
          (λ e. (instrument : ℕ) → reading_instrument e.1.body ≡ Some instrument
          → filter (matters instrument e.0.day) (facts_of (with_batch history batch)) ≡ filter (matters instrument e.0.day) (facts_of history))
          (λ e quiet instrument read. part_stays (matters instrument e.0.day) history batch differ (quiet instrument read))
          (facts_of_component number (facts_of history)) untouched.tests;
    }

pub touched_stays : TouchedStays
touched_stays number history batch news differ touched =
    let facts = facts_of history in
    let more = facts_of (with_batch history batch) in
    let grown : (e : Entry) → list_any (λ r. matters_to r e) (facts_of_component number facts) ≡ true
    → list_any (λ r. matters_to r e) (facts_of_component number more) ≡ true =
    λ e some. ap (list_any (λ r. matters_to r e)) ((lists_grow history batch differ).component number)
    ∙ list_any-put_each (λ r. matters_to r e) goes_first (facts_of_component number (entries_of batch)) (facts_of_component number facts) some in
    let again = some_weaker (touches facts news number) (touches more (news ++ entries_of batch) number)
    (λ e t. in_second (is_numbered (component_of e.1.body) number) (grown e) t) news touched in
    list_any-append (touches more (news ++ entries_of batch) number) news (entries_of batch) ∙ or_left _ _ again

-- ---- process units

pub unnamed_unit_stays : UnnamedUnitStays
unnamed_unit_stays number history batch differ none =
    let facts = facts_of history in
    let more = facts_of (with_batch history batch) in
    let same : facts_of_unit number more ≡ facts_of_unit number facts =
    part_stays (λ e. is_numbered (unit_of e.1.body) number) history batch differ none in
    let here = unit_facts_suffice number facts in
    let there = unit_facts_suffice number more in
    record {
      entry = sym there.entry ∙ ap (unit_entry_of number) same ∙ here.entry;
      members = sym there.members ∙ ap (members_of number) same ∙ here.members;
      elections = sym there.elections ∙ ap (elections_of number) same ∙ here.elections;
      of_unit = sym (unit_facts_judge number more) ∙ ap (of_unit number) same ∙ unit_facts_judge number facts;
    }
