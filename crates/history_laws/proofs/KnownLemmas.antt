use Rattle.std.proofs.Common.{◌≡◌, ℕ, Option, Some, List, [], ◌∷◌, refl, sym, ap, ◌∙◌, subst, filter}
use Rattle.history_laws.proofs.MatterLemmas.{fitness_is_of_what_matters}
use Rattle.std.specs.List.{AllByRecursion, filter_map}
use Rattle.list_words.proofs.Members.{all_weaker}
use Rattle.fact_kinds.specs.declared.body.FactBody.{FactBody}
use Rattle.fact_kinds.specs.declared.body.FactBody.TheVariants.{Reading}
use Rattle.fact_kinds.specs.declared.class.Class.{Class}
use Rattle.fact_kinds.specs.declared.key.Key.{Key}
use Rattle.fact_kinds.specs.Facts.{Entry}
use Rattle.fact_kinds.specs.Named.{reading_instrument}
use Rattle.ldar_law.specs.declared.equipment.Equipment.{Equipment}
use Rattle.ldar_law.specs.Equipment.{equipment_of, classes_of, members_of, of_unit}
use Rattle.ldar_law.specs.Events.{event_of, events_in, fitness_at}
use Rattle.ldar_law.specs.Fitness.{fitness_of}
use Rattle.ldar_law.specs.Force.{limit_on}
use Rattle.ldar_law.specs.Shown.{sheet_of}
use Rattle.ldar_law.specs.Slices.{facts_of_component, facts_of_instrument}
use Rattle.ldar_law.specs.Units.{Known, known_of, known_with, mark_in, due_list}
use Rattle.std.specs.Option.{option_map}
use Rattle.list_words.proofs.Members.{all_from_among, Contains-from_among}
use Rattle.history_laws.proofs.MemberLemmas.{members_stand_in_unit}
use Rattle.ldar_law.proofs.FitnessLemmas.{fitness_is_of_instrument}
use Rattle.ldar_law.proofs.SliceLemmas.{own_facts_suffice, unit_facts_suffice}
use Rattle.ldar_law.specs.Stirred.{matters}
use Rattle.history_laws.specs.KnownLaws.{known_in_unit, ComponentsByTheirLists, fitness_by}
use Rattle.history_laws.specs.KnownLaws.{events_by, KnownByItsLists, HasSameFacts, SameFactsJudgeAlike, SameListsKnowAlike}

-- functions that agree on each element give the same list
pub given_alike : {X Y : Type 0} (f g : X → Option Y) (xs : List X) → AllByRecursion (λ x. f x ≡ g x) xs → filter_map f xs ≡ filter_map g xs
given_alike f g [] all = refl
given_alike f g (x ∷ xs) all = rw (all.0, given_alike f g xs all.1) refl

-- a property of every element, for each element of a list
pub all_of_each : {X : Type 0} (P : X → Type 0) → ((x : X) → P x) → (xs : List X) → AllByRecursion P xs
all_of_each P each [] = tt
all_of_each P each (x ∷ xs) = (each x, all_of_each P each xs)

module _ (limit : ℕ → ℕ) where
  -- the tests of its instrument give a reading the same fitness as all facts
  fitness_by_tests : (facts : List Entry) (key : Key) (body : FactBody)
      → fitness_by limit (λ instrument. facts_of_instrument instrument facts) key body ≡ fitness_at limit facts key body
  fitness_by_tests facts key (Reading c instrument operator purpose ppm background) =
      fitness_is_of_instrument facts (limit key.day) key instrument ppm
  fitness_by_tests facts key _ = refl

  -- two lists of facts with the same facts that matter to a reading give it the same fitness
  fitness_alike : (facts other : List Entry) (key : Key) (body : FactBody)
      → ((instrument : ℕ) → reading_instrument body ≡ Some instrument
      → filter (matters instrument key.day) other ≡ filter (matters instrument key.day) facts)
      → fitness_at limit other key body ≡ fitness_at limit facts key body
  fitness_alike facts other key (Reading c instrument operator purpose ppm background) same =
      sym (fitness_is_of_what_matters other (limit key.day) key instrument ppm)
      ∙ ap (λ tests. fitness_of tests (limit key.day) key instrument ppm) (same instrument refl)
      ∙ fitness_is_of_what_matters facts (limit key.day) key instrument ppm
  fitness_alike facts other key _ same = refl

module _ (item : Equipment) (classes : List (Key × Class)) (limit : ℕ → ℕ) where
  -- the events, by the tests of each instrument
  events_by_tests : (facts : List Entry)
      → events_by item classes limit (facts_of_component item.component facts) (λ instrument. facts_of_instrument instrument facts)
      ≡ events_in item classes limit facts
  unfolding events_in
  events_by_tests facts =
      given_alike _ _ (facts_of_component item.component facts)
      (all_of_each _ (λ e. ap (event_of item classes limit e) (fitness_by_tests limit facts e.0 e.1.body)) (facts_of_component item.component facts))

  -- the events, by two lists of facts
  events_alike : (facts other : List Entry) → HasSameFacts item.component facts other
      → events_in item classes limit other ≡ events_in item classes limit facts
  unfolding events_in
  events_alike facts other same =
      ap (filter_map (λ e. event_of item classes limit e (fitness_at limit other e.0 e.1.body))) same.own
      ∙ given_alike _ _ (facts_of_component item.component facts)
      (all_weaker _ _ (λ e tests. ap (event_of item classes limit e) (fitness_alike limit facts other e.0 e.1.body tests))
      (facts_of_component item.component facts) same.tests)

pub same_facts_judge_alike : SameFactsJudgeAlike
same_facts_judge_alike item facts other same =
    let here = own_facts_suffice item.component facts in
    let there = own_facts_suffice item.component other in
    record {
      equipment = sym there.equipment ∙ ap (equipment_of item.component) same.own ∙ here.equipment;
      classes = sym there.classes ∙ ap (classes_of item.component) same.own ∙ here.classes;
      events = λ classes limit. events_alike item classes limit facts other same;
    }

pub known_by_its_lists : KnownByItsLists
known_by_its_lists item facts =
    let own = own_facts_suffice item.component facts in
    let stops = (unit_facts_suffice item.unit facts).stops in
    let classes = classes_of item.component facts in
    record {
      equipment = own.equipment;
      known = rw (own.classes, stops, events_by_tests item classes (limit_on item classes) facts) refl;
    }

-- a member of a process unit, from the lists
known_member : (unit : ℕ) (facts : List Entry) (number : ℕ) (item : Equipment) → item.component ≡ number → item.unit ≡ unit
    → known_of facts item ≡ known_in_unit unit number facts item
known_member unit facts number item named stands =
    subst (λ n. known_of facts item ≡ known_in_unit unit n facts item) named
    (subst (λ u. known_of facts item ≡ known_in_unit u item.component facts item) stands (sym (known_by_its_lists item facts).known))

pub components_by_their_lists : ComponentsByTheirLists
components_by_their_lists unit facts once =
    let whole : ℕ → Option Known = λ number. option_map (known_of facts) (equipment_of number facts) in
    let parts : ℕ → Option Known =
    λ number. option_map (known_in_unit unit number facts) (equipment_of number (facts_of_component number facts)) in
    given_alike whole parts (members_of unit facts)
    (all_from_among (λ number. whole number ≡ parts number) (members_of unit facts) (λ number among.
    let member = members_stand_in_unit facts unit number once (Contains-from_among (members_of unit facts) number among) in
    let own = (own_facts_suffice number facts).equipment in
    rw (own, member.1) (ap Some (known_member unit facts number member.0 member.2 member.3))))
    ∙ ap (filter_map parts) (sym (unit_facts_suffice unit facts).members)

pub same_lists_know_alike : SameListsKnowAlike
same_lists_know_alike item facts other same =
    let alike = same_facts_judge_alike item facts other same.same in
    let classes = classes_of item.component facts in
    let known : known_of other item ≡ known_of facts item =
    ap (λ cs. known_with item cs (events_in item cs (limit_on item cs) other) (of_unit item.unit other)) alike.classes
    ∙ ap (λ events. known_with item classes events (of_unit item.unit other)) (alike.events classes (limit_on item classes))
    ∙ ap (known_with item classes (events_in item classes (limit_on item classes) facts)) same.of_unit in
    record {
      equipment = alike.equipment;
      known = known;
      sheet = ap sheet_of known;
      mark = λ startup t quarter. ap (mark_in startup t quarter) known;
      duties = λ startup t skipped. ap (λ k. due_list startup t skipped (k ∷ [])) known;
    }
