-- The components of a process unit on a day, by its shutdowns.
use Rattle.std.proofs.Common.{◌≡◌, ℕ, Option, Some, None, nat_le, option_map, List, [], ◌∷◌, length, map, ◌≤◌, sym, refl, ap, ◌∙◌, subst, inl, inr, arith}
use Rattle.std.specs.List.{AllByRecursion, cons_option, filter_map}
use Rattle.std.proofs.lemmas.List.{length-map}
use Rattle.list_words.specs.Order.{Ascends}
use Rattle.list_words.proofs.PutLemmas.{ascends_filter}
use Rattle.list_words.proofs.Members.{Among, Contains-from_among, all_from_among}
use Rattle.fact_kinds.specs.Facts.{Entry, goes_first}
use Rattle.fact_kinds.proofs.KeyOrder.{strict_goes_first}
use Rattle.history_laws.specs.DayLaws.{up_to}
use Rattle.history_laws.specs.RulyLaws.{IsEachOnce}
use Rattle.history_laws.proofs.MemberLemmas.{members_stand_in_unit}
use Rattle.history_laws.proofs.OnceLemmas.{part_has_each_once}
use Rattle.history_laws.proofs.RegisterUpTo.{components_are_of_all_members}
use Rattle.history_laws.proofs.UpTo.{ascending_are_in_order}
use Rattle.ldar_law.specs.declared.equipment.Equipment.{Equipment}
use Rattle.ldar_law.specs.declared.delay.Stop.{Stop}
use Rattle.ldar_law.specs.declared.numbers.TheConstants.{MOST_COMPONENTS}
use Rattle.ldar_law.specs.Equipment.{equipment_of, members_of, of_unit, stops_of}
use Rattle.ldar_law.specs.Units.{Known, known_of, known_with, components_of}
use Rattle.ldar_law.proofs.Gifts.{cases_Option}
use Rattle.unit_summaries.specs.declared.known.KnownOn.{KnownOn}
use Rattle.unit_summaries.specs.Known.{all_in_law, known_by}
use Rattle.unit_summaries.proofs.ListLemmas.{few_given}

-- the facts up to a day are in order
pub front_ascends : (day : ℕ) (facts : List Entry) → Ascends goes_first facts → Ascends goes_first (up_to day facts)
front_ascends day facts up = ascends_filter goes_first strict_goes_first (λ e. nat_le e.0.day day) facts up

-- .. and enter nothing twice
pub front_once : (day : ℕ) (facts : List Entry) → IsEachOnce facts → IsEachOnce (up_to day facts)
front_once day facts once = part_has_each_once facts (λ e. nat_le e.0.day day) once

-- no more components are known on a day than there are members
pub few_known : (day unit : ℕ) (facts : List Entry) → Ascends goes_first facts → IsEachOnce facts → length (members_of unit facts) ≤ MOST_COMPONENTS
    → length (components_of unit (up_to day facts)) ≤ MOST_COMPONENTS
few_known day unit facts up once few =
    let given = few_given (λ number. option_map (known_of (up_to day facts)) (equipment_of number (up_to day facts))) (members_of unit facts) in
    subst (λ (cs : List Known). length cs ≤ MOST_COMPONENTS)
    (sym (components_are_of_all_members day unit facts (ascending_are_in_order facts up) once)) (omega (arith, few, given))

-- what holds of each element holds of what is given of those of which something holds
pub all_given_of : {X : Type 0} (Q : ℕ → Type 0) (P : X → Type 0) (f : ℕ → Option X) (ns : List ℕ) → AllByRecursion Q ns
    → ((n : ℕ) (x : X) → Q n → f n ≡ Some x → P x) → AllByRecursion P (filter_map f ns)
all_given_of Q P f [] all holds = tt
all_given_of Q P f (n ∷ ns) all holds =
    elim (f n) as (λ o. f n ≡ o → AllByRecursion P (cons_option o (filter_map f ns))) [
      | None ↦ λ is. all_given_of Q P f ns all.1 holds
      | Some x ↦ λ is. (holds n x all.0 is, all_given_of Q P f ns all.1 holds)
    ] refl

-- what holds of what each element gives
all_unmapped : {X Y : Type 0} (P : Y → Type 0) (f : X → Y) (xs : List X) → AllByRecursion P (map f xs) → AllByRecursion (λ x. P (f x)) xs
all_unmapped P f [] all = tt
all_unmapped P f (x ∷ xs) all = (all.0, all_unmapped P f xs all.1)

-- what is known under a number is of the component of the number
pub known_is_of : (facts : List Entry) (number : ℕ) (c : Known) → option_map (known_of facts) (equipment_of number facts) ≡ Some c
    → (item : Equipment) × (equipment_of number facts ≡ Some item) × (known_of facts item ≡ c)
known_is_of facts number c is =
    elim (cases_Option (equipment_of number facts)) [
      | inl none ↦ let never : None ≡ Some c = rw none at is in absurd cc
      | inr some ↦
          let known : Some (known_of facts some.0) ≡ Some c = rw some.1 at is in
          (some.0, some.1, (let same : known_of facts some.0 ≡ c = cc in same))
    ]

module _ (unit : ℕ) (facts : List Entry) where
  -- the components of a unit stand in it
  stand_in_unit : IsEachOnce facts → AllByRecursion (λ (c : Known). c.item.unit ≡ unit) (components_of unit facts)
  stand_in_unit once =
      all_given_of (λ n. Among (members_of unit facts) n) (λ (c : Known). c.item.unit ≡ unit)
      (λ number. option_map (known_of facts) (equipment_of number facts)) (members_of unit facts)
      (all_from_among (λ n. Among (members_of unit facts) n) (members_of unit facts) (λ n among. among))
      (λ n c among is.
      let found = known_is_of facts n c is in
      let stands = members_stand_in_unit facts unit n once (Contains-from_among (members_of unit facts) n among) in
      let same : Some stands.0 ≡ Some found.0 = sym stands.1 ∙ found.1 in
      let item : stands.0 ≡ found.0 = cc in
      ap (λ (k : Known). k.item.unit) (sym found.2) ∙ ap (λ (i : Equipment). i.unit) (sym item) ∙ stands.3)

  -- by the shutdowns of the unit they are known as its own ones
  all_by_stops : (known : List KnownOn) → AllByRecursion (λ k. (known_by facts k).item.unit ≡ unit) known
      → all_in_law (stops_of unit facts) known ≡ map (known_by facts) known
  all_by_stops [] all = refl
  all_by_stops (k ∷ known) all =
      ap (λ c. c ∷ all_in_law (stops_of unit facts) known)
      (ap (λ u. known_with k.item k.classes.now k.events.now (of_unit u facts)) (sym all.0))
      ∙ ap (λ cs. known_by facts k ∷ cs) (all_by_stops known all.1)

  module _ (known : List KnownOn) (are : map (known_by facts) known ≡ components_of unit facts) where
    -- what is known of the components of the unit
    pub known_in_law : (stops : List Stop) → stops ≡ stops_of unit facts → IsEachOnce facts → all_in_law stops known ≡ components_of unit facts
    known_in_law stops stops_are once =
        ap (λ ss. all_in_law ss known) stops_are
        ∙ all_by_stops known (all_unmapped (λ (c : Known). c.item.unit ≡ unit) (known_by facts) known
        (subst (AllByRecursion (λ (c : Known). c.item.unit ≡ unit)) (sym are) (stand_in_unit once)))
        ∙ are

    -- .. is of few
    pub known_few : length (components_of unit facts) ≤ MOST_COMPONENTS → length known ≤ MOST_COMPONENTS
    known_few few = omega (arith, few, length-map known (known_by facts), ap length are)
