-- What the register and the lists of a store say of a process unit on a day.
use Rattle.std.proofs.Common.{◌≡◌, ℕ, Bool, Option, Some, None, false, cond, nat_le, nat_lt, inl, inr, arith, leb-false, option_map, option_and_then}
use Rattle.std.proofs.Common.{List, [], ◌∷◌, ◌++◌, length, take, filter, map, get_or, ◌<◌, ◌≤◌, ◌+◌, sym, ap, ◌∙◌, subst}
use Rattle.std.specs.List.{AllByRecursion, filter_map}
use Rattle.std.proofs.lemmas.Bool.{cases_Bool}
use Rattle.ldar_law.proofs.Gifts.{cases_Option}
use Rattle.std.proofs.lemmas.List.Concat.{flat_map-append}
use Rattle.std.proofs.lemmas.List.Elements.{filter-append, filter_map-append}
use Rattle.list_words.specs.Order.{Ascends}
use Rattle.fact_kinds.specs.Facts.{Entry, goes_first}
use Rattle.history_laws.specs.DayLaws.{up_to, if_started}
use Rattle.history_laws.specs.RulyLaws.{IsEachOnce}
use Rattle.history_laws.specs.RangeLaws.{IsInRange}
use Rattle.history_laws.proofs.MemberLemmas.{components_are_members, members_ascend}
use Rattle.history_laws.proofs.RangeLemmas.{components_stand_in_range, members_fit, part_is_in_range, startups_are_days}
use Rattle.history_laws.proofs.RegisterUpTo.{components_are_of_all_members, units_up_to_a_day}
use Rattle.history_laws.proofs.UpTo.{ascending_are_in_order}
use Rattle.ldar_law.specs.declared.equipment.Equipment.{Equipment}
use Rattle.ldar_law.specs.declared.numbers.TheConstants.{LAST_FACT_DAY, MOST_COMPONENTS}
use Rattle.ldar_law.specs.declared.delay.Stop.{Stop}
use Rattle.ldar_law.specs.declared.sheet.Sheet.{Sheet}
use Rattle.ldar_law.specs.declared.unit_entry.UnitEntry.{UnitEntry}
use Rattle.ldar_law.specs.Duties.{duties_of}
use Rattle.ldar_law.specs.Equipment.{equipment_of, members_of, unit_entry_of}
use Rattle.ldar_law.specs.Shown.{sheet_of}
use Rattle.ldar_law.specs.Slices.{register_facts}
use Rattle.ldar_law.specs.Tags.{is_shown, line_on_open}
use Rattle.ldar_law.specs.Units.{Known, known_of, components_of, all_tags, tag_list, delay_list, due_list}
use Rattle.ldar_law.proofs.SliceLemmas.{register_facts_suffice}
use Rattle.semiannual_report.specs.Columns.{AreOfComponents}
use Rattle.unit_summaries.specs.declared.known.KnownOn.{KnownOn}
use Rattle.unit_summaries.specs.Known.{all_in_law, in_law}
use Rattle.office_views.specs.Components.{known_among}
use Rattle.office_views.specs.Sources.{AreKept}
use Rattle.unit_summaries.proofs.ListLemmas.{few_given, mapped_more}
use Rattle.office_views.proofs.ListLemmas.{all_given, all_map, ascends_map, given_ascend}

-- the members as the register has them
pub members_are : (unit : ℕ) (facts entries : List Entry) → entries ≡ register_facts facts → members_of unit entries ≡ members_of unit facts
members_are unit facts entries is = ap (members_of unit) is ∙ (register_facts_suffice unit facts).1.members

-- the components of a unit on a day are found among these
pub components_are : (day unit : ℕ) (facts entries : List Entry) → Ascends goes_first facts → IsEachOnce facts → entries ≡ register_facts facts
    → components_of unit (up_to day facts) ≡ known_among (up_to day facts) (members_of unit entries)
components_are day unit facts entries up once is =
    components_are_of_all_members day unit facts (ascending_are_in_order facts up) once
    ∙ ap (known_among (up_to day facts)) (sym (members_are unit facts entries is))

-- .. with room for one mark of each in a count
pub components_fit : (day unit : ℕ) (facts entries : List Entry) → Ascends goes_first facts → AreKept facts entries
    → length (components_of unit (up_to day facts)) ≤ MOST_COMPONENTS
components_fit day unit facts entries up kept =
    let members = members_of unit entries in
    let most : length members ≤ MOST_COMPONENTS =
    subst (λ (ns : List ℕ). length ns ≤ MOST_COMPONENTS) (sym (members_are unit facts entries kept.register))
    (members_fit facts unit kept.in_range kept.once) in
    let given = few_given (λ number. option_map (known_of (up_to day facts)) (equipment_of number (up_to day facts))) members in
    subst (λ (cs : List Known). length cs ≤ MOST_COMPONENTS) (sym (components_are day unit facts entries up kept.once kept.register))
    (omega (arith, most, given))

-- ---- the lists of a unit

-- the lists of some components and of more
pub tag_list-append : (day : ℕ) (xs ys : List Known) → tag_list day (xs ++ ys) ≡ tag_list day xs ++ tag_list day ys
tag_list-append day xs ys =
    ap (filter (is_shown day)) (flat_map-append (λ c. c.tags) xs ys) ∙ filter-append (is_shown day) (all_tags xs) (all_tags ys)

pub delay_list-append : (xs ys : List Known) → delay_list (xs ++ ys) ≡ delay_list xs ++ delay_list ys
delay_list-append xs ys =
    ap (filter_map line_on_open) (flat_map-append (λ c. c.tags) xs ys) ∙ filter_map-append line_on_open (all_tags xs) (all_tags ys)

pub due_list-append : (startup day : ℕ) (skipped : List Bool) (xs ys : List Known)
    → due_list startup day skipped (xs ++ ys) ≡ due_list startup day skipped xs ++ due_list startup day skipped ys
due_list-append startup day skipped xs ys = flat_map-append (λ c. duties_of c.item c.classes startup c.events skipped day) xs ys

-- ---- with one more component

module _ (of : List Stop) (cs : List KnownOn) (i : ℕ) (c : KnownOn) (within : i < length cs) (is : c ≡ get_or cs i c) where
  -- a list of a unit, if the list of some components and of more is those of both
  pub list_more : {X : Type 0} (f : List Known → List X) → ((xs ys : List Known) → f (xs ++ ys) ≡ f xs ++ f ys) → (old new : List X)
      → old ≡ f (all_in_law of (take i cs)) → new ≡ old ++ f (in_law of c ∷ []) → new ≡ f (all_in_law of (take (i + 1) cs))
  list_more f joins old new was put =
      put ∙ ap (λ xs. xs ++ f (in_law of c ∷ [])) was ∙ sym (joins (all_in_law of (take i cs)) (in_law of c ∷ []))
      ∙ ap f (sym (mapped_more (in_law of) cs i c within is))

-- ---- the sheets of a unit

-- what is known under a number is of the component with the number
known_has_number : (facts : List Entry) (number : ℕ) (c : Known) → option_map (known_of facts) (equipment_of number facts) ≡ Some c
    → (item : Equipment) × (equipment_of number facts ≡ Some item) × (c.item.component ≡ number)
known_has_number facts number c is =
    elim (cases_Option (equipment_of number facts)) [
      | inl none ↦ let never : None ≡ Some c = rw none at is in absurd cc
      | inr some ↦
          let known : Some (known_of facts some.0) ≡ Some c = rw some.1 at is in
          let same : known_of facts some.0 ≡ c = cc in
          (some.0, some.1, ap (λ (k : Known). k.item.component) (sym same) ∙ (components_are_members facts number some.0 some.1).0)
    ]

-- the sheets of a unit's components are of distinct ones, in ascending order
pub sheets_are_distinct : (facts : List Entry) (numbers : List ℕ) → AllByRecursion IsInRange facts → Ascends nat_lt numbers
    → AreOfComponents (map sheet_of (known_among facts numbers))
sheets_are_distinct facts numbers in_range up =
    let f : ℕ → Option Known = λ number. option_map (known_of facts) (equipment_of number facts) in
    record {
      ascend = ascends_map (λ (a b : Sheet). nat_lt a.component b.component) sheet_of (filter_map f numbers)
          (given_ascend (λ (c : Known). c.item.component) f (λ number c is. (known_has_number facts number c is).2) numbers up);
      each = all_map (λ (sheet : Sheet). sheet.component ≤ MOST_COMPONENTS) sheet_of (filter_map f numbers)
          (all_given (λ (c : Known). c.item.component ≤ MOST_COMPONENTS) f numbers (λ number c is.
          let found = known_has_number facts number c is in
          let stands = components_stand_in_range facts number found.0 in_range found.1 in
          subst (λ n. n ≤ MOST_COMPONENTS) (sym found.2) stands.component.1));
    }

-- .. on a day
pub sheets_of_unit_are_distinct : (day unit : ℕ) (facts entries : List Entry) → Ascends goes_first facts → AreKept facts entries
    → AreOfComponents (map sheet_of (components_of unit (up_to day facts)))
sheets_of_unit_are_distinct day unit facts entries up kept =
    let numbers = members_of unit entries in
    let ascend = subst (Ascends nat_lt) (sym (members_are unit facts entries kept.register)) (members_ascend facts unit kept.once) in
    subst (λ ks. AreOfComponents (map sheet_of ks)) (sym (components_are day unit facts entries up kept.once kept.register))
    (sheets_are_distinct (up_to day facts) numbers (part_is_in_range facts (λ e. nat_le e.0.day day) kept.in_range) ascend)

-- ---- a process unit on a day

-- no process unit has a number above 255
none_above : (number : ℕ) (facts : List Entry) → AllByRecursion IsInRange facts → nat_le number 255 ≡ false → unit_entry_of number facts ≡ None
none_above number facts in_range high =
    elim (cases_Option (unit_entry_of number facts)) [
      | inl none ↦ none
      | inr some ↦
          let range = startups_are_days facts number some.0 in_range some.1 in
          absurd (omega (arith, range.1.1, leb-false number 255 high))
    ]

-- the process unit as the register has it, on a day; a number above 255 is none
pub unit_is : (day number : ℕ) (facts entries : List Entry) → Ascends goes_first facts → AreKept facts entries
    → cond (nat_le number 255) (option_and_then (if_started day) (unit_entry_of number entries)) None ≡ unit_entry_of number (up_to day facts)
unit_is day number facts entries up kept =
    let known = sym (units_up_to_a_day day number facts (ascending_are_in_order facts up)).entry in
    elim (cases_Bool (nat_le number 255)) [
      | inl low ↦ rw low
          (ap (λ es. option_and_then (if_started day) (unit_entry_of number es)) kept.register
          ∙ ap (option_and_then (if_started day)) (register_facts_suffice number facts).1.entry ∙ known)
      | inr high ↦ rw high (sym (sym known ∙ ap (option_and_then (if_started day)) (none_above number facts kept.in_range high)))
    ]

-- a process unit that has started up by a day did so up to 2097-12-31
pub started_in_bound : (day number : ℕ) (facts entries : List Entry) (unit : UnitEntry) → Ascends goes_first facts → AreKept facts entries
    → unit_entry_of number (up_to day facts) ≡ Some unit → unit.startup ≤ LAST_FACT_DAY
started_in_bound day number facts entries unit up kept is =
    elim (cases_Option (unit_entry_of number facts)) [
      | inl none ↦
          let never : None ≡ Some unit =
          ap (option_and_then (if_started day)) (sym none) ∙ sym (units_up_to_a_day day number facts (ascending_are_in_order facts up)).entry ∙ is in
          absurd cc
      | inr some ↦
          let started : if_started day some.0 ≡ Some unit =
          ap (option_and_then (if_started day)) (sym some.1) ∙ sym (units_up_to_a_day day number facts (ascending_are_in_order facts up)).entry ∙ is in
          elim (cases_Bool (nat_le some.0.startup day)) [
            | inl come ↦
                let here : Some some.0 ≡ Some unit = rw come at started in
                let same : some.0 ≡ unit = cc in
                subst (λ (u : UnitEntry). u.startup ≤ LAST_FACT_DAY) same (kept.startups number some.0 some.1)
            | inr not_come ↦ let never : None ≡ Some unit = rw not_come at started in absurd cc
          ]
    ]
