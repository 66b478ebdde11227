-- Facts that name a process unit: those that enter it or one of its components.
use Rattle.std.proofs.Common.{◌≡◌, ℕ, Bool, ◌||◌, true, false, nat_eq, Option, Some, None, List, [], ◌∷◌, slice_get, option_and_then}
use Rattle.std.proofs.Common.{inl, inr, refl, sym, ap, ◌∙◌}
use Rattle.std.specs.List.{cons_option, filter_map}
use Rattle.std.proofs.lemmas.Bool.{cases_Bool, eq-eqb}
use Rattle.std.proofs.lemmas.List.Sorted.{list_any-IsPermutation}
use Rattle.list_words.specs.Order.{Ascends, in_order}
use Rattle.list_words.proofs.Ascending.{in_order_permutes}
use Rattle.fact_kinds.specs.declared.body.FactBody.{FactBody}
use Rattle.fact_kinds.specs.declared.body.FactBody.TheVariants.{Unit as UnitFact, Component as ComponentFact}
use Rattle.fact_kinds.specs.Facts.{Entry, goes_first}
use Rattle.fact_kinds.specs.Named.{is_numbered, unit_of}
use Rattle.history_laws.specs.DayLaws.{if_started, up_to}
use Rattle.history_laws.proofs.RegisterUpTo.{units_up_to_a_day}
use Rattle.history_laws.proofs.UpTo.{ascending_are_in_order}
use Rattle.ldar_law.specs.declared.equipment.Equipment.{Equipment}
use Rattle.ldar_law.specs.declared.unit_entry.UnitEntry.{UnitEntry}
use Rattle.ldar_law.specs.Equipment.{component_entered, equipment_of, retired_on, unit_entered, unit_entry_of}
use Rattle.ldar_law.proofs.Gifts.{cases_Option}
use Rattle.unit_summaries.specs.Sound.{is_known}

-- a disjunction follows from its second part
or_second : (a : Bool) {b : Bool} → b ≡ true → (a || b) ≡ true
or_second true is = refl
or_second false is = is

-- ---- a process unit has the number of its entry

-- by the fact that enters it
entry_number : (number day : ℕ) (body : FactBody) (entry : UnitEntry) → unit_entered number day body ≡ Some entry → entry.unit ≡ number
entry_number number day (UnitFact other older name) entry is =
    elim (cases_Bool (nat_eq other number)) [
      | inl here ↦
          let given : Some (record { unit = number; name = name; startup = day; older = older }) ≡ Some entry = rw here at is in
          let same : record { unit = number; name = name; startup = day; older = older } ≡ entry = cc in
          sym (ap (λ (e : UnitEntry). e.unit) same)
      | inr else ↦
          let given : None ≡ Some entry = rw else at is in
          absurd cc
    ]
entry_number number day _ entry is = absurd cc

-- .. and by the facts
has_number : (number : ℕ) (facts : List Entry) (entry : UnitEntry) → unit_entry_of number facts ≡ Some entry → entry.unit ≡ number
has_number number [] entry is = absurd cc
has_number number (e ∷ facts) entry is =
    elim (unit_entered number e.0.day e.1.body) as (λ o. unit_entered number e.0.day e.1.body ≡ o
    → slice_get (cons_option o (filter_map (λ x. unit_entered number x.0.day x.1.body) facts)) 0 ≡ Some entry → entry.unit ≡ number) [
      | None ↦ λ none there. has_number number facts entry there
      | Some first ↦ λ some here.
          let same : first ≡ entry = cc in
          entry_number number e.0.day e.1.body entry (some ∙ ap Some same)
    ] refl is

-- a process unit that has started up by a day has the number that was asked, and was entered
pub started_has_number : (day number : ℕ) (facts : List Entry) (entry : UnitEntry) → Ascends goes_first facts
    → unit_entry_of number (up_to day facts) ≡ Some entry
    → (entered : UnitEntry) × (entry.unit ≡ number) × (unit_entry_of number facts ≡ Some entered)
started_has_number day number facts entry up is =
    elim (cases_Option (unit_entry_of number facts)) [
      | inl none ↦
          let never : None ≡ Some entry =
          ap (option_and_then (if_started day)) (sym none) ∙ sym (units_up_to_a_day day number facts (ascending_are_in_order facts up)).entry ∙ is in
          absurd cc
      | inr some ↦ (some.0, has_number number (up_to day facts) entry is, some.1)
    ]

-- ---- a fact that enters a component names its process unit

-- by the kind of fact
component_names_unit : (number : ℕ) (retired : Option ℕ) (day : ℕ) (body : FactBody) (item : Equipment)
    → component_entered number retired day body ≡ Some item → is_numbered (unit_of body) item.unit ≡ true
component_names_unit number retired day (ComponentFact other unit kind monomer replaces class) item is =
    elim (cases_Bool (nat_eq other number)) [
      | inl here ↦
          let given : Some (record {
            component = number;
            unit = unit;
            kind = kind;
            monomer = monomer;
            replaces = replaces;
            begin = day;
            retired = retired;
            class = class;
          })
          ≡ Some item = rw here at is in
          let same : record {
            component = number;
            unit = unit;
            kind = kind;
            monomer = monomer;
            replaces = replaces;
            begin = day;
            retired = retired;
            class = class;
          }
          ≡ item = cc in
          eq-eqb unit item.unit (ap (λ (i : Equipment). i.unit) same)
      | inr else ↦
          let given : None ≡ Some item = rw else at is in
          absurd cc
    ]
component_names_unit number retired day _ item is = absurd cc

-- .. some of the facts does
some_names_unit : (number : ℕ) (retired : Option ℕ) (facts : List Entry) (item : Equipment)
    → slice_get (filter_map (λ e. component_entered number retired e.0.day e.1.body) facts) 0 ≡ Some item → is_known facts item.unit ≡ true
some_names_unit number retired [] item is = absurd cc
some_names_unit number retired (e ∷ facts) item is =
    elim (component_entered number retired e.0.day e.1.body) as (λ o. component_entered number retired e.0.day e.1.body ≡ o
    → slice_get (cons_option o (filter_map (λ x. component_entered number retired x.0.day x.1.body) facts)) 0 ≡ Some item
    → (is_numbered (unit_of e.1.body) item.unit || is_known facts item.unit) ≡ true) [
      | None ↦ λ none there. or_second (is_numbered (unit_of e.1.body) item.unit) (some_names_unit number retired facts item there)
      | Some first ↦ λ some here.
          let same : first ≡ item = cc in
          ap (λ b. b || is_known facts item.unit) (component_names_unit number retired e.0.day e.1.body item (some ∙ ap Some same))
    ] refl is

-- the process unit of a component that the facts enter is named by a fact that arrived
pub component_names : (arrived : List Entry) (number : ℕ) (item : Equipment) → equipment_of number (in_order goes_first arrived) ≡ Some item
    → is_known arrived item.unit ≡ true
component_names arrived number item is =
    list_any-IsPermutation (λ e. is_numbered (unit_of e.1.body) item.unit) arrived (in_order goes_first arrived) (in_order_permutes goes_first arrived)
    ∙ some_names_unit number (retired_on number (in_order goes_first arrived)) (in_order goes_first arrived) item is
