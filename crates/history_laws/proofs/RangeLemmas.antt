use Rattle.std.proofs.Common.{◌≡◌, ℕ, ◌+◌, true, nat_eq, Some, None, List, [], ◌∷◌, refl, sym, subst, inl, inr, arith}
use Rattle.std.specs.List.{AllByRecursion, flat_map}
use Rattle.std.proofs.lemmas.Bool.{cases_Bool, false≢true}
use Rattle.std.proofs.lemmas.Bool.Decides.{nat_tests}
use Rattle.ldar_days.specs.Calendar.{IsDay}
use Rattle.list_words.proofs.Ascending.{all_in_order}
use Rattle.list_words.proofs.Members.{all_append, all_at, all_from_among, among_from_Contains, Contains-from_among}
use Rattle.fact_kinds.specs.declared.batch.Batch.{Batch}
use Rattle.fact_kinds.specs.declared.body.FactBody.{FactBody}
use Rattle.fact_kinds.specs.declared.body.FactBody.TheVariants.{Unit as UnitFact, Component as ComponentFact}
use Rattle.fact_kinds.specs.Facts.{Entry, goes_first, entries_from, entries_of}
use Rattle.fact_kinds.specs.Fields.{IsFilled, IsFact, body_fields}
use Rattle.fact_kinds.specs.Stated.{Stated}
use Rattle.ldar_law.specs.Equipment.{member_entered, members_of}
use Rattle.ldar_law.specs.RegisterLaws.{enters_component, enters_unit}
use Rattle.ldar_law.proofs.EnteredLemmas.{members_are_entered}
use Rattle.history_laws.specs.RangeLaws.{IsInRange, FactsAreInRange, PartIsInRange, IsComponentNumber, IsUnitNumber}
use Rattle.history_laws.specs.RangeLaws.{StartupsAreDays, ComponentsStandInRange, MembersAreInRange, MembersFit}
use Rattle.history_laws.proofs.Origins.{origin, startup_is_of_fact}
use Rattle.history_laws.proofs.MemberLemmas.{member_is_entered, members_are_few}
use Rattle.history_laws.proofs.UpTo.{all_of_part}

-- the facts of a batch with their keys are in range
entries_in_range : (batch : Batch) (index : ℕ) (facts : List Stated) → AllByRecursion IsFact facts → AllByRecursion IsInRange (entries_from batch index facts)
entries_in_range batch index [] all = tt
entries_in_range batch index (fact ∷ facts) all = (record { fact = all.0; day = refl }, entries_in_range batch (index + 1) facts all.1)

-- the facts of some batches with their keys are in range
batches_in_range : (history : List Batch) → AllByRecursion (λ batch. AllByRecursion IsFact batch.facts) history
    → AllByRecursion IsInRange (flat_map entries_of history)
batches_in_range [] all = tt
batches_in_range (batch ∷ batches) all =
    all_append IsInRange (entries_of batch) (flat_map entries_of batches) (entries_in_range batch 0 batch.facts all.0) (batches_in_range batches all.1)

pub facts_are_in_range : FactsAreInRange
facts_are_in_range history all = all_in_order IsInRange goes_first (flat_map entries_of history) (batches_in_range history all)

pub part_is_in_range : PartIsInRange
part_is_in_range facts test all = all_of_part IsInRange test facts all

-- the key has a day of the calendar
keyed_day : (e : Entry) → IsInRange e → IsDay e.0.day
keyed_day e kept = subst IsDay (sym kept.day) kept.fact.1.0

-- the number of a process unit that a fact enters is in range
unit_in_range : (number : ℕ) (body : FactBody) → AllByRecursion IsFilled (body_fields body) → enters_unit number body ≡ true → IsUnitNumber number
unit_in_range number (UnitFact other older name) filled enters =
    let same : other ≡ number = grind (arith, nat_tests) in subst IsUnitNumber same filled.0
unit_in_range number _ filled enters = absurd (false≢true enters)

-- the number of a component that a fact enters is in range
component_in_range : (number : ℕ) (body : FactBody) → AllByRecursion IsFilled (body_fields body) → enters_component number body ≡ true
    → IsComponentNumber number
component_in_range number (ComponentFact other unit kind monomer replaces class) filled enters =
    let same : other ≡ number = grind (arith, nat_tests) in subst IsComponentNumber same filled.0
component_in_range number _ filled enters = absurd (false≢true enters)

-- the number of the process unit of a component that a fact enters is in range
joined_in_range : (unit number : ℕ) (body : FactBody) → AllByRecursion IsFilled (body_fields body) → member_entered unit body ≡ Some number → IsUnitNumber unit
joined_in_range unit number (ComponentFact other u kind monomer replaces class) filled joins =
    elim (cases_Bool (nat_eq u unit)) [
      | inl t ↦ let same : u ≡ unit = grind (arith, nat_tests) in subst IsUnitNumber same filled.1.0
      | inr f ↦ let none : None ≡ Some number = rw f at joins in absurd cc
    ]
joined_in_range unit number _ filled joins = absurd cc

pub startups_are_days : StartupsAreDays
startups_are_days facts number unit all e =
    let entered = startup_is_of_fact facts number unit e in
    let kept = all_at IsInRange facts entered.0 all (among_from_Contains facts entered.0 entered.1) in (
      subst IsDay (sym entered.3) (keyed_day entered.0 kept),
      unit_in_range number entered.0.1.body kept.fact.1.1.1 entered.2,
    )

pub components_stand_in_range : ComponentsStandInRange
components_stand_in_range facts number item all e =
    let o = origin number facts item e in
    let kept = all_at IsInRange facts o.entry all o.held in
    record {
      begin = subst IsDay (sym o.begins.begin) (keyed_day o.entry kept);
      component = component_in_range number o.entry.1.body kept.fact.1.1.1 o.begins.enters;
      unit = joined_in_range item.unit number o.entry.1.body kept.fact.1.1.1 o.begins.joins;
    }

pub members_are_in_range : MembersAreInRange
members_are_in_range facts unit all =
    all_from_among IsComponentNumber (members_of unit facts) (λ number among.
    let entered = ((members_are_entered unit facts).0 number).0 (Contains-from_among (members_of unit facts) number among) in
    let e = entered.entry in
    let kept = all_at IsInRange facts e all (among_from_Contains facts e entered.held) in
    component_in_range number e.1.body kept.fact.1.1.1 (member_is_entered unit number e.1.body entered.enters))

pub members_fit : MembersFit
members_fit facts unit all once = members_are_few facts unit 60_000 once (members_are_in_range facts unit all)
