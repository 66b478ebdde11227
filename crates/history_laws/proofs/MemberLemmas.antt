use Rattle.std.proofs.Common.{◌≡◌, ℕ, ◌≤◌, true, false, ◌||◌, nat_eq, nat_lt, Option, Some, None, List, [], ◌∷◌}
use Rattle.std.proofs.Common.{count_by, slice_get, refl, sym, ap, ◌∙◌, inl, inr, arith}
use Rattle.std.specs.List.{filter_map, cons_option}
use Rattle.std.proofs.lemmas.Bool.{cases_Bool, eq-eqb}
use Rattle.std.proofs.lemmas.Bool.Decides.{nat_tests}
use Rattle.list_words.specs.Order.{AllApart}
use Rattle.list_words.proofs.Ascending.{ascends_in_order}
use Rattle.list_words.proofs.Members.{Among, all_from_among}
use Rattle.list_words.proofs.Members.{among_from_Contains, Contains-from_among}
use Rattle.fact_kinds.specs.declared.body.FactBody.{FactBody}
use Rattle.fact_kinds.specs.declared.body.FactBody.TheVariants.{Component as ComponentFact}
use Rattle.fact_kinds.specs.Facts.{Entry}
use Rattle.ldar_law.specs.declared.equipment.Equipment.{Equipment}
use Rattle.ldar_law.specs.Equipment.{retired_on, component_entered, member_entered, members_of}
use Rattle.ldar_law.specs.RegisterLaws.{enters_component}
use Rattle.ldar_law.proofs.EnteredLemmas.{members_are_entered}
use Rattle.ldar_law.proofs.Gifts.{among_given}
use Rattle.history_laws.specs.RulyLaws.{MembersAscend, MembersAreFew}
use Rattle.history_laws.specs.RulyLaws.{MembersStandInUnit, ComponentsAreMembers}
use Rattle.history_laws.proofs.Counting.{count_cons, count_yes, count_no, count_among}
use Rattle.history_laws.proofs.Counting.{strict_lt, apart_of, few_from}
use Rattle.history_laws.proofs.Origins.{origin}

-- ---- members

-- the component that a fact enters in a process unit is the one that the fact names
pub joined_is : (unit number : ℕ) (retired : Option ℕ) (day : ℕ) (body : FactBody) → member_entered unit body ≡ Some number
    → (item : Equipment) × (component_entered number retired day body ≡ Some item) × (item.component ≡ number) × (item.unit ≡ unit)
joined_is unit number retired day (ComponentFact other u kind monomer replaces class) e =
    elim (cases_Bool (nat_eq u unit)) [
      | inl t ↦
          let is : Some other ≡ Some number = rw t at e in
          let same : other ≡ number = cc in
          let stands : u ≡ unit = grind (arith, nat_tests) in (
            record { component = number; unit = u; kind = kind; monomer = monomer; replaces = replaces; begin = day; retired = retired; class = class },
            rw (eq-eqb other number same) refl,
            refl,
            stands,
          )
      | inr f ↦ let none : None ≡ Some number = rw f at e in absurd cc
    ]
joined_is unit number retired day _ e = absurd cc

-- a fact that enters a member enters the component
pub member_is_entered : (unit number : ℕ) (body : FactBody) → member_entered unit body ≡ Some number → enters_component number body ≡ true
member_is_entered unit number (ComponentFact other u kind monomer replaces class) e =
    elim (cases_Bool (nat_eq u unit)) [
      | inl t ↦ let is : Some other ≡ Some number = rw t at e in let same : other ≡ number = cc in eq-eqb other number same
      | inr f ↦ let none : None ≡ Some number = rw f at e in absurd cc
    ]
member_is_entered unit number _ e = absurd cc

-- a fact that does not enter the component has no entry of it
enters_nothing : (number : ℕ) (retired : Option ℕ) (day : ℕ) (body : FactBody) → enters_component number body ≡ false
    → component_entered number retired day body ≡ None
enters_nothing number retired day (ComponentFact other unit kind monomer replaces class) e = rw e refl
enters_nothing number retired day _ e = refl

-- the numbers entered in a process unit are all different if each component is entered only once
pub apart_numbers : (unit : ℕ) (es : List Entry) → ((number : ℕ) → count_by (λ e. enters_component number e.1.body) es ≤ 1)
    → AllApart nat_lt (filter_map (λ e. member_entered unit e.1.body) es)
apart_numbers unit [] few = tt
apart_numbers unit (e ∷ es) few =
    let f : Entry → Option ℕ = λ x. member_entered unit x.1.body in
    let rest = apart_numbers unit es (λ n. omega (arith, few n, count_cons (λ x. enters_component n x.1.body) e es)) in
    elim (member_entered unit e.1.body) as (λ o. member_entered unit e.1.body ≡ o → AllApart nat_lt (cons_option o (filter_map f es))) [
      | None ↦ λ is. rest
      | Some number ↦ λ is. (
        all_from_among (λ y. (nat_lt number y || nat_lt y number) ≡ true) (filter_map f es) (λ y among.
            let found = among_given f es y among in
            apart_of number y (λ same.
            let one = count_yes (λ x. enters_component number x.1.body) e es (member_is_entered unit number e.1.body is) in
            let again = count_among (λ x. enters_component number x.1.body) es found.0 found.1
            (member_is_entered unit number found.0.1.body (found.2 ∙ ap Some (sym same))) in
            omega (arith, few number, one, again))),
        rest,
      )
    ] refl

pub members_ascend : MembersAscend
members_ascend facts unit once =
    ascends_in_order nat_lt strict_lt (filter_map (λ e. member_entered unit e.1.body) facts) (apart_numbers unit facts once.components)

pub members_are_few : MembersAreFew
members_are_few facts unit most once all =
    let few = few_from 1 most (members_of unit facts) (members_ascend facts unit once) all (omega arith) in omega (arith, few)

-- if only one fact enters a component, its entry is the first
pub entry_is_first : (number : ℕ) (retired : Option ℕ) (es : List Entry) (e : Entry) (item : Equipment)
    → count_by (λ x. enters_component number x.1.body) es ≤ 1 → Among es e → enters_component number e.1.body ≡ true
    → component_entered number retired e.0.day e.1.body ≡ Some item
    → slice_get (filter_map (λ x. component_entered number retired x.0.day x.1.body) es) 0 ≡ Some item
entry_is_first number retired [] e item few among enters is = absurd among
entry_is_first number retired (x ∷ xs) e item few (inl here) enters is =
    rw (ap (λ y. component_entered number retired y.0.day y.1.body) here ∙ is) refl
entry_is_first number retired (x ∷ xs) e item few (inr there) enters is =
    let again = count_among (λ y. enters_component number y.1.body) xs e there enters in
    elim (cases_Bool (enters_component number x.1.body)) [
      | inl t ↦ let one = count_yes (λ y. enters_component number y.1.body) x xs t in absurd (omega (arith, few, one, again))
      | inr f ↦
          let none = count_no (λ y. enters_component number y.1.body) x xs f in
          rw (enters_nothing number retired x.0.day x.1.body f) (entry_is_first number retired xs e item (omega (arith, few, none)) there enters is)
    ]

pub members_stand_in_unit : MembersStandInUnit
members_stand_in_unit facts unit number once held =
    let entered = ((members_are_entered unit facts).0 number).0 held in
    let e = entered.entry in
    let joined = joined_is unit number (retired_on number facts) e.0.day e.1.body entered.enters in (
      joined.0,
      entry_is_first number (retired_on number facts) facts e joined.0 (once.components number) (among_from_Contains facts e entered.held)
          (member_is_entered unit number e.1.body entered.enters) joined.1,
      joined.2,
      joined.3,
    )

pub components_are_members : ComponentsAreMembers
components_are_members facts number item e =
    let o = origin number facts item e in (
      o.begins.component,
      ((members_are_entered item.unit facts).0 number).1 (record { entry = o.entry; held = Contains-from_among facts o.entry o.held; enters = o.begins.joins }),
    )
