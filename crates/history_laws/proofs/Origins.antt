use Rattle.std.proofs.Common.{◌≡◌, ℕ, ◌≤◌, true, false, nat_eq, nat_lt, Option, Some, None, List}
use Rattle.std.proofs.Common.{refl, sym, ap, subst, inl, inr, arith}
use Rattle.std.specs.Prelude.{codes}
use Rattle.std.specs.List.{filter_map}
use Rattle.std.proofs.lemmas.Bool.{cases_Bool, eq-eqb}
use Rattle.std.proofs.lemmas.Bool.Decides.{nat_tests}
use Rattle.list_words.proofs.Members.{Among, all_at, all_from_among}
use Rattle.list_words.proofs.Members.{Contains-from_among}
use Rattle.fact_kinds.specs.declared.body.FactBody.{FactBody}
use Rattle.fact_kinds.specs.declared.body.FactBody.TheVariants.{Unit as UnitFact, Component as ComponentFact}
use Rattle.fact_kinds.specs.Facts.{Entry, facts_of}
use Rattle.ldar_law.specs.declared.equipment.Equipment.{Equipment}
use Rattle.ldar_law.specs.declared.unit_entry.UnitEntry.{UnitEntry}
use Rattle.ldar_law.specs.Denials as denials
use Rattle.ldar_law.specs.Denials.{component_asked, unit_asked}
use Rattle.ldar_law.specs.Equipment.{retired_on, component_entered, equipment_of, unit_entered, member_entered}
use Rattle.ldar_law.specs.RegisterLaws.{enters_component, enters_unit}
use Rattle.ldar_law.specs.Verdicts.{Rule, numbered}
use Rattle.ldar_law.proofs.Gifts.{among_given}
use Rattle.history_laws.specs.RulyLaws.{DaysAreInBound, StartupsAreInBound, BeginningsAreInBound, StartupIsOfFact, BeginningIsOfFact}
use Rattle.history_laws.proofs.Counting.{first_among}
use Rattle.history_laws.proofs.Passing.{let_pass, came}

-- ---- days

-- rule 19
abbrev late_rule : Rule
late_rule = numbered 19 (codes "P4") denials.day_too_late

-- a day that rule 19 lets pass
in_time : (day : ℕ) → nat_lt 46_751 day ≡ false → day ≤ 46_751
in_time day e = grind (arith, nat_tests)

pub days_are_in_bound : DaysAreInBound
days_are_in_bound history ruly =
    all_from_among (λ e. e.0.day ≤ 46_751) (facts_of history) (λ entry among.
    let c = came history ruly entry among in
    in_time entry.0.day (let_pass c.earlier c.batch c.passes c.before entry c.after c.stands late_rule (18, omega arith, refl)))

-- a process unit starts up on the day of its fact
pub startup_is : (number day : ℕ) (body : FactBody) (unit : UnitEntry) → unit_entered number day body ≡ Some unit → unit.startup ≡ day
startup_is number day (UnitFact other older name) unit e =
    elim (cases_Bool (nat_eq other number)) [
      | inl t ↦ let is : Some (record { unit = number; name = name; startup = day; older = older }) ≡ Some unit = rw t at e in cc
      | inr f ↦ let none : None ≡ Some unit = rw f at e in absurd cc
    ]
startup_is number day _ unit e = absurd cc

-- that fact enters the process unit
startup_enters : (number day : ℕ) (body : FactBody) (unit : UnitEntry) → unit_entered number day body ≡ Some unit → enters_unit number body ≡ true
startup_enters number day (UnitFact other older name) unit e =
    elim (cases_Bool (nat_eq other number)) [
      | inl t ↦ t
      | inr f ↦ let none : None ≡ Some unit = rw f at e in absurd cc
    ]
startup_enters number day _ unit e = absurd cc

pub startup_is_of_fact : StartupIsOfFact
startup_is_of_fact facts number unit e =
    let f : Entry → Option UnitEntry = λ x. unit_entered number x.0.day x.1.body in
    let found = among_given f facts unit (first_among (filter_map f facts) unit e) in (
      found.0,
      Contains-from_among facts found.0 found.1,
      startup_enters number found.0.0.day found.0.1.body unit found.2,
      startup_is number found.0.0.day found.0.1.body unit found.2,
    )

pub startups_are_in_bound : StartupsAreInBound
startups_are_in_bound facts number last unit all e =
    let f : Entry → Option UnitEntry = λ x. unit_entered number x.0.day x.1.body in
    let found = among_given f facts unit (first_among (filter_map f facts) unit e) in
    subst (λ day. day ≤ last) (sym (startup_is number found.0.0.day found.0.1.body unit found.2)) (all_at (λ x. x.0.day ≤ last) facts found.0 all found.1)

-- a component, in terms of the fact that enters it
pub record Begins (number day : ℕ) (body : FactBody) (item : Equipment) : Type 0 where
  pub component : item.component ≡ number
  pub begin : item.begin ≡ day
  pub enters : enters_component number body ≡ true
  pub joins : member_entered item.unit body ≡ Some number
  pub asks : unit_asked body ≡ Some item.unit

-- a component is what the fact that enters it says
pub begins : (number : ℕ) (retired : Option ℕ) (day : ℕ) (body : FactBody) (item : Equipment) → component_entered number retired day body ≡ Some item
    → Begins number day body item
begins number retired day (ComponentFact other unit kind monomer replaces class) item e =
    elim (cases_Bool (nat_eq other number)) [
      | inl t ↦
          let entered : Equipment = record {
            component = number;
            unit = unit;
            kind = kind;
            monomer = monomer;
            replaces = replaces;
            begin = day;
            retired = retired;
            class = class;
          } in
          let is : Some entered ≡ Some item =
          rw t at e in
          let stands : unit ≡ item.unit = cc in
          let same : other ≡ number = grind (arith, nat_tests) in
          record {
            component = cc;
            begin = cc;
            enters = t;
            joins = rw (eq-eqb unit item.unit stands) (ap Some same);
            asks = ap Some stands;
          }
      | inr f ↦ let none : None ≡ Some item = rw f at e in absurd cc
    ]
begins number retired day _ item e = absurd cc

-- a component of some facts, in terms of the fact that enters it
pub record Origin (number : ℕ) (facts : List Entry) (item : Equipment) : Type 0 where
  pub entry : Entry
  pub held : Among facts entry
  pub begins : Begins number entry.0.day entry.1.body item

-- each component has such a fact
pub origin : (number : ℕ) (facts : List Entry) (item : Equipment) → equipment_of number facts ≡ Some item → Origin number facts item
origin number facts item e =
    let f : Entry → Option Equipment = λ x. component_entered number (retired_on number facts) x.0.day x.1.body in
    let found = among_given f facts item (first_among (filter_map f facts) item e) in
    record { entry = found.0; held = found.1; begins = begins number (retired_on number facts) found.0.0.day found.0.1.body item found.2 }

pub beginnings_are_in_bound : BeginningsAreInBound
beginnings_are_in_bound facts number last item all e =
    let o = origin number facts item e in
    subst (λ day. day ≤ last) (sym o.begins.begin) (all_at (λ x. x.0.day ≤ last) facts o.entry all o.held)

pub beginning_is_of_fact : BeginningIsOfFact
beginning_is_of_fact facts number item e =
    let o = origin number facts item e in (o.entry, Contains-from_among facts o.entry o.held, o.begins.enters, o.begins.begin)
