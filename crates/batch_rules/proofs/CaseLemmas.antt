use Rattle.std.proofs.Common.{◌≡◌, ℕ, Bool, true, false, not, ◌&&◌, nat_eq, eq-eqb, Option, Some, None, refl, sym, ap, ◌∙◌}
use Rattle.std.specs.Option.{option_map, is_none, is_some}
use Rattle.fact_kinds.specs.declared.body.FactBody.{FactBody}
use Rattle.fact_kinds.specs.declared.body.FactBody.TheVariants.{Component as ComponentFact, Class as ClassFact, Reading, Visual, Delay, Release, Indication}
use Rattle.fact_kinds.specs.declared.body.Sort.{Sort}
use Rattle.fact_kinds.specs.declared.body.VisualState.{VisualState}
use Rattle.fact_kinds.specs.declared.class.Class.{Class}
use Rattle.fact_kinds.specs.declared.class.Kind.{Kind}
use Rattle.ldar_law.specs.declared.equipment.Equipment.{Equipment}
use Rattle.ldar_law.specs.Denials.{component_asked, component_looked_at, is_ground_for_another, suits, class_unsuited}
use Rattle.ldar_law.specs.Judged.{Case, first_entry, class_held, is_so_of, is_kind_so}
use Rattle.batch_rules.specs.Cases.{kind_and_class_asked}
use Rattle.batch_rules.specs.KindsAndClasses.{kind_and_class_of, is_so}

-- a test of an entered component is a test of its type and class
so_entered : (test : Kind → Class → Bool) (class : Equipment → Class) (o : Option Equipment)
    → elim o [ None ↦ false | Some item ↦ test item.kind (class item) ] ≡ is_so test (option_map (λ (item : Equipment). (item.kind, class item)) o)
so_entered test class None = refl
so_entered test class (Some item) = refl

-- a test of an entered component's type is a test of its type and class
kind_entered : (test : Kind → Bool) (class : Equipment → Class) (o : Option Equipment)
    → elim o [ None ↦ false | Some item ↦ test item.kind ] ≡ is_so (λ kind _. test kind) (option_map (λ (item : Equipment). (item.kind, class item)) o)
kind_entered test class None = refl
kind_entered test class (Some item) = refl

-- a component without type and class was not entered
none_entered : (class : Equipment → Class) (o : Option Equipment)
    → is_none {T = Kind × Class} (option_map (λ (item : Equipment). (item.kind, class item)) o) ≡ is_none o
none_entered class None = refl
none_entered class (Some item) = refl

-- for a fact that requires this component
module _ (case : Case) (component : ℕ) (asks : component_asked case.entry.1.body ≡ Some component) where
  -- the required component's type and class are those of this component
  asked_is : kind_and_class_asked case ≡ kind_and_class_of case.known component case.entry.0.day
  unfolding kind_and_class_asked
  asked_is = ap (λ (o : Option ℕ). elim o as (λ _. Option (Kind × Class)) [ None ↦ None | Some c ↦ kind_and_class_of case.known c case.entry.0.day ]) asks

  -- a test of the component's type and class
  pub so_asked : (test : Kind → Class → Bool) → is_so_of case component test ≡ is_so test (kind_and_class_asked case)
  so_asked test =
      so_entered test (λ item. class_held case.known item case.entry.0.day) (first_entry component case.known.entered)
      ∙ ap (is_so test) (sym asked_is)

  -- a test of the component's type
  pub kind_asked : (test : Kind → Bool) → is_kind_so case component test ≡ is_so (λ kind _. test kind) (kind_and_class_asked case)
  kind_asked test =
      kind_entered test (λ item. class_held case.known item case.entry.0.day) (first_entry component case.known.entered)
      ∙ ap (is_so (λ kind _. test kind)) (sym asked_is)

  -- the component was not entered
  pub none_asked : is_none (kind_and_class_asked case) ≡ is_none (first_entry component case.known.entered)
  none_asked =
      ap is_none asked_is
      ∙ none_entered (λ item. class_held case.known item case.entry.0.day) (first_entry component case.known.entered)

-- a fact requires the component that it looks at
pub looked_is_asked : (body : FactBody) (component : ℕ) → component_looked_at body ≡ Some component → component_asked body ≡ Some component
looked_is_asked (Reading c instrument operator purpose ppm background) component e = e
looked_is_asked (Visual c state) component e = e
looked_is_asked _ component e = absurd cc

-- ---- the rules on facts of each kind

module _ (case : Case) where
  -- a rule on visual inspections
  pub visual_is : (c : ℕ) (state : VisualState) (test : Kind → Class → Bool) → case.entry.1.body ≡ Visual c state
      → elim case.entry.1.body [ Visual c state ↦ is_so_of case c test | _ ↦ false ] ≡ is_so test (kind_and_class_asked case)
  visual_is c state test says =
      ap (λ (body : FactBody). elim body as (λ _. Bool) [ Visual c state ↦ is_so_of case c test | _ ↦ false ]) says
      ∙ so_asked case c (ap component_asked says) test

  -- a rule on pressure releases
  pub release_is : (c : ℕ) (test : Kind → Class → Bool) → case.entry.1.body ≡ Release c
      → elim case.entry.1.body [ Release c ↦ is_so_of case c test | _ ↦ false ] ≡ is_so test (kind_and_class_asked case)
  release_is c test says =
      ap (λ (body : FactBody). elim body as (λ _. Bool) [ Release c ↦ is_so_of case c test | _ ↦ false ]) says
      ∙ so_asked case c (ap component_asked says) test

  -- a rule on indications of some kind
  pub indication_is : (c : ℕ) (sort : Sort) (present : Bool) (asks : Sort → Bool) (test : Kind → Class → Bool)
      → case.entry.1.body ≡ Indication c sort present → asks sort ≡ true
      → elim case.entry.1.body [ Indication c sort present ↦ asks sort && is_so_of case c test | _ ↦ false ] ≡ is_so test (kind_and_class_asked case)
  indication_is c sort present asks test says asked =
      ap (λ (body : FactBody). elim body as (λ _. Bool) [ Indication c sort present ↦ asks sort && is_so_of case c test | _ ↦ false ]) says
      ∙ ap (λ b. b && is_so_of case c test) asked
      ∙ so_asked case c (ap component_asked says) test

  -- a rule on delays of some ground
  pub delay_is : (c why signer : ℕ) (expected : Option ℕ) (wanted : ℕ) (test : Kind → Bool)
      → case.entry.1.body ≡ Delay c why signer expected → why ≡ wanted
      → is_ground_for_another wanted test case ≡ is_so (λ kind class. not (test kind)) (kind_and_class_asked case)
  delay_is c why signer expected wanted test says same =
      ap (λ (body : FactBody). elim body as (λ _. Bool) [
        | Delay c why signer expected ↦ nat_eq why wanted && is_kind_so case c (λ kind. not (test kind))
        | _ ↦ false
      ]) says
      ∙ ap (λ b. b && is_kind_so case c (λ kind. not (test kind))) (eq-eqb why wanted same)
      ∙ kind_asked case c (ap component_asked says) (λ kind. not (test kind))

  -- a rule on classes
  pub class_is : (c : ℕ) (class : Class) → case.entry.1.body ≡ ClassFact c class
      → class_unsuited case ≡ is_so (λ kind _. not (suits kind class)) (kind_and_class_asked case)
  class_is c class says =
      ap (λ (body : FactBody). elim body as (λ _. Bool) [
        | ComponentFact c unit kind monomer replaces class ↦ not (suits kind class)
        | ClassFact c class ↦ is_kind_so case c (λ kind. not (suits kind class))
        | _ ↦ false
      ]) says
      ∙ kind_asked case c (ap component_asked says) (λ kind. not (suits kind class))

-- a test for a value, negated, is a test for none
pub none_of : (o : Option (Kind × Class)) (r : Bool) → is_some o ≡ not r → r ≡ is_none o
none_of None true e = refl
none_of None false e = absurd cc
none_of (Some x) true e = absurd cc
none_of (Some x) false e = refl
