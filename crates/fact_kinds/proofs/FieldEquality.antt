-- The derived equality of each field's type is true exactly for equal values.
use Rattle.std.proofs.Common.{◌≡◌, ◌&&◌, ℕ, ◌-◌, Bool, true, false, List, [], ◌∷◌, length, take, replicate, refl, sym, ap, ◌∙◌, eqb, arith}
use Rattle.std.proofs.lemmas.Bool.{eqb-true, eq-eqb, and_parts, and_from}
use Rattle.std.proofs.lemmas.Bool.Decides.{nat_tests}
use Rattle.std.proofs.lemmas.List.{take_at}
use Rattle.std.specs.Cmp.Lexicographic.{same_text}
use lib.Pointwise.{pointwise}
use mathlib.Core.Bool.{beq}
use Rattle.fact_kinds.specs.declared.class.Class.{Class}
use Rattle.fact_kinds.specs.declared.class.Kind.{Kind}
use Rattle.fact_kinds.specs.declared.class.Kind.TheVariants.{Valve, Pump, Compressor, Relief}
use Rattle.fact_kinds.specs.declared.class.Service.{Service}
use Rattle.fact_kinds.specs.declared.class.Service.TheVariants.{Gas, Light, Heavy, Vacuum, Under300}
use Rattle.fact_kinds.specs.declared.class.Designation.{Designation}
use Rattle.fact_kinds.specs.declared.class.Designation.TheVariants.{Plain, Nde, Unsafe, Difficult}
use Rattle.fact_kinds.specs.declared.body.Purpose.{Purpose}
use Rattle.fact_kinds.specs.declared.body.Purpose.TheVariants.{Routine, FollowUp}
use Rattle.fact_kinds.specs.declared.body.VisualState.{VisualState}
use Rattle.fact_kinds.specs.declared.body.VisualState.TheVariants.{Dry, Drips, Designated}
use Rattle.fact_kinds.specs.declared.body.Sort.{Sort}
use Rattle.fact_kinds.specs.declared.body.Sort.TheVariants.{Sensor, Evidence}
use Rattle.fact_kinds.specs.Name.{spelled_name}
use Rattle.fact_kinds.specs.contracts.body.PurposePartialEq.TheImpl as purposes
use Rattle.fact_kinds.specs.contracts.body.VisualStatePartialEq.TheImpl as states
use Rattle.fact_kinds.specs.contracts.body.SortPartialEq.TheImpl as sorts
use Rattle.fact_kinds.specs.contracts.class.ClassPartialEq.TheImpl as classes
use Rattle.fact_kinds.specs.contracts.class.KindPartialEq.TheImpl as kinds
use Rattle.fact_kinds.specs.contracts.class.ServicePartialEq.TheImpl as services
use Rattle.fact_kinds.specs.contracts.class.DesignationPartialEq.TheImpl as designations
use Rattle.fact_kinds.specs.contracts.name.NamePartialEq.TheImpl as names

-- types of components for which the derived equality is true are equal
pub same_kind : (a b : Kind) → (kinds.eq-value).it a b ≡ true → a ≡ b
same_kind Valve Valve h = refl
same_kind Pump Pump h = refl
same_kind Compressor Compressor h = refl
same_kind Relief Relief h = refl
same_kind a b h = absurd cc

-- a type of component equals itself
pub kind_itself : (a : Kind) → (kinds.eq-value).it a a ≡ true
kind_itself Valve = refl
kind_itself Pump = refl
kind_itself Compressor = refl
kind_itself Relief = refl

-- services for which the derived equality is true are equal
pub same_service : (a b : Service) → (services.eq-value).it a b ≡ true → a ≡ b
same_service Gas Gas h = refl
same_service Light Light h = refl
same_service Heavy Heavy h = refl
same_service Vacuum Vacuum h = refl
same_service Under300 Under300 h = refl
same_service a b h = absurd cc

-- a service equals itself
pub service_itself : (a : Service) → (services.eq-value).it a a ≡ true
service_itself Gas = refl
service_itself Light = refl
service_itself Heavy = refl
service_itself Vacuum = refl
service_itself Under300 = refl

-- designations for which the derived equality is true are equal
pub same_designation : (a b : Designation) → (designations.eq-value).it a b ≡ true → a ≡ b
same_designation Plain Plain h = refl
same_designation Nde Nde h = refl
same_designation Unsafe Unsafe h = refl
same_designation Difficult Difficult h = refl
same_designation a b h = absurd cc

-- a designation equals itself
pub designation_itself : (a : Designation) → (designations.eq-value).it a a ≡ true
designation_itself Plain = refl
designation_itself Nde = refl
designation_itself Unsafe = refl
designation_itself Difficult = refl

-- purposes for which the derived equality is true are equal
pub same_purpose : (a b : Purpose) → (purposes.eq-value).it a b ≡ true → a ≡ b
same_purpose Routine Routine h = refl
same_purpose FollowUp FollowUp h = refl
same_purpose a b h = absurd cc

-- a purpose equals itself
pub purpose_itself : (a : Purpose) → (purposes.eq-value).it a a ≡ true
purpose_itself Routine = refl
purpose_itself FollowUp = refl

-- states for which the derived equality is true are equal
pub same_state : (a b : VisualState) → (states.eq-value).it a b ≡ true → a ≡ b
same_state Dry Dry h = refl
same_state Drips Drips h = refl
same_state Designated Designated h = refl
same_state a b h = absurd cc

-- a state equals itself
pub state_itself : (a : VisualState) → (states.eq-value).it a a ≡ true
state_itself Dry = refl
state_itself Drips = refl
state_itself Designated = refl

-- indication kinds for which the derived equality is true are equal
pub same_sort : (a b : Sort) → (sorts.eq-value).it a b ≡ true → a ≡ b
same_sort Sensor Sensor h = refl
same_sort Evidence Evidence h = refl
same_sort a b h = absurd cc

-- an indication kind equals itself
pub sort_itself : (a : Sort) → (sorts.eq-value).it a a ≡ true
sort_itself Sensor = refl
sort_itself Evidence = refl

-- names for which the derived equality is true are equal
pub same_name : (a b : List ℕ) → (names.eq-value).it a b ≡ true → a ≡ b
same_name a b h =
    let parts = and_parts (pointwise eqb (spelled_name a) (spelled_name b)) (eqb (length a) (length b)) h in
    let bytes = same_text (spelled_name a) (spelled_name b) (sym parts.0) in
    let len = eqb-true (length a) (length b) parts.1 in
    sym (take_at a (replicate (12 - length a) 0) (length a) refl) ∙ ap (take (length a)) bytes
    ∙ take_at b (replicate (12 - length b) 0) (length a) (sym len)

-- classes for which the derived equality is true are equal
pub same_class : (a b : Class) → (classes.eq-value).it a b ≡ true → a ≡ b
same_class a b h = grind (arith, nat_tests, same_service, same_designation)

-- a class equals itself
pub class_itself : (a : Class) → (classes.eq-value).it a a ≡ true
class_itself a = grind (arith, nat_tests, service_itself, designation_itself)

-- six tests whose conjunction is true are all true
pub six : (a b c d e f : Bool) → (a && (b && (c && (d && (e && f))))) ≡ true
    → (a ≡ true) × (b ≡ true) × (c ≡ true) × (d ≡ true) × (e ≡ true) × (f ≡ true)
six a b c d e f h =
    let p = and_parts a (b && (c && (d && (e && f)))) h in
    let q = and_parts b (c && (d && (e && f))) p.1 in
    let r = and_parts c (d && (e && f)) q.1 in
    let s = and_parts d (e && f) r.1 in
    let t = and_parts e f s.1 in
    (p.0, q.0, r.0, s.0, t.0, t.1)

-- flags for which the derived equality is true are equal
pub same_flag : (a b : Bool) → beq a b ≡ true → a ≡ b
same_flag true true h = refl
same_flag false false h = refl
same_flag a b h = absurd cc

-- a flag equals itself
pub flag_itself : (a : Bool) → beq a a ≡ true
flag_itself true = refl
flag_itself false = refl

-- a list equals itself, element by element
pub pointwise_itself : {A : Type 0} (E : A → A → Bool) → ((a : A) → E a a ≡ true) → (xs : List A) → pointwise E xs xs ≡ true
pointwise_itself E itself [] = refl
pointwise_itself E itself (x ∷ xs) = and_from (E x x) (pointwise E xs xs) (itself x) (pointwise_itself E itself xs)

-- a name equals itself
pub name_itself : (a : List ℕ) → (names.eq-value).it a a ≡ true
name_itself a =
    and_from (pointwise eqb (spelled_name a) (spelled_name a)) (eqb (length a) (length a))
    (pointwise_itself eqb (λ n. eq-eqb n n refl) (spelled_name a)) (eq-eqb (length a) (length a) refl)
