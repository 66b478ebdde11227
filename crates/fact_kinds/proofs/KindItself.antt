-- Each fact body equals itself, kind by kind.
use Rattle.std.proofs.Common.{◌≡◌, ℕ, Bool, true, List, Option, arith}
use Rattle.std.proofs.lemmas.Bool.Decides.{nat_tests}
use Rattle.fact_kinds.specs.declared.class.Class.{Class}
use Rattle.fact_kinds.specs.declared.class.Kind.{Kind}
use Rattle.fact_kinds.specs.declared.body.Purpose.{Purpose}
use Rattle.fact_kinds.specs.declared.body.VisualState.{VisualState}
use Rattle.fact_kinds.specs.declared.body.Sort.{Sort}
use Rattle.fact_kinds.specs.declared.body.FactBody.{FactBody}
use Rattle.fact_kinds.specs.declared.body.FactBody.TheVariants.{Unit as UnitFact, Component as ComponentFact, Class as ClassFact, Retire, Election}
use Rattle.fact_kinds.specs.declared.body.FactBody.TheVariants.{Shutdown, Calibration, Precision, Drift, Reading, Visual, Attempt, Delay, Release}
use Rattle.fact_kinds.specs.declared.body.FactBody.TheVariants.{Indication}
use Rattle.fact_kinds.specs.contracts.body.FactBodyPartialEq.TheImpl as bodies
use Rattle.fact_kinds.proofs.FieldEquality.{kind_itself, purpose_itself, state_itself, sort_itself, class_itself}
use Rattle.fact_kinds.proofs.FieldEquality.{flag_itself, name_itself}

-- a unit's body equals itself
unit_fact_itself : (u : ℕ) (older : Bool) (name : List ℕ)
    → (bodies.eq-value).it (UnitFact u older name) (UnitFact u older name) ≡ true
unit_fact_itself u older name =
    grind (arith, nat_tests, name_itself, flag_itself, kind_itself, class_itself, purpose_itself, state_itself, sort_itself)

-- a component's body equals itself
component_fact_itself : (c : ℕ) (u : ℕ) (kind : Kind) (monomer : Bool) (replaces : Bool) (class : Class)
    → (bodies.eq-value).it (ComponentFact c u kind monomer replaces class) (ComponentFact c u kind monomer replaces class) ≡ true
component_fact_itself c u kind monomer replaces class =
    grind (arith, nat_tests, name_itself, flag_itself, kind_itself, class_itself, purpose_itself, state_itself, sort_itself)

-- a class's body equals itself
class_fact_itself : (c : ℕ) (class : Class)
    → (bodies.eq-value).it (ClassFact c class) (ClassFact c class) ≡ true
class_fact_itself c class =
    grind (arith, nat_tests, name_itself, flag_itself, kind_itself, class_itself, purpose_itself, state_itself, sort_itself)

-- a retirement's body equals itself
retire_fact_itself : (c : ℕ)
    → (bodies.eq-value).it (Retire c) (Retire c) ≡ true
retire_fact_itself c =
    grind (arith, nat_tests, name_itself, flag_itself, kind_itself, class_itself, purpose_itself, state_itself, sort_itself)

-- an election's body equals itself
election_fact_itself : (u : ℕ) (mode : ℕ) (notified : ℕ)
    → (bodies.eq-value).it (Election u mode notified) (Election u mode notified) ≡ true
election_fact_itself u mode notified =
    grind (arith, nat_tests, name_itself, flag_itself, kind_itself, class_itself, purpose_itself, state_itself, sort_itself)

-- a shutdown's body equals itself
shutdown_fact_itself : (u : ℕ) (days : ℕ)
    → (bodies.eq-value).it (Shutdown u days) (Shutdown u days) ≡ true
shutdown_fact_itself u days =
    grind (arith, nat_tests, name_itself, flag_itself, kind_itself, class_itself, purpose_itself, state_itself, sort_itself)

-- a calibration's body equals itself
calibration_fact_itself : (i : ℕ) (gas : ℕ)
    → (bodies.eq-value).it (Calibration i gas) (Calibration i gas) ≡ true
calibration_fact_itself i gas =
    grind (arith, nat_tests, name_itself, flag_itself, kind_itself, class_itself, purpose_itself, state_itself, sort_itself)

-- a precision test's body equals itself
precision_fact_itself : (i : ℕ) (value : ℕ) (readings : ℕ × ℕ × ℕ)
    → (bodies.eq-value).it (Precision i value readings) (Precision i value readings) ≡ true
precision_fact_itself i value readings =
    grind (arith, nat_tests, name_itself, flag_itself, kind_itself, class_itself, purpose_itself, state_itself, sort_itself)

-- a drift assessment's body equals itself
drift_fact_itself : (i : ℕ) (value : ℕ) (readings : ℕ × ℕ × ℕ)
    → (bodies.eq-value).it (Drift i value readings) (Drift i value readings) ≡ true
drift_fact_itself i value readings =
    grind (arith, nat_tests, name_itself, flag_itself, kind_itself, class_itself, purpose_itself, state_itself, sort_itself)

-- a reading's body equals itself
reading_fact_itself : (c : ℕ) (i : ℕ) (o : ℕ) (purpose : Purpose) (ppm : ℕ) (background : ℕ)
    → (bodies.eq-value).it (Reading c i o purpose ppm background) (Reading c i o purpose ppm background) ≡ true
reading_fact_itself c i o purpose ppm background =
    grind (arith, nat_tests, name_itself, flag_itself, kind_itself, class_itself, purpose_itself, state_itself, sort_itself)

-- a visual inspection's body equals itself
visual_fact_itself : (c : ℕ) (state : VisualState)
    → (bodies.eq-value).it (Visual c state) (Visual c state) ≡ true
visual_fact_itself c state =
    grind (arith, nat_tests, name_itself, flag_itself, kind_itself, class_itself, purpose_itself, state_itself, sort_itself)

-- an attempt's body equals itself
attempt_fact_itself : (c : ℕ) (complete : Bool)
    → (bodies.eq-value).it (Attempt c complete) (Attempt c complete) ≡ true
attempt_fact_itself c complete =
    grind (arith, nat_tests, name_itself, flag_itself, kind_itself, class_itself, purpose_itself, state_itself, sort_itself)

-- a delay's body equals itself
delay_fact_itself : (c : ℕ) (reason : ℕ) (signer : ℕ) (expected : Option ℕ)
    → (bodies.eq-value).it (Delay c reason signer expected) (Delay c reason signer expected) ≡ true
delay_fact_itself c reason signer expected =
    grind (arith, nat_tests, name_itself, flag_itself, kind_itself, class_itself, purpose_itself, state_itself, sort_itself)

-- a release's body equals itself
release_fact_itself : (c : ℕ)
    → (bodies.eq-value).it (Release c) (Release c) ≡ true
release_fact_itself c =
    grind (arith, nat_tests, name_itself, flag_itself, kind_itself, class_itself, purpose_itself, state_itself, sort_itself)

-- an indication's body equals itself
indication_fact_itself : (c : ℕ) (sort : Sort) (present : Bool)
    → (bodies.eq-value).it (Indication c sort present) (Indication c sort present) ≡ true
indication_fact_itself c sort present =
    grind (arith, nat_tests, name_itself, flag_itself, kind_itself, class_itself, purpose_itself, state_itself, sort_itself)

-- every body equals itself
pub body_itself : (a : FactBody) → (bodies.eq-value).it a a ≡ true
body_itself (UnitFact a b c) = unit_fact_itself a b c
body_itself (ComponentFact a b c d e f) = component_fact_itself a b c d e f
body_itself (ClassFact a b) = class_fact_itself a b
body_itself (Retire a) = retire_fact_itself a
body_itself (Election a b c) = election_fact_itself a b c
body_itself (Shutdown a b) = shutdown_fact_itself a b
body_itself (Calibration a b) = calibration_fact_itself a b
body_itself (Precision a b c) = precision_fact_itself a b c
body_itself (Drift a b c) = drift_fact_itself a b c
body_itself (Reading a b c d e f) = reading_fact_itself a b c d e f
body_itself (Visual a b) = visual_fact_itself a b
body_itself (Attempt a b) = attempt_fact_itself a b
body_itself (Delay a b c d) = delay_fact_itself a b c d
body_itself (Release a) = release_fact_itself a
body_itself (Indication a b c) = indication_fact_itself a b c
