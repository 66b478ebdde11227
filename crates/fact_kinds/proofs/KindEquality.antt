-- The derived equality of fact bodies is true only for equal bodies, and so only for bodies of the same kind.
-- It is proved kind by kind: one match over the pairs of fifteen kinds took half of the crate's check.
use Rattle.std.proofs.Common.{◌≡◌, ◌&&◌, ℕ, Bool, true, List, Option, eqb, arith}
use Rattle.std.proofs.lemmas.Bool.{false≢true, eqb-true, and_parts}
use Rattle.std.proofs.lemmas.Bool.Decides.{nat_tests}
use mathlib.Core.Bool.{beq}
use Rattle.fact_kinds.specs.declared.class.Class.{Class}
use Rattle.fact_kinds.specs.declared.class.Kind.{Kind}
use Rattle.fact_kinds.specs.declared.body.Purpose.{Purpose}
use Rattle.fact_kinds.specs.declared.body.VisualState.{VisualState}
use Rattle.fact_kinds.specs.declared.body.Sort.{Sort}
use Rattle.fact_kinds.specs.declared.body.FactBody.{FactBody}
use Rattle.fact_kinds.specs.declared.body.FactBody.TheVariants.{Unit as UnitFact, Component as ComponentFact, Class as ClassFact, Retire, Election}
use Rattle.fact_kinds.specs.declared.body.FactBody.TheVariants.{Shutdown, Calibration, Precision, Drift, Reading, Visual, Attempt, Delay, Release}
use Rattle.fact_kinds.specs.declared.body.FactBody.TheVariants.{Indication}
use Rattle.fact_kinds.specs.contracts.body.FactBodyPartialEq.TheImpl as bodies
use Rattle.fact_kinds.specs.contracts.class.ClassPartialEq.TheImpl as classes
use Rattle.fact_kinds.specs.contracts.class.KindPartialEq.TheImpl as kinds
use Rattle.fact_kinds.specs.contracts.name.NamePartialEq.TheImpl as names
use Rattle.fact_kinds.proofs.FieldEquality.{same_kind, same_class, same_purpose, same_state, same_sort, same_name, same_flag, six}

-- units for which the derived equality is true are equal
same_unit_fact : (u u' : ℕ) (older older' : Bool) (name name' : List ℕ)
    → (bodies.eq-value).it (UnitFact u older name) (UnitFact u' older' name') ≡ true
    → UnitFact u older name ≡ UnitFact u' older' name'
same_unit_fact u u' older older' name name' h =
    let a = and_parts (eqb u u') (beq older older' && (names.eq-value).it name name') h in
    let b = and_parts (beq older older') ((names.eq-value).it name name') a.1 in
    let unit = eqb-true u u' a.0 in
    let flags = same_flag older older' b.0 in
    let text = same_name name name' b.1 in
    cc

-- components for which the derived equality is true are equal
same_component_fact : (c c' : ℕ) (u u' : ℕ) (kind kind' : Kind) (monomer monomer' : Bool) (replaces replaces' : Bool) (class class' : Class)
    → (bodies.eq-value).it (ComponentFact c u kind monomer replaces class) (ComponentFact c' u' kind' monomer' replaces' class') ≡ true
    → ComponentFact c u kind monomer replaces class ≡ ComponentFact c' u' kind' monomer' replaces' class'
same_component_fact c c' u u' kind kind' monomer monomer' replaces replaces' class class' h =
    let t = six (eqb c c') (eqb u u') ((kinds.eq-value).it kind kind') (beq monomer monomer') (beq replaces replaces') ((classes.eq-value).it class class') h in
    let component = eqb-true c c' t.0 in
    let unit = eqb-true u u' t.1 in
    let kinds = same_kind kind kind' t.2 in
    let monomers = same_flag monomer monomer' t.3 in
    let replacing = same_flag replaces replaces' t.4 in
    let classes = same_class class class' t.5 in
    cc

-- classes for which the derived equality is true are equal
same_class_fact : (c c' : ℕ) (class class' : Class)
    → (bodies.eq-value).it (ClassFact c class) (ClassFact c' class') ≡ true
    → ClassFact c class ≡ ClassFact c' class'
same_class_fact c c' class class' h = grind (arith, nat_tests, same_kind, same_class, same_purpose, same_state, same_sort)

-- retirements for which the derived equality is true are equal
same_retire_fact : (c c' : ℕ)
    → (bodies.eq-value).it (Retire c) (Retire c') ≡ true
    → Retire c ≡ Retire c'
same_retire_fact c c' h = grind (arith, nat_tests, same_kind, same_class, same_purpose, same_state, same_sort)

-- elections for which the derived equality is true are equal
same_election_fact : (u u' : ℕ) (mode mode' : ℕ) (notified notified' : ℕ)
    → (bodies.eq-value).it (Election u mode notified) (Election u' mode' notified') ≡ true
    → Election u mode notified ≡ Election u' mode' notified'
same_election_fact u u' mode mode' notified notified' h = grind (arith, nat_tests, same_kind, same_class, same_purpose, same_state, same_sort)

-- shutdowns for which the derived equality is true are equal
same_shutdown_fact : (u u' : ℕ) (days days' : ℕ)
    → (bodies.eq-value).it (Shutdown u days) (Shutdown u' days') ≡ true
    → Shutdown u days ≡ Shutdown u' days'
same_shutdown_fact u u' days days' h = grind (arith, nat_tests, same_kind, same_class, same_purpose, same_state, same_sort)

-- calibrations for which the derived equality is true are equal
same_calibration_fact : (i i' : ℕ) (gas gas' : ℕ)
    → (bodies.eq-value).it (Calibration i gas) (Calibration i' gas') ≡ true
    → Calibration i gas ≡ Calibration i' gas'
same_calibration_fact i i' gas gas' h = grind (arith, nat_tests, same_kind, same_class, same_purpose, same_state, same_sort)

-- precision tests for which the derived equality is true are equal
same_precision_fact : (i i' : ℕ) (value value' : ℕ) (readings readings' : ℕ × ℕ × ℕ)
    → (bodies.eq-value).it (Precision i value readings) (Precision i' value' readings') ≡ true
    → Precision i value readings ≡ Precision i' value' readings'
same_precision_fact i i' value value' readings readings' h = grind (arith, nat_tests, same_kind, same_class, same_purpose, same_state, same_sort)

-- drift assessments for which the derived equality is true are equal
same_drift_fact : (i i' : ℕ) (value value' : ℕ) (readings readings' : ℕ × ℕ × ℕ)
    → (bodies.eq-value).it (Drift i value readings) (Drift i' value' readings') ≡ true
    → Drift i value readings ≡ Drift i' value' readings'
same_drift_fact i i' value value' readings readings' h = grind (arith, nat_tests, same_kind, same_class, same_purpose, same_state, same_sort)

-- readings for which the derived equality is true are equal
same_reading_fact : (c c' : ℕ) (i i' : ℕ) (o o' : ℕ) (purpose purpose' : Purpose) (ppm ppm' : ℕ) (background background' : ℕ)
    → (bodies.eq-value).it (Reading c i o purpose ppm background) (Reading c' i' o' purpose' ppm' background') ≡ true
    → Reading c i o purpose ppm background ≡ Reading c' i' o' purpose' ppm' background'
same_reading_fact c c' i i' o o' purpose purpose' ppm ppm' background background' h =
    grind (arith, nat_tests, same_kind, same_class, same_purpose, same_state, same_sort)

-- visual inspections for which the derived equality is true are equal
same_visual_fact : (c c' : ℕ) (state state' : VisualState)
    → (bodies.eq-value).it (Visual c state) (Visual c' state') ≡ true
    → Visual c state ≡ Visual c' state'
same_visual_fact c c' state state' h = grind (arith, nat_tests, same_kind, same_class, same_purpose, same_state, same_sort)

-- attempts for which the derived equality is true are equal
same_attempt_fact : (c c' : ℕ) (complete complete' : Bool)
    → (bodies.eq-value).it (Attempt c complete) (Attempt c' complete') ≡ true
    → Attempt c complete ≡ Attempt c' complete'
same_attempt_fact c c' complete complete' h = grind (arith, nat_tests, same_kind, same_class, same_purpose, same_state, same_sort)

-- delays for which the derived equality is true are equal
same_delay_fact : (c c' : ℕ) (reason reason' : ℕ) (signer signer' : ℕ) (expected expected' : Option ℕ)
    → (bodies.eq-value).it (Delay c reason signer expected) (Delay c' reason' signer' expected') ≡ true
    → Delay c reason signer expected ≡ Delay c' reason' signer' expected'
same_delay_fact c c' reason reason' signer signer' expected expected' h = grind (arith, nat_tests, same_kind, same_class, same_purpose, same_state, same_sort)

-- releases for which the derived equality is true are equal
same_release_fact : (c c' : ℕ)
    → (bodies.eq-value).it (Release c) (Release c') ≡ true
    → Release c ≡ Release c'
same_release_fact c c' h = grind (arith, nat_tests, same_kind, same_class, same_purpose, same_state, same_sort)

-- indications for which the derived equality is true are equal
same_indication_fact : (c c' : ℕ) (sort sort' : Sort) (present present' : Bool)
    → (bodies.eq-value).it (Indication c sort present) (Indication c' sort' present') ≡ true
    → Indication c sort present ≡ Indication c' sort' present'
same_indication_fact c c' sort sort' present present' h = grind (arith, nat_tests, same_kind, same_class, same_purpose, same_state, same_sort)

-- a body for which the derived equality with a unit is true equals it
unit_alone : (a : ℕ) (b : Bool) (c : List ℕ) (other : FactBody)
    → (bodies.eq-value).it (UnitFact a b c) other ≡ true → UnitFact a b c ≡ other
unit_alone a b c (UnitFact a' b' c') h = same_unit_fact a a' b b' c c' h
unit_alone a b c other h = absurd (false≢true h)

-- a body for which the derived equality with a component is true equals it
component_alone : (a : ℕ) (b : ℕ) (c : Kind) (d : Bool) (e : Bool) (f : Class) (other : FactBody)
    → (bodies.eq-value).it (ComponentFact a b c d e f) other ≡ true → ComponentFact a b c d e f ≡ other
component_alone a b c d e f (ComponentFact a' b' c' d' e' f') h = same_component_fact a a' b b' c c' d d' e e' f f' h
component_alone a b c d e f other h = absurd (false≢true h)

-- a body for which the derived equality with a class is true equals it
class_alone : (a : ℕ) (b : Class) (other : FactBody)
    → (bodies.eq-value).it (ClassFact a b) other ≡ true → ClassFact a b ≡ other
class_alone a b (ClassFact a' b') h = same_class_fact a a' b b' h
class_alone a b other h = absurd (false≢true h)

-- a body for which the derived equality with a retirement is true equals it
retire_alone : (a : ℕ) (other : FactBody)
    → (bodies.eq-value).it (Retire a) other ≡ true → Retire a ≡ other
retire_alone a (Retire a') h = same_retire_fact a a' h
retire_alone a other h = absurd (false≢true h)

-- a body for which the derived equality with an election is true equals it
election_alone : (a : ℕ) (b : ℕ) (c : ℕ) (other : FactBody)
    → (bodies.eq-value).it (Election a b c) other ≡ true → Election a b c ≡ other
election_alone a b c (Election a' b' c') h = same_election_fact a a' b b' c c' h
election_alone a b c other h = absurd (false≢true h)

-- a body for which the derived equality with a shutdown is true equals it
shutdown_alone : (a : ℕ) (b : ℕ) (other : FactBody)
    → (bodies.eq-value).it (Shutdown a b) other ≡ true → Shutdown a b ≡ other
shutdown_alone a b (Shutdown a' b') h = same_shutdown_fact a a' b b' h
shutdown_alone a b other h = absurd (false≢true h)

-- a body for which the derived equality with a calibration is true equals it
calibration_alone : (a : ℕ) (b : ℕ) (other : FactBody)
    → (bodies.eq-value).it (Calibration a b) other ≡ true → Calibration a b ≡ other
calibration_alone a b (Calibration a' b') h = same_calibration_fact a a' b b' h
calibration_alone a b other h = absurd (false≢true h)

-- a body for which the derived equality with a precision test is true equals it
precision_alone : (a : ℕ) (b : ℕ) (c : ℕ × ℕ × ℕ) (other : FactBody)
    → (bodies.eq-value).it (Precision a b c) other ≡ true → Precision a b c ≡ other
precision_alone a b c (Precision a' b' c') h = same_precision_fact a a' b b' c c' h
precision_alone a b c other h = absurd (false≢true h)

-- a body for which the derived equality with a drift assessment is true equals it
drift_alone : (a : ℕ) (b : ℕ) (c : ℕ × ℕ × ℕ) (other : FactBody)
    → (bodies.eq-value).it (Drift a b c) other ≡ true → Drift a b c ≡ other
drift_alone a b c (Drift a' b' c') h = same_drift_fact a a' b b' c c' h
drift_alone a b c other h = absurd (false≢true h)

-- a body for which the derived equality with a reading is true equals it
reading_alone : (a : ℕ) (b : ℕ) (c : ℕ) (d : Purpose) (e : ℕ) (f : ℕ) (other : FactBody)
    → (bodies.eq-value).it (Reading a b c d e f) other ≡ true → Reading a b c d e f ≡ other
reading_alone a b c d e f (Reading a' b' c' d' e' f') h = same_reading_fact a a' b b' c c' d d' e e' f f' h
reading_alone a b c d e f other h = absurd (false≢true h)

-- a body for which the derived equality with a visual inspection is true equals it
visual_alone : (a : ℕ) (b : VisualState) (other : FactBody)
    → (bodies.eq-value).it (Visual a b) other ≡ true → Visual a b ≡ other
visual_alone a b (Visual a' b') h = same_visual_fact a a' b b' h
visual_alone a b other h = absurd (false≢true h)

-- a body for which the derived equality with an attempt is true equals it
attempt_alone : (a : ℕ) (b : Bool) (other : FactBody)
    → (bodies.eq-value).it (Attempt a b) other ≡ true → Attempt a b ≡ other
attempt_alone a b (Attempt a' b') h = same_attempt_fact a a' b b' h
attempt_alone a b other h = absurd (false≢true h)

-- a body for which the derived equality with a delay is true equals it
delay_alone : (a : ℕ) (b : ℕ) (c : ℕ) (d : Option ℕ) (other : FactBody)
    → (bodies.eq-value).it (Delay a b c d) other ≡ true → Delay a b c d ≡ other
delay_alone a b c d (Delay a' b' c' d') h = same_delay_fact a a' b b' c c' d d' h
delay_alone a b c d other h = absurd (false≢true h)

-- a body for which the derived equality with a release is true equals it
release_alone : (a : ℕ) (other : FactBody)
    → (bodies.eq-value).it (Release a) other ≡ true → Release a ≡ other
release_alone a (Release a') h = same_release_fact a a' h
release_alone a other h = absurd (false≢true h)

-- a body for which the derived equality with an indication is true equals it
indication_alone : (a : ℕ) (b : Sort) (c : Bool) (other : FactBody)
    → (bodies.eq-value).it (Indication a b c) other ≡ true → Indication a b c ≡ other
indication_alone a b c (Indication a' b' c') h = same_indication_fact a a' b b' c c' h
indication_alone a b c other h = absurd (false≢true h)

-- Bodies for which the derived equality is true are equal: one case for each kind, from the lemmas above.
pub same_body : (a b : FactBody) → (bodies.eq-value).it a b ≡ true → a ≡ b
same_body (UnitFact a b c) other h = unit_alone a b c other h
same_body (ComponentFact a b c d e f) other h = component_alone a b c d e f other h
same_body (ClassFact a b) other h = class_alone a b other h
same_body (Retire a) other h = retire_alone a other h
same_body (Election a b c) other h = election_alone a b c other h
same_body (Shutdown a b) other h = shutdown_alone a b other h
same_body (Calibration a b) other h = calibration_alone a b other h
same_body (Precision a b c) other h = precision_alone a b c other h
same_body (Drift a b c) other h = drift_alone a b c other h
same_body (Reading a b c d e f) other h = reading_alone a b c d e f other h
same_body (Visual a b) other h = visual_alone a b other h
same_body (Attempt a b) other h = attempt_alone a b other h
same_body (Delay a b c d) other h = delay_alone a b c d other h
same_body (Release a) other h = release_alone a other h
same_body (Indication a b c) other h = indication_alone a b c other h
