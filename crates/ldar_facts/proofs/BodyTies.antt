-- The form of each kind agrees with its row of the table: it has the same texts, and every fact of the kind has one.
use Rattle.std.proofs.Common.{◌≡◌, ℕ, ◌<◌, ◌≤◌, Bool, true, false, refl, sym, subst, arith}
use Rattle.std.specs.Prelude.{◌==◌}
use Rattle.std.specs.List.{AllByRecursion}
use Rattle.std.proofs.lemmas.Bool.{eqb-true, eqb-false}
use Rattle.std.proofs.lemmas.List.{append-nil}
use Rattle.fact_kinds.specs.declared.body.FactBody.{FactBody}
use Rattle.fact_kinds.specs.declared.body.FactBody.TheVariants.{Unit as UnitFact, Component as ComponentFact, Class as ClassFact, Retire, Election}
use Rattle.fact_kinds.specs.declared.body.FactBody.TheVariants.{Shutdown, Calibration, Precision, Drift, Reading, Visual, Attempt, Delay, Release}
use Rattle.fact_kinds.specs.declared.body.FactBody.TheVariants.{Indication}
use Rattle.fact_kinds.specs.Fields.{IsFilled, IsAmong, fact_kinds, body_number, body_fields}
use Rattle.ldar_facts.specs.Grammar.{spelled}
use Rattle.ldar_facts.specs.Form.{Form}
use Rattle.ldar_facts.specs.Compose.{either}
use Rattle.ldar_facts.specs.FactForms as forms
use Rattle.ldar_facts.proofs.FieldTies as field

-- the texts of the form are the bytes of a kind's fields
pub record IsKind (form : Form FactBody) (kind : ℕ) : Type 0 where
  pub number : (p : form.Path) → body_number (form.value p) ≡ kind
  pub filled : (p : form.Path) → AllByRecursion IsFilled (body_fields (form.value p))
  pub text : (p : form.Path) → form.text p ≡ spelled (body_fields (form.value p))

-- a process unit's bytes are those of kind 1
unit_fact : IsKind forms.unit_fact 1
unfolding forms.unit_fact
unit_fact = record {
  number = λ p. refl;
  filled = λ p. (field.unit.filled p.0, (field.flag.filled p.1.0, (field.unit_name.filled p.1.1.0, tt)));
  text = λ p. rw (field.unit.text p.0, field.flag.text p.1.0, field.unit_name.text p.1.1.0);
}

-- a component's bytes are those of kind 2
component_fact : IsKind forms.component_fact 2
unfolding forms.component_fact
component_fact = record {
  number = λ p. refl;
  filled = λ p. (
    field.component.filled p.0,
    (field.unit.filled p.1.0, (field.kind.filled p.1.1.0, (field.flag.filled p.1.1.1.0, (field.flag.filled p.1.1.1.1.0, field.class.filled p.1.1.1.1.1.0)))),
  );
  text = λ p. rw (
    field.component.text p.0,
    field.unit.text p.1.0,
    field.kind.text p.1.1.0,
    field.flag.text p.1.1.1.0,
    field.flag.text p.1.1.1.1.0,
    field.class.text p.1.1.1.1.1.0,
    append-nil,
  );
}

-- a class's bytes are those of kind 3
class_fact : IsKind forms.class_fact 3
unfolding forms.class_fact
class_fact = record {
  number = λ p. refl;
  filled = λ p. (field.component.filled p.0, field.class.filled p.1.0);
  text = λ p. rw (field.component.text p.0, field.class.text p.1.0, append-nil);
}

-- a retirement's bytes are those of kind 4
retire : IsKind forms.retire 4
unfolding forms.retire
retire = record {
  number = λ p. refl;
  filled = λ p. (field.component.filled p.0, tt);
  text = λ p. rw (field.component.text p.0);
}

-- an election's bytes are those of kind 5
election : IsKind forms.election 5
unfolding forms.election
election = record {
  number = λ p. refl;
  filled = λ p. (field.unit.filled p.0, (field.mode.filled p.1.0, (field.day.filled p.1.1.0, tt)));
  text = λ p. rw (field.unit.text p.0, field.mode.text p.1.0, field.day.text p.1.1.0);
}

-- a shutdown's bytes are those of kind 6
shutdown : IsKind forms.shutdown 6
unfolding forms.shutdown
shutdown = record {
  number = λ p. refl;
  filled = λ p. (field.unit.filled p.0, (field.shutdown_length.filled p.1.0, tt));
  text = λ p. rw (field.unit.text p.0, field.shutdown_length.text p.1.0);
}

-- a calibration's bytes are those of kind 7
calibration : IsKind forms.calibration 7
unfolding forms.calibration
calibration = record {
  number = λ p. refl;
  filled = λ p. (field.instrument.filled p.0, (field.known_value.filled p.1.0, tt));
  text = λ p. rw (field.instrument.text p.0, field.known_value.text p.1.0);
}

-- a precision test's bytes are those of kind 8
precision : IsKind forms.precision 8
unfolding forms.precision
precision = record {
  number = λ p. refl;
  filled = λ p. (field.instrument.filled p.0, (field.known_value.filled p.1.0, field.readings.filled p.1.1.0));
  text = λ p. rw (field.instrument.text p.0, field.known_value.text p.1.0, field.readings.text p.1.1.0, append-nil);
}

-- a drift assessment's bytes are those of kind 9
drift : IsKind forms.drift 9
unfolding forms.drift
drift = record {
  number = λ p. refl;
  filled = λ p. (field.instrument.filled p.0, (field.known_value.filled p.1.0, field.readings.filled p.1.1.0));
  text = λ p. rw (field.instrument.text p.0, field.known_value.text p.1.0, field.readings.text p.1.1.0, append-nil);
}

-- a reading's bytes are those of kind 10
reading : IsKind forms.reading 10
unfolding forms.reading
reading = record {
  number = λ p. refl;
  filled = λ p. (
    field.component.filled p.0,
    (
      field.number_or_none.filled p.1.0,
      (
        field.number_or_none.filled p.1.1.0,
        (field.purpose.filled p.1.1.1.0, (field.concentration.filled p.1.1.1.1.0, (field.concentration.filled p.1.1.1.1.1.0, tt))),
      ),
    ),
  );
  text = λ p. rw (
    field.component.text p.0,
    field.number_or_none.text p.1.0,
    field.number_or_none.text p.1.1.0,
    field.purpose.text p.1.1.1.0,
    field.concentration.text p.1.1.1.1.0,
    field.concentration.text p.1.1.1.1.1.0,
  );
}

-- a visual inspection's bytes are those of kind 11
visual : IsKind forms.visual 11
unfolding forms.visual
visual = record {
  number = λ p. refl;
  filled = λ p. (field.component.filled p.0, (field.state.filled p.1.0, tt));
  text = λ p. rw (field.component.text p.0, field.state.text p.1.0);
}

-- an attempt's bytes are those of kind 12
attempt : IsKind forms.attempt 12
unfolding forms.attempt
attempt = record {
  number = λ p. refl;
  filled = λ p. (field.component.filled p.0, (field.flag.filled p.1.0, tt));
  text = λ p. rw (field.component.text p.0, field.flag.text p.1.0);
}

-- a delay's bytes are those of kind 13
delay : IsKind forms.delay 13
unfolding forms.delay
delay = record {
  number = λ p. refl;
  filled = λ p. (
    field.component.filled p.0,
    (field.delay_ground.filled p.1.0, (field.number_or_none.filled p.1.1.0, (field.day_or_none.filled p.1.1.1.0, tt))),
  );
  text = λ p. rw (field.component.text p.0, field.delay_ground.text p.1.0, field.number_or_none.text p.1.1.0, field.day_or_none.text p.1.1.1.0);
}

-- a release's bytes are those of kind 14
release : IsKind forms.release 14
unfolding forms.release
release = record {
  number = λ p. refl;
  filled = λ p. (field.component.filled p.0, tt);
  text = λ p. rw (field.component.text p.0);
}

-- an indication's bytes are those of kind 15
indication : IsKind forms.indication 15
unfolding forms.indication
indication = record {
  number = λ p. refl;
  filled = λ p. (field.component.filled p.0, (field.sort.filled p.1.0, (field.flag.filled p.1.1.0, tt)));
  text = λ p. rw (field.component.text p.0, field.sort.text p.1.0, field.flag.text p.1.1.0);
}

-- ---- by the number of the kind

-- a choice by the number of the kind: this number, or a greater one
or_later : (kind n : ℕ) (form later : Form FactBody) → n ≤ kind → IsKind form n → (n < kind → IsKind later kind) → IsKind (either (kind == n) form later) kind
or_later kind n form later le here there = go (kind == n) refl
  where
    go : (test : Bool) → (kind == n) ≡ test → IsKind (either test form later) kind
    go true e =
        let is = subst (λ k. IsKind form k) (sym (eqb-true kind n e)) here in
        record { number = is.number; filled = is.filled; text = is.text }
    go false e =
        let not_here = eqb-false kind n e in
        let is = there (omega arith) in
        record { number = is.number; filled = is.filled; text = is.text }

-- the form of each kind has the bytes of that kind
pub body : (kind : ℕ) → IsAmong kind fact_kinds → IsKind (forms.body kind) kind
unfolding forms.body
body kind among =
    or_later kind 1 forms.unit_fact _ (omega (arith, among)) unit_fact (λ past_1.
    or_later kind 2 forms.component_fact _ (omega arith) component_fact (λ past_2.
    or_later kind 3 forms.class_fact _ (omega arith) class_fact (λ past_3.
    or_later kind 4 forms.retire _ (omega arith) retire (λ past_4.
    or_later kind 5 forms.election _ (omega arith) election (λ past_5.
    or_later kind 6 forms.shutdown _ (omega arith) shutdown (λ past_6.
    or_later kind 7 forms.calibration _ (omega arith) calibration (λ past_7.
    or_later kind 8 forms.precision _ (omega arith) precision (λ past_8.
    or_later kind 9 forms.drift _ (omega arith) drift (λ past_9.
    or_later kind 10 forms.reading _ (omega arith) reading (λ past_10.
    or_later kind 11 forms.visual _ (omega arith) visual (λ past_11.
    or_later kind 12 forms.attempt _ (omega arith) attempt (λ past_12.
    or_later kind 13 forms.delay _ (omega arith) delay (λ past_13.
    or_later kind 14 forms.release _ (omega arith) release (λ past_14.
    let last : 15 ≡ kind = omega (arith, among) in subst (IsKind forms.indication) last indication))))))))))))))

-- ---- each fact is read

-- every fact body in its ranges has a path through the form of its kind
pub path : (b : FactBody) → AllByRecursion IsFilled (body_fields b) → (p : (forms.body (body_number b)).Path) × ((forms.body (body_number b)).value p ≡ b)
unfolding forms.body forms.unit_fact forms.component_fact forms.class_fact forms.retire forms.election forms.shutdown forms.calibration forms.precision
    forms.drift forms.reading forms.visual forms.attempt forms.delay forms.release forms.indication
path (UnitFact unit older name) h =
    let p0 = field.unit.path unit h.0 in
    let p1 = field.flag.path older h.1.0 in
    let p2 = field.unit_name.path name h.1.1.0 in
    ((p0.0, (p1.0, (p2.0, tt))), rw (p0.1, p1.1, p2.1))
path (ComponentFact component unit kind monomer replaces class) h =
    let p0 = field.component.path component h.0 in
    let p1 = field.unit.path unit h.1.0 in
    let p2 = field.kind.path kind h.1.1.0 in
    let p3 = field.flag.path monomer h.1.1.1.0 in
    let p4 = field.flag.path replaces h.1.1.1.1.0 in
    let p5 = field.class.path class h.1.1.1.1.1 in
    ((p0.0, (p1.0, (p2.0, (p3.0, (p4.0, (p5.0, tt)))))), rw (p0.1, p1.1, p2.1, p3.1, p4.1, p5.1))
path (ClassFact component class) h =
    let p0 = field.component.path component h.0 in
    let p1 = field.class.path class h.1 in
    ((p0.0, (p1.0, tt)), rw (p0.1, p1.1))
path (Retire component) h =
    let p0 = field.component.path component h.0 in
    ((p0.0, tt), rw (p0.1))
path (Election unit mode notified) h =
    let p0 = field.unit.path unit h.0 in
    let p1 = field.mode.path mode h.1.0 in
    let p2 = field.day.path notified h.1.1.0 in
    ((p0.0, (p1.0, (p2.0, tt))), rw (p0.1, p1.1, p2.1))
path (Shutdown unit days) h =
    let p0 = field.unit.path unit h.0 in
    let p1 = field.shutdown_length.path days h.1.0 in
    ((p0.0, (p1.0, tt)), rw (p0.1, p1.1))
path (Calibration instrument gas) h =
    let p0 = field.instrument.path instrument h.0 in
    let p1 = field.known_value.path gas h.1.0 in
    ((p0.0, (p1.0, tt)), rw (p0.1, p1.1))
path (Precision instrument value readings) h =
    let p0 = field.instrument.path instrument h.0 in
    let p1 = field.known_value.path value h.1.0 in
    let p2 = field.readings.path readings h.1.1 in
    ((p0.0, (p1.0, (p2.0, tt))), rw (p0.1, p1.1, p2.1))
path (Drift instrument value readings) h =
    let p0 = field.instrument.path instrument h.0 in
    let p1 = field.known_value.path value h.1.0 in
    let p2 = field.readings.path readings h.1.1 in
    ((p0.0, (p1.0, (p2.0, tt))), rw (p0.1, p1.1, p2.1))
path (Reading component instrument operator purpose ppm background) h =
    let p0 = field.component.path component h.0 in
    let p1 = field.number_or_none.path instrument h.1.0 in
    let p2 = field.number_or_none.path operator h.1.1.0 in
    let p3 = field.purpose.path purpose h.1.1.1.0 in
    let p4 = field.concentration.path ppm h.1.1.1.1.0 in
    let p5 = field.concentration.path background h.1.1.1.1.1.0 in
    ((p0.0, (p1.0, (p2.0, (p3.0, (p4.0, (p5.0, tt)))))), rw (p0.1, p1.1, p2.1, p3.1, p4.1, p5.1))
path (Visual component state) h =
    let p0 = field.component.path component h.0 in
    let p1 = field.state.path state h.1.0 in
    ((p0.0, (p1.0, tt)), rw (p0.1, p1.1))
path (Attempt component complete) h =
    let p0 = field.component.path component h.0 in
    let p1 = field.flag.path complete h.1.0 in
    ((p0.0, (p1.0, tt)), rw (p0.1, p1.1))
path (Delay component reason signer expected) h =
    let p0 = field.component.path component h.0 in
    let p1 = field.delay_ground.path reason h.1.0 in
    let p2 = field.number_or_none.path signer h.1.1.0 in
    let p3 = field.day_or_none.path expected h.1.1.1.0 in
    ((p0.0, (p1.0, (p2.0, (p3.0, tt)))), rw (p0.1, p1.1, p2.1, p3.1))
path (Release component) h =
    let p0 = field.component.path component h.0 in
    ((p0.0, tt), rw (p0.1))
path (Indication component sort present) h =
    let p0 = field.component.path component h.0 in
    let p1 = field.sort.path sort h.1.0 in
    let p2 = field.flag.path present h.1.1.0 in
    ((p0.0, (p1.0, (p2.0, tt))), rw (p0.1, p1.1, p2.1))
