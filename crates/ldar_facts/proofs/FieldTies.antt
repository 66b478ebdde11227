-- The form of each field agrees with the table: it has the same texts, and every value in the range has one.
use Rattle.std.proofs.Common.{◌≡◌, ℕ, zero, suc, Bool, true, false, List, Option, Some, None, refl, sym, subst, inl, inr, arith}
use Rattle.std.specs.Prelude.{if◌then◌else◌, ◌==◌}
use Rattle.std.specs.List.{AllByRecursion}
use Rattle.std.proofs.lemmas.Bool.{ne_eqb}
use Rattle.fact_kinds.specs.declared.class.Class.{Class}
use Rattle.fact_kinds.specs.declared.class.Kind.{Kind}
use Rattle.fact_kinds.specs.declared.class.Kind.TheVariants.{Valve, Pump, Compressor, Relief}
use Rattle.fact_kinds.specs.declared.class.Service.{Service}
use Rattle.fact_kinds.specs.declared.class.Service.TheVariants.{Gas, Light, Heavy, Vacuum, Under300}
use Rattle.fact_kinds.specs.declared.class.Designation.{Designation}
use Rattle.fact_kinds.specs.declared.class.Designation.TheVariants.{Plain, Nde, Unsafe, Difficult}
use Rattle.fact_kinds.specs.declared.body.Purpose.{Purpose}
use Rattle.fact_kinds.specs.declared.body.Purpose.TheVariants.{Routine, FollowUp}
use Rattle.fact_kinds.specs.declared.body.VisualState.{VisualState}
use Rattle.fact_kinds.specs.declared.body.VisualState.TheVariants.{Dry, Drips, Designated}
use Rattle.fact_kinds.specs.declared.body.Sort.{Sort}
use Rattle.fact_kinds.specs.declared.body.Sort.TheVariants.{Sensor, Evidence}
use Rattle.fact_kinds.specs.Fields as fields
use Rattle.fact_kinds.specs.Fields.{Field, number, name, IsAmong, IsFilled, bytes_of, big_endian}
use Rattle.ldar_facts.specs.Form.{Form}
use Rattle.ldar_facts.specs.Grammar.{spelled}
use Rattle.ldar_facts.specs.Letters.{name_form}
use Rattle.ldar_facts.proofs.NameForm.{name_text, name_path}
use Rattle.ldar_facts.specs.FieldForms as forms

-- the texts of the form are the bytes of the field
pub record IsField {A : Type 0} (form : Form A) (field : A → Field) : Type 0 where
  pub filled : (p : form.Path) → IsFilled (field (form.value p))
  pub text : (p : form.Path) → form.text p ≡ bytes_of (field (form.value p))
  pub path : (a : A) → IsFilled (field a) → (p : form.Path) × (form.value p ≡ a)

-- ---- numbers

-- a component's number
pub component : IsField forms.component fields.component
unfolding forms.component
component = record { filled = λ p. p.1; text = λ p. refl; path = λ n among. ((n, among), refl) }

-- a process unit's number
pub unit : IsField forms.unit fields.unit
unfolding forms.unit
unit = record { filled = λ p. p.1; text = λ p. refl; path = λ n among. ((n, among), refl) }

-- an instrument's number
pub instrument : IsField forms.instrument fields.instrument
unfolding forms.instrument
instrument = record { filled = λ p. p.1; text = λ p. refl; path = λ n among. ((n, among), refl) }

-- the number of an instrument or a person, or 0 for none
pub number_or_none : IsField forms.number_or_none fields.number_or_none
unfolding forms.number_or_none
number_or_none = record { filled = λ p. p.1; text = λ p. refl; path = λ n among. ((n, among), refl) }

-- a concentration of a reading
pub concentration : IsField forms.concentration fields.concentration
unfolding forms.concentration
concentration = record { filled = λ p. p.1; text = λ p. refl; path = λ n among. ((n, among), refl) }

-- a concentration of a calibration gas
pub known_value : IsField forms.known_value fields.known_value
unfolding forms.known_value
known_value = record { filled = λ p. p.1; text = λ p. refl; path = λ n among. ((n, among), refl) }

-- a day
pub day : IsField forms.day (number 2 fields.days)
unfolding forms.day
day = record { filled = λ p. p.1; text = λ p. refl; path = λ n among. ((n, among), refl) }

-- a minute
pub minute : IsField forms.minute (number 2 fields.minutes)
unfolding forms.minute
minute = record { filled = λ p. p.1; text = λ p. refl; path = λ n among. ((n, among), refl) }

-- the kind of a fact
pub fact_kind : IsField forms.fact_kind (number 1 fields.fact_kinds)
unfolding forms.fact_kind
fact_kind = record { filled = λ p. p.1; text = λ p. refl; path = λ n among. ((n, among), refl) }

-- a month of a quarter
pub month : IsField forms.month (number 1 fields.months)
unfolding forms.month
month = record { filled = λ p. p.1; text = λ p. refl; path = λ n among. ((n, among), refl) }

-- a skip period program
pub mode : IsField forms.mode (number 1 fields.modes)
unfolding forms.mode
mode = record { filled = λ p. p.1; text = λ p. refl; path = λ n among. ((n, among), refl) }

-- the days of a shutdown
pub shutdown_length : IsField forms.shutdown_length (number 2 fields.shutdown_lengths)
unfolding forms.shutdown_length
shutdown_length = record { filled = λ p. p.1; text = λ p. refl; path = λ n among. ((n, among), refl) }

-- the ground of a delay
pub delay_ground : IsField forms.delay_ground (number 1 fields.grounds)
unfolding forms.delay_ground
delay_ground = record { filled = λ p. p.1; text = λ p. refl; path = λ n among. ((n, among), refl) }

-- the months of a plan, for each designation
pub plan : (d : Designation) → IsField (forms.plan d) (number 1 (fields.plans d))
unfolding forms.plan
plan d = record { filled = λ p. p.1; text = λ p. refl; path = λ n among. ((n, among), refl) }

-- ---- names

-- a process unit's name in its twelve bytes
pub unit_name : IsField name_form name
unit_name = record { filled = λ p. (name_text p).0; text = λ p. (name_text p).1; path = name_path }

-- ---- numbers with a meaning: there and back

-- the number of a flag
abbrev flag_number : Bool → ℕ
flag_number b = if b then 1 else 0

-- a number in the range is that of its flag
flag_is : (n : ℕ) → IsAmong n fields.flags → flag_number (n == 1) ≡ n
flag_is zero h = refl
flag_is (suc zero) h = refl
flag_is (suc (suc n)) h = absurd (omega (arith, h))

-- a flag is that of its number
is_flag : (x : Bool) → (flag_number x == 1) ≡ x
is_flag false = refl
is_flag true = refl

-- a flag
pub flag : IsField forms.flag fields.flag
unfolding forms.flag
flag = record {
  filled = λ p. rw (flag_is p.0.0 p.0.1) p.0.1;
  text = λ p. rw (flag_is p.0.0 p.0.1);
  path = λ x among. (((flag_number x, among), tt), is_flag x);
}

-- a number in the range is that of its type of component
kind_is : (n : ℕ) → IsAmong n fields.component_kinds → fields.kind_number (forms.kind_of n) ≡ n
kind_is zero h = absurd (omega (arith, h))
kind_is (suc zero) h = refl
kind_is (suc (suc zero)) h = refl
kind_is (suc (suc (suc zero))) h = refl
kind_is (suc (suc (suc (suc zero)))) h = refl
kind_is (suc (suc (suc (suc (suc n))))) h = absurd (omega (arith, h))

-- a type of component is that of its number
is_kind : (x : Kind) → forms.kind_of (fields.kind_number x) ≡ x
is_kind Valve = refl
is_kind Pump = refl
is_kind Compressor = refl
is_kind Relief = refl

-- a component's type
pub kind : IsField forms.kind (λ x. number 1 fields.component_kinds (fields.kind_number x))
unfolding forms.kind
kind = record {
  filled = λ p. rw (kind_is p.0.0 p.0.1) p.0.1;
  text = λ p. rw (kind_is p.0.0 p.0.1);
  path = λ x among. (((fields.kind_number x, among), tt), is_kind x);
}

-- a number in the range is that of its service
service_is : (n : ℕ) → IsAmong n fields.services → fields.service_number (forms.service_of n) ≡ n
service_is zero h = absurd (omega (arith, h))
service_is (suc zero) h = refl
service_is (suc (suc zero)) h = refl
service_is (suc (suc (suc zero))) h = refl
service_is (suc (suc (suc (suc zero)))) h = refl
service_is (suc (suc (suc (suc (suc zero))))) h = refl
service_is (suc (suc (suc (suc (suc (suc n)))))) h = absurd (omega (arith, h))

-- a service is that of its number
is_service : (x : Service) → forms.service_of (fields.service_number x) ≡ x
is_service Gas = refl
is_service Light = refl
is_service Heavy = refl
is_service Vacuum = refl
is_service Under300 = refl

-- a component's service
pub service : IsField forms.service (λ x. number 1 fields.services (fields.service_number x))
unfolding forms.service
service = record {
  filled = λ p. rw (service_is p.0.0 p.0.1) p.0.1;
  text = λ p. rw (service_is p.0.0 p.0.1);
  path = λ x among. (((fields.service_number x, among), tt), is_service x);
}

-- a number in the range is that of its designation
designation_is : (n : ℕ) → IsAmong n fields.designations → fields.designation_number (forms.designation_of n) ≡ n
designation_is zero h = refl
designation_is (suc zero) h = refl
designation_is (suc (suc zero)) h = refl
designation_is (suc (suc (suc zero))) h = refl
designation_is (suc (suc (suc (suc n)))) h = absurd (omega (arith, h))

-- a designation is that of its number
is_designation : (x : Designation) → forms.designation_of (fields.designation_number x) ≡ x
is_designation Plain = refl
is_designation Nde = refl
is_designation Unsafe = refl
is_designation Difficult = refl

-- a component's designation
pub designation : IsField forms.designation (λ x. number 1 fields.designations (fields.designation_number x))
unfolding forms.designation
designation = record {
  filled = λ p. rw (designation_is p.0.0 p.0.1) p.0.1;
  text = λ p. rw (designation_is p.0.0 p.0.1);
  path = λ x among. (((fields.designation_number x, among), tt), is_designation x);
}

-- a number in the range is that of its purpose
purpose_is : (n : ℕ) → IsAmong n fields.purposes → fields.purpose_number (forms.purpose_of n) ≡ n
purpose_is zero h = absurd (omega (arith, h))
purpose_is (suc zero) h = refl
purpose_is (suc (suc zero)) h = refl
purpose_is (suc (suc (suc n))) h = absurd (omega (arith, h))

-- a purpose is that of its number
is_purpose : (x : Purpose) → forms.purpose_of (fields.purpose_number x) ≡ x
is_purpose Routine = refl
is_purpose FollowUp = refl

-- a reading's purpose
pub purpose : IsField forms.purpose (λ x. number 1 fields.purposes (fields.purpose_number x))
unfolding forms.purpose
purpose = record {
  filled = λ p. rw (purpose_is p.0.0 p.0.1) p.0.1;
  text = λ p. rw (purpose_is p.0.0 p.0.1);
  path = λ x among. (((fields.purpose_number x, among), tt), is_purpose x);
}

-- a number in the range is that of its state
state_is : (n : ℕ) → IsAmong n fields.visual_states → fields.state_number (forms.state_of n) ≡ n
state_is zero h = refl
state_is (suc zero) h = refl
state_is (suc (suc zero)) h = refl
state_is (suc (suc (suc n))) h = absurd (omega (arith, h))

-- a state is that of its number
is_state : (x : VisualState) → forms.state_of (fields.state_number x) ≡ x
is_state Dry = refl
is_state Drips = refl
is_state Designated = refl

-- a visual inspection's result
pub state : IsField forms.state (λ x. number 1 fields.visual_states (fields.state_number x))
unfolding forms.state
state = record {
  filled = λ p. rw (state_is p.0.0 p.0.1) p.0.1;
  text = λ p. rw (state_is p.0.0 p.0.1);
  path = λ x among. (((fields.state_number x, among), tt), is_state x);
}

-- a number in the range is that of its indication kind
sort_is : (n : ℕ) → IsAmong n fields.sorts → fields.sort_number (forms.sort_of n) ≡ n
sort_is zero h = absurd (omega (arith, h))
sort_is (suc zero) h = refl
sort_is (suc (suc zero)) h = refl
sort_is (suc (suc (suc n))) h = absurd (omega (arith, h))

-- an indication kind is that of its number
is_sort : (x : Sort) → forms.sort_of (fields.sort_number x) ≡ x
is_sort Sensor = refl
is_sort Evidence = refl

-- an indication's kind
pub sort : IsField forms.sort (λ x. number 1 fields.sorts (fields.sort_number x))
unfolding forms.sort
sort = record {
  filled = λ p. rw (sort_is p.0.0 p.0.1) p.0.1;
  text = λ p. rw (sort_is p.0.0 p.0.1);
  path = λ x among. (((fields.sort_number x, among), tt), is_sort x);
}

-- ---- a day or none

-- a number in the range of a day or none is the field of its day
expected_filled : (n : ℕ) → IsAmong n fields.days_or_none → IsFilled (fields.day_or_none (forms.expected_of n)) ×
    (big_endian 2 n ≡ bytes_of (fields.day_or_none (forms.expected_of n)))
expected_filled n (inl none) = let is : n ≡ 0 = omega (arith, none) in rw is ((omega arith, omega arith), refl)
expected_filled n (inr is_day) = let positive : (n ≡ 0) → ⊥ = λ is. omega (arith, is_day) in rw (ne_eqb n 0 positive) (is_day, refl)

-- each day in the range, and none, has a path
expected_path : (o : Option ℕ) → IsFilled (fields.day_or_none o) → (p : (forms.day_or_none).Path) × ((forms.day_or_none).value p ≡ o)
unfolding forms.day_or_none
expected_path None filled = (((0, inl filled), tt), refl)
expected_path (Some day) filled = let positive : (day ≡ 0) → ⊥ = λ is. omega (arith, filled) in (((day, inr filled), tt), rw (ne_eqb day 0 positive) refl)

-- a day, or none
pub day_or_none : IsField forms.day_or_none fields.day_or_none
unfolding forms.day_or_none
day_or_none = record {
  filled = λ p. (expected_filled p.0.0 p.0.1).0;
  text = λ p. (expected_filled p.0.0 p.0.1).1;
  path = expected_path;
}

-- ---- several fields

-- the texts of the form are the bytes of some fields
pub record AreFields {A : Type 0} (form : Form A) (fields : A → List Field) : Type 0 where
  pub filled : (p : form.Path) → AllByRecursion IsFilled (fields (form.value p))
  pub text : (p : form.Path) → form.text p ≡ spelled (fields (form.value p))
  pub path : (a : A) → AllByRecursion IsFilled (fields a) → (p : form.Path) × (form.value p ≡ a)

-- the class with these four fields
abbrev class_with : Service → Designation → ℕ → ℕ → Class
class_with s d p m = record { service = s; designation = d; plan = p; month = m }

-- classes with equal fields are equal
same_class : (s s' : Service) (d d' : Designation) (p p' m m' : ℕ) → s ≡ s' → d ≡ d' → p ≡ p' → m ≡ m' → class_with s d p m ≡ class_with s' d' p' m'
same_class s s' d d' p p' m m' a b c e = cc

-- the class of a component
pub class : AreFields forms.class fields.class_fields
unfolding forms.class
class = record {
  filled = λ p. (service.filled p.0, (designation.filled p.1.0, ((plan ((forms.designation).value p.1.0)).filled p.1.1.0, (month.filled p.1.1.1.0, tt))));
  text = λ p. rw (service.text p.0, designation.text p.1.0, (plan ((forms.designation).value p.1.0)).text p.1.1.0, month.text p.1.1.1.0);
  path = λ c h.
      let s = service.path c.service h.0 in
      let d = designation.path c.designation h.1.0 in
      let l = (plan ((forms.designation).value d.0)).path c.plan (subst (λ x. IsAmong c.plan (fields.plans x)) (sym d.1) h.1.1.0) in
      let m = month.path c.month h.1.1.1.0 in
      ((s.0, (d.0, (l.0, (m.0, tt)))), same_class _ c.service _ c.designation _ c.plan _ c.month s.1 d.1 l.1 m.1);
}

-- three readings
pub readings : AreFields forms.readings fields.readings_fields
unfolding forms.readings
readings = record {
  filled = λ p. (concentration.filled p.0, (concentration.filled p.1.0, (concentration.filled p.1.1.0, tt)));
  text = λ p. rw (concentration.text p.0, concentration.text p.1.0, concentration.text p.1.1.0);
  path = λ r h.
      let a = concentration.path r.0 h.0 in
      let b = concentration.path r.1 h.1.0 in
      let c = concentration.path r.2 h.1.1.0 in
      ((a.0, (b.0, (c.0, tt))), rw (a.1, b.1, c.1));
}
