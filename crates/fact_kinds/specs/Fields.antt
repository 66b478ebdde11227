-- The table of bytes: the fields of a fact, each with its width and its ranges.
use Rattle.std.specs.Prelude.{ℕ, ◌/◌, ◌%◌, ◌^◌, ◌≤◌, ◌⊎◌, suc, zero, Bool, if◌then◌else◌, List, [], ◌∷◌, Option, Some, None}
use Rattle.std.specs.List.{AllByRecursion}
use Rattle.fact_kinds.specs.declared.class.Class.{Class}
use Rattle.fact_kinds.specs.declared.class.Kind.{Kind}
use Rattle.fact_kinds.specs.declared.class.Kind.TheVariants.{Valve, Pump, Compressor, Relief}
use Rattle.fact_kinds.specs.declared.class.Service.{Service}
use Rattle.fact_kinds.specs.declared.class.Service.TheVariants.{Gas, Light, Heavy, Vacuum, Under300}
use Rattle.fact_kinds.specs.declared.class.Designation.{Designation}
use Rattle.fact_kinds.specs.declared.class.Designation.TheVariants.{Plain, Nde, Unsafe, Difficult}
use Rattle.fact_kinds.specs.declared.body.Purpose.{Purpose}
use Rattle.fact_kinds.specs.declared.body.Purpose.TheVariants.{Routine, FollowUp}
use Rattle.fact_kinds.specs.declared.body.VisualState.{VisualState}
use Rattle.fact_kinds.specs.declared.body.VisualState.TheVariants.{Dry, Drips, Designated}
use Rattle.fact_kinds.specs.declared.body.Sort.{Sort}
use Rattle.fact_kinds.specs.declared.body.Sort.TheVariants.{Sensor, Evidence}
use Rattle.fact_kinds.specs.declared.body.FactBody.{FactBody}
use Rattle.fact_kinds.specs.declared.body.FactBody.TheVariants.{Unit as UnitFact, Component as ComponentFact, Class as ClassFact, Retire, Election}
use Rattle.fact_kinds.specs.declared.body.FactBody.TheVariants.{Shutdown, Calibration, Precision, Drift, Reading, Visual, Attempt, Delay, Release}
use Rattle.fact_kinds.specs.declared.body.FactBody.TheVariants.{Indication}
use Rattle.fact_kinds.specs.Name.{IsName, spelled_name}
use Rattle.fact_kinds.specs.Stated.{Stated}

-- A field of the table: a number of some width in bytes within one of the ranges, or a name in twelve bytes.
pub data Field : Type 0 where
  number : (width : ℕ) (ranges : List (ℕ × ℕ)) (value : ℕ) → Field
  name : (bytes : List ℕ) → Field

-- the number is in one of the ranges, ends included
abbrev pub IsAmong : ℕ → List (ℕ × ℕ) → Type 0
IsAmong n [] = ⊥
IsAmong n (range ∷ []) = (range.0 ≤ n) × (n ≤ range.1)
IsAmong n (range ∷ other ∷ ranges) = ((range.0 ≤ n) × (n ≤ range.1)) ⊎ IsAmong n (other ∷ ranges)

-- the field's value is in its range
abbrev pub IsFilled : Field → Type 0
IsFilled (number width ranges value) = IsAmong value ranges
IsFilled (name bytes) = IsName bytes

-- a number in some width of bytes, the most significant byte first
abbrev pub big_endian : ℕ → ℕ → List ℕ
big_endian zero n = []
big_endian (suc width) n = (n / 256 ^ width % 256) ∷ big_endian width n

-- the bytes of a field
abbrev pub bytes_of : Field → List ℕ
bytes_of (number width ranges value) = big_endian width value
bytes_of (name bytes) = spelled_name bytes

-- ---- the ranges of the table

-- the letter B, the first byte of a batch
abbrev pub first_letters : List (ℕ × ℕ)
first_letters = (66, 66) ∷ []

-- handhelds: any number of two bytes
abbrev pub handhelds : List (ℕ × ℕ)
handhelds = (0, 65_535) ∷ []

-- batch numbers: any number of four bytes
abbrev pub batch_numbers : List (ℕ × ℕ)
batch_numbers = (0, 4_294_967_295) ∷ []

-- the number of facts in a batch
abbrev pub counts : List (ℕ × ℕ)
counts = (1, 512) ∷ []

-- days from 2008-01-01 to 2099-12-31, counted from 1970-01-01
abbrev pub days : List (ℕ × ℕ)
days = (13_879, 47_481) ∷ []

-- a day, or 0 for none
abbrev pub days_or_none : List (ℕ × ℕ)
days_or_none = (0, 0) ∷ days

-- minutes of a day, from 0
abbrev pub minutes : List (ℕ × ℕ)
minutes = (0, 1_439) ∷ []

-- the fifteen kinds of facts
abbrev pub fact_kinds : List (ℕ × ℕ)
fact_kinds = (1, 15) ∷ []

-- the numbers of process units
abbrev pub units : List (ℕ × ℕ)
units = (1, 64) ∷ []

-- the numbers of components
abbrev pub components : List (ℕ × ℕ)
components = (1, 60_000) ∷ []

-- the numbers of instruments
abbrev pub instruments : List (ℕ × ℕ)
instruments = (1, 65_535) ∷ []

-- the number of an instrument or a person, or 0 for none
abbrev pub numbers_or_none : List (ℕ × ℕ)
numbers_or_none = (0, 65_535) ∷ []

-- concentrations of a reading, in ppm by volume
abbrev pub concentrations : List (ℕ × ℕ)
concentrations = (0, 999_999) ∷ []

-- concentrations of a calibration gas, in ppm by volume
abbrev pub known_values : List (ℕ × ℕ)
known_values = (1, 999_999) ∷ []

-- 0 for no and 1 for yes
abbrev pub flags : List (ℕ × ℕ)
flags = (0, 1) ∷ []

-- the types of components
abbrev pub component_kinds : List (ℕ × ℕ)
component_kinds = (1, 4) ∷ []

-- the services of components
abbrev pub services : List (ℕ × ℕ)
services = (1, 5) ∷ []

-- the designations of components
abbrev pub designations : List (ℕ × ℕ)
designations = (0, 3) ∷ []

-- the months of a plan: 1 to 60 for an unsafe-to-monitor component, and otherwise 0
abbrev pub plans : Designation → List (ℕ × ℕ)
plans Plain = (0, 0) ∷ []
plans Nde = (0, 0) ∷ []
plans Unsafe = (1, 60) ∷ []
plans Difficult = (0, 0) ∷ []

-- the months of a quarter
abbrev pub months : List (ℕ × ℕ)
months = (1, 3) ∷ []

-- the skip period programs: 0 for none, 1 and 3
abbrev pub modes : List (ℕ × ℕ)
modes = (0, 1) ∷ (3, 3) ∷ []

-- the length of a shutdown, in days
abbrev pub shutdown_lengths : List (ℕ × ℕ)
shutdown_lengths = (1, 366) ∷ []

-- the purposes of readings
abbrev pub purposes : List (ℕ × ℕ)
purposes = (1, 2) ∷ []

-- the results of visual inspections
abbrev pub visual_states : List (ℕ × ℕ)
visual_states = (0, 2) ∷ []

-- 0 for a withdrawal, or one of the grounds (a) to (e) of 60.482-9a
abbrev pub grounds : List (ℕ × ℕ)
grounds = (0, 5) ∷ []

-- the kinds of indications
abbrev pub sorts : List (ℕ × ℕ)
sorts = (1, 2) ∷ []

-- ---- the fields that several kinds share

-- the number of a component
abbrev pub component : ℕ → Field
component n = number 2 components n

-- the number of a process unit
abbrev pub unit : ℕ → Field
unit n = number 1 units n

-- the number of an instrument
abbrev pub instrument : ℕ → Field
instrument n = number 2 instruments n

-- the number of an instrument or a person, or 0 for none
abbrev pub number_or_none : ℕ → Field
number_or_none n = number 2 numbers_or_none n

-- a concentration of a reading
abbrev pub concentration : ℕ → Field
concentration n = number 4 concentrations n

-- a concentration of a calibration gas
abbrev pub known_value : ℕ → Field
known_value n = number 4 known_values n

-- 1 for yes and 0 for no
abbrev pub flag : Bool → Field
flag b = number 1 flags (if b then 1 else 0)

-- the number of a component's type
abbrev pub kind_number : Kind → ℕ
kind_number Valve = 1
kind_number Pump = 2
kind_number Compressor = 3
kind_number Relief = 4

-- the number of a service
abbrev pub service_number : Service → ℕ
service_number Gas = 1
service_number Light = 2
service_number Heavy = 3
service_number Vacuum = 4
service_number Under300 = 5

-- the number of a designation
abbrev pub designation_number : Designation → ℕ
designation_number Plain = 0
designation_number Nde = 1
designation_number Unsafe = 2
designation_number Difficult = 3

-- the fields of a class: service, designation, months of the plan and month of the quarter
abbrev pub class_fields : Class → List Field
class_fields c =
    number 1 services (service_number c.service)
    ∷ number 1 designations (designation_number c.designation)
    ∷ number 1 (plans c.designation) c.plan
    ∷ number 1 months c.month ∷ []

-- the number of a purpose
abbrev pub purpose_number : Purpose → ℕ
purpose_number Routine = 1
purpose_number FollowUp = 2

-- the number of a visual inspection's result
abbrev pub state_number : VisualState → ℕ
state_number Dry = 0
state_number Drips = 1
state_number Designated = 2

-- the number of an indication's kind
abbrev pub sort_number : Sort → ℕ
sort_number Sensor = 1
sort_number Evidence = 2

-- a day, or 0 for none
abbrev pub day_or_none : Option ℕ → Field
day_or_none None = number 2 ((0, 0) ∷ []) 0
day_or_none (Some day) = number 2 days day

-- three concentrations, in order
abbrev pub readings_fields : ℕ × ℕ × ℕ → List Field
readings_fields r = concentration r.0 ∷ concentration r.1 ∷ concentration r.2 ∷ []

-- the number of a fact's kind
abbrev pub body_number : FactBody → ℕ
body_number (UnitFact _ _ _) = 1
body_number (ComponentFact _ _ _ _ _ _) = 2
body_number (ClassFact _ _) = 3
body_number (Retire _) = 4
body_number (Election _ _ _) = 5
body_number (Shutdown _ _) = 6
body_number (Calibration _ _) = 7
body_number (Precision _ _ _) = 8
body_number (Drift _ _ _) = 9
body_number (Reading _ _ _ _ _ _) = 10
body_number (Visual _ _) = 11
body_number (Attempt _ _) = 12
body_number (Delay _ _ _ _) = 13
body_number (Release _) = 14
body_number (Indication _ _ _) = 15

-- the fields of a fact after its kind, day and minute, in order
abbrev pub body_fields : FactBody → List Field
body_fields (UnitFact u older n) = unit u ∷ flag older ∷ name n ∷ []
body_fields (ComponentFact c u kind monomer replaces class) =
    component c ∷ unit u ∷ number 1 component_kinds (kind_number kind) ∷ flag monomer ∷ flag replaces ∷ class_fields class
body_fields (ClassFact c class) = component c ∷ class_fields class
body_fields (Retire c) = component c ∷ []
body_fields (Election u mode notified) = unit u ∷ number 1 modes mode ∷ number 2 days notified ∷ []
body_fields (Shutdown u length) = unit u ∷ number 2 shutdown_lengths length ∷ []
body_fields (Calibration i gas) = instrument i ∷ known_value gas ∷ []
body_fields (Precision i value readings) = instrument i ∷ known_value value ∷ readings_fields readings
body_fields (Drift i value readings) = instrument i ∷ known_value value ∷ readings_fields readings
body_fields (Reading c i operator purpose ppm background) =
    component c ∷ number_or_none i ∷ number_or_none operator ∷ number 1 purposes (purpose_number purpose)
    ∷ concentration ppm ∷ concentration background ∷ []
body_fields (Visual c state) = component c ∷ number 1 visual_states (state_number state) ∷ []
body_fields (Attempt c complete) = component c ∷ flag complete ∷ []
body_fields (Delay c reason signer expected) =
    component c ∷ number 1 grounds reason ∷ number_or_none signer ∷ day_or_none expected ∷ []
body_fields (Release c) = component c ∷ []
body_fields (Indication c sort present) = component c ∷ number 1 sorts (sort_number sort) ∷ flag present ∷ []

-- the fields of a fact, in order
abbrev pub fact_fields : Stated → List Field
fact_fields fact =
    number 1 fact_kinds (body_number fact.body) ∷ number 2 days fact.day ∷ number 2 minutes fact.minute
    ∷ body_fields fact.body

-- each field of the fact is in its range
abbrev pub IsFact : Stated → Type 0
IsFact fact = AllByRecursion IsFilled (fact_fields fact)
