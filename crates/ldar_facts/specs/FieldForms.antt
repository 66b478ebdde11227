-- Internal: how the private readers are proved. It is in specs/ only because their clauses cite it.
-- The form of each field of the table.
use Rattle.std.specs.Prelude.{ℕ, Bool, ◌==◌, IsTrue, if◌then◌else◌, Option, Some, None, refl}
use Rattle.fact_kinds.specs.declared.class.Class.{Class}
use Rattle.fact_kinds.specs.declared.class.Kind.{Kind}
use Rattle.fact_kinds.specs.declared.class.Kind.TheVariants.{Valve, Pump, Compressor, Relief}
use Rattle.fact_kinds.specs.declared.class.Service.{Service}
use Rattle.fact_kinds.specs.declared.class.Service.TheVariants.{Gas, Light, Heavy, Vacuum, Under300}
use Rattle.fact_kinds.specs.declared.class.Designation.{Designation}
use Rattle.fact_kinds.specs.declared.class.Designation.TheVariants.{Plain, Nde, Unsafe, Difficult}
use Rattle.fact_kinds.specs.declared.body.Purpose.{Purpose}
use Rattle.fact_kinds.specs.declared.body.Purpose.TheVariants.{Routine, FollowUp}
use Rattle.fact_kinds.specs.declared.body.VisualState.{VisualState}
use Rattle.fact_kinds.specs.declared.body.VisualState.TheVariants.{Dry, Drips, Designated}
use Rattle.fact_kinds.specs.declared.body.Sort.{Sort}
use Rattle.fact_kinds.specs.declared.body.Sort.TheVariants.{Sensor, Evidence}
use Rattle.fact_kinds.specs.Fields as fields
use Rattle.ldar_facts.specs.Form.{Form}
use Rattle.ldar_facts.specs.Compose.{done, ◌>>=◌}
use Rattle.ldar_facts.specs.Number.{number_form, is_proper}

-- the number of a component
unfoldable pub component : Form ℕ
component = number_form 2 fields.components refl

-- the number of a process unit
unfoldable pub unit : Form ℕ
unit = number_form 1 fields.units refl

-- the number of an instrument
unfoldable pub instrument : Form ℕ
instrument = number_form 2 fields.instruments refl

-- the number of an instrument or a person, or 0 for none
unfoldable pub number_or_none : Form ℕ
number_or_none = number_form 2 fields.numbers_or_none refl

-- a concentration of a reading
unfoldable pub concentration : Form ℕ
concentration = number_form 4 fields.concentrations refl

-- a concentration of a calibration gas
unfoldable pub known_value : Form ℕ
known_value = number_form 4 fields.known_values refl

-- a day
unfoldable pub day : Form ℕ
day = number_form 2 fields.days refl

-- a minute of a day
unfoldable pub minute : Form ℕ
minute = number_form 2 fields.minutes refl

-- the kind of a fact
unfoldable pub fact_kind : Form ℕ
fact_kind = number_form 1 fields.fact_kinds refl

-- a month of a quarter
unfoldable pub month : Form ℕ
month = number_form 1 fields.months refl

-- a skip period program
unfoldable pub mode : Form ℕ
mode = number_form 1 fields.modes refl

-- the days of a shutdown
unfoldable pub shutdown_length : Form ℕ
shutdown_length = number_form 2 fields.shutdown_lengths refl

-- the ground of a delay
unfoldable pub delay_ground : Form ℕ
delay_ground = number_form 1 fields.grounds refl

-- a flag
unfoldable pub flag : Form Bool
flag = do
  n ← number_form 1 fields.flags refl
  done (n == 1)

-- ---- the meaning of a number

-- the type of component with this number
abbrev pub kind_of : ℕ → Kind
kind_of n = if n == 1 then Valve else (if n == 2 then Pump else (if n == 3 then Compressor else Relief))

-- the service with this number
abbrev pub service_of : ℕ → Service
service_of n = if n == 1 then Gas else (if n == 2 then Light else (if n == 3 then Heavy else (if n == 4 then Vacuum else Under300)))

-- the designation with this number
abbrev pub designation_of : ℕ → Designation
designation_of n = if n == 0 then Plain else (if n == 1 then Nde else (if n == 2 then Unsafe else Difficult))

-- the purpose with this number
abbrev pub purpose_of : ℕ → Purpose
purpose_of n = if n == 1 then Routine else FollowUp

-- the result of a visual inspection with this number
abbrev pub state_of : ℕ → VisualState
state_of n = if n == 0 then Dry else (if n == 1 then Drips else Designated)

-- the kind of indication with this number
abbrev pub sort_of : ℕ → Sort
sort_of n = if n == 1 then Sensor else Evidence

-- the day with this number, or None for 0
abbrev pub expected_of : ℕ → Option ℕ
expected_of n = if n == 0 then None else Some n

-- a component's type
unfoldable pub kind : Form Kind
kind = do
  n ← number_form 1 fields.component_kinds refl
  done (kind_of n)

-- a component's service
unfoldable pub service : Form Service
service = do
  n ← number_form 1 fields.services refl
  done (service_of n)

-- a component's designation
unfoldable pub designation : Form Designation
designation = do
  n ← number_form 1 fields.designations refl
  done (designation_of n)

-- a reading's purpose
unfoldable pub purpose : Form Purpose
purpose = do
  n ← number_form 1 fields.purposes refl
  done (purpose_of n)

-- a visual inspection's result
unfoldable pub state : Form VisualState
state = do
  n ← number_form 1 fields.visual_states refl
  done (state_of n)

-- an indication's kind
unfoldable pub sort : Form Sort
sort = do
  n ← number_form 1 fields.sorts refl
  done (sort_of n)

-- a day, or 0 for none
unfoldable pub day_or_none : Form (Option ℕ)
day_or_none = do
  n ← number_form 2 fields.days_or_none refl
  done (expected_of n)

-- ---- several fields

-- the ranges of a plan's months fit a byte, for each designation
pub plans_proper : (d : Designation) → IsTrue (is_proper 1 (fields.plans d))
plans_proper Plain = refl
plans_proper Nde = refl
plans_proper Unsafe = refl
plans_proper Difficult = refl

-- the months of a plan, in the range that the designation allows
unfoldable pub plan : Designation → Form ℕ
plan d = number_form 1 (fields.plans d) (plans_proper d)

-- a component's class
unfoldable pub class : Form Class
class = do
  service ← service
  designation ← designation
  plan ← plan designation
  month ← month
  done (record { service = service; designation = designation; plan = plan; month = month })

-- three readings
unfoldable pub readings : Form (ℕ × ℕ × ℕ)
readings = do
  first ← concentration
  second ← concentration
  third ← concentration
  done (first, second, third)
