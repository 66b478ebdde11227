-- Short names for examples: days, facts and components.
use Rattle.std.specs.Prelude.{ℕ, ◌+◌, ◌-◌, ◌*◌, Bool, true, false, nat_lt, if◌then◌else◌, Some, None, List, [], ◌∷◌, map}
use Rattle.ldar_days.specs.Calendar.{first_day}
use Rattle.fact_kinds.specs.declared.body.FactBody.{FactBody}
use Rattle.fact_kinds.specs.declared.body.FactBody.TheVariants.{Attempt as AttemptFact, Calibration, Precision, Drift, Reading, Visual, Indication}
use Rattle.fact_kinds.specs.declared.body.Purpose.TheVariants.{Routine}
use Rattle.fact_kinds.specs.declared.body.Sort.TheVariants.{Sensor as SensorSort}
use Rattle.fact_kinds.specs.declared.body.VisualState.TheVariants.{Designated}
use Rattle.fact_kinds.specs.declared.class.Class.{Class}
use Rattle.fact_kinds.specs.declared.class.Designation.{Designation}
use Rattle.fact_kinds.specs.declared.class.Designation.TheVariants.{Plain, Difficult, Unsafe}
use Rattle.fact_kinds.specs.declared.class.Kind.{Kind}
use Rattle.fact_kinds.specs.declared.class.Kind.TheVariants.{Valve, Pump, Compressor, Relief}
use Rattle.fact_kinds.specs.declared.class.Service.{Service}
use Rattle.fact_kinds.specs.declared.class.Service.TheVariants.{Gas, Light}
use Rattle.fact_kinds.specs.declared.key.Key.{Key}
use Rattle.fact_kinds.specs.Facts.{Entry}
use Rattle.ldar_law.specs.declared.equipment.Equipment.{Equipment}
use Rattle.ldar_law.specs.declared.event.Happening.{Happening}
use Rattle.ldar_law.specs.declared.fitness.Fitness.{Fitness}
use Rattle.ldar_law.specs.Events.{events_in}
use Rattle.ldar_law.specs.Force.{limit_on}
use Rattle.ldar_law.specs.Fitness.{fitness_of}
use Rattle.ldar_law.specs.Happenings.{is_leak}

-- ---- days

-- a day from year, month and day of the month
abbrev pub date : ℕ → ℕ → ℕ → ℕ
date y m d = first_day (12 * y + m - 1) + d - 1

-- a month from year and month of the year
abbrev pub month : ℕ → ℕ → ℕ
month y m = 12 * y + m - 1

-- ---- facts

-- a key with a day and a minute, of handheld 1
abbrev pub key : ℕ → ℕ → Key
key day minute = record { day = day; minute = minute; handheld = 1; number = 1; index = 0 }

-- a fact with such a key
abbrev pub fact : ℕ → ℕ → FactBody → Entry
fact day minute body = (key day minute, record { day = day; minute = minute; body = body })

-- instrument 1 is calibrated with a gas
abbrev pub calibrated : ℕ → ℕ → ℕ → Entry
calibrated day minute gas = fact day minute (Calibration 1 gas)

-- instrument 1 passes a precision test at the first minute of a day
abbrev pub precise : ℕ → Entry
precise day = fact day 0 (Precision 1 500 (500, 500, 500))

-- a drift assessment of instrument 1 with three equal readings of 500
abbrev pub drifted : ℕ → ℕ → ℕ → Entry
drifted day minute ppm = fact day minute (Drift 1 500 (ppm, ppm, ppm))

-- a routine reading at a component with instrument 1, at minute 600
abbrev pub measured : ℕ → ℕ → ℕ → Entry
measured day component ppm = fact day 600 (Reading component 1 1 Routine ppm 0)

-- the fitness of a reading at a minute of 2024-02-20, by a leak definition of 500, these facts and a precision test of 2024-01-02
abbrev pub judged_at : List Entry → ℕ → ℕ → Fitness
judged_at facts minute ppm = fitness_of (precise (date 2024 1 2) ∷ facts) 500 (key (date 2024 2 20) minute) 1 ppm

-- a calibration at minute 300 and a drift assessment at minute 900 of one day
abbrev pub drifted_to : ℕ → List Entry
drifted_to ppm = calibrated (date 2024 2 20) 300 500 ∷ drifted (date 2024 2 20) 900 ppm ∷ []

-- three calibrations of one day, the first with too strong a gas, and three drift assessments
abbrev pub busy_day : List Entry
busy_day =
    calibrated (date 2024 2 20) 300 2501 ∷ calibrated (date 2024 2 20) 500 2500 ∷ drifted (date 2024 2 20) 650 440
    ∷ calibrated (date 2024 2 20) 700 500 ∷ drifted (date 2024 2 20) 800 440 ∷ drifted (date 2024 2 20) 900 430 ∷ []

-- three readings of valve 1 in February, March and June, and an attempt after the first
abbrev pub three_readings : List Entry
three_readings =
    measured (date 2024 2 20) 1 20 ∷ fact (date 2024 2 22) 600 (AttemptFact 1 false) ∷ measured (date 2024 3 20) 1 30 ∷ measured (date 2024 6 20) 1 40 ∷ []

-- the calibrations of the last two of these days, and a precision test in January
abbrev pub calibrated_twice : List Entry
calibrated_twice = precise (date 2024 1 2) ∷ calibrated (date 2024 3 20) 300 500 ∷ calibrated (date 2024 6 20) 300 500 ∷ []

-- ---- components of unit 1

-- a class without a plan, monitored in the first month of a quarter
abbrev pub class : Service → Designation → Class
class service designation = record { service = service; designation = designation; plan = 0; month = 1 }

-- a class entered on a day
abbrev pub entered_on : ℕ → Class → Key × Class
entered_on day class = (key day 0, class)

-- gas service, monitored in the second month of a quarter
abbrev pub second_month : Class
second_month = record { service = Gas; designation = Plain; plan = 0; month = 2 }

-- gas service, monitored in the second month of a quarter, entered on 2024-01-02
abbrev pub second_months : Key × Class
second_months = entered_on (date 2024 1 2) second_month

-- difficult to monitor, with the plan from before
abbrev pub planned_difficult : Class
planned_difficult = record { service = Gas; designation = Difficult; plan = 5; month = 1 }

-- unsafe to monitor, with a plan of this many months
abbrev pub unsafe_by : Service → ℕ → Class
unsafe_by service plan = record { service = service; designation = Unsafe; plan = plan; month = 1 }

-- a component of a kind and class, from a day on
abbrev pub gear : ℕ → Kind → Class → ℕ → Equipment
gear component kind class begin = record {
  component = component;
  unit = 1;
  kind = kind;
  monomer = false;
  replaces = false;
  begin = begin;
  retired = None;
  class = class;
}

-- a valve in gas service
abbrev pub valve : ℕ → ℕ → Equipment
valve component begin = gear component Valve (class Gas Plain) begin

-- a component that is retired
abbrev pub retired_gear : ℕ → Kind → Class → ℕ → ℕ → Equipment
retired_gear component kind class begin retired = record {
  component = component;
  unit = 1;
  kind = kind;
  monomer = false;
  replaces = false;
  begin = begin;
  retired = Some retired;
  class = class;
}

-- a valve that is retired
abbrev pub retired_valve : ℕ → ℕ → ℕ → Equipment
retired_valve component begin retired = retired_gear component Valve (class Gas Plain) begin retired

-- a valve that replaces a leaking one
abbrev pub replacing_valve : ℕ → ℕ → Equipment
replacing_valve component begin = record {
  component = component;
  unit = 1;
  kind = Valve;
  monomer = false;
  replaces = true;
  begin = begin;
  retired = None;
  class = class Gas Plain;
}

-- a pump in light liquid service
abbrev pub pump : ℕ → ℕ → Equipment
pump component begin = gear component Pump (class Light Plain) begin

-- a pump that handles polymerizing monomers
abbrev pub monomer_pump : ℕ → ℕ → Equipment
monomer_pump component begin = record {
  component = component;
  unit = 1;
  kind = Pump;
  monomer = true;
  replaces = false;
  begin = begin;
  retired = None;
  class = class Light Plain;
}

-- a compressor in gas service
abbrev pub compressor : ℕ → ℕ → Equipment
compressor component begin = gear component Compressor (class Gas Plain) begin

-- a relief device in gas service
abbrev pub relief : ℕ → ℕ → Equipment
relief component begin = gear component Relief (class Gas Plain) begin

-- which facts of 2024-02-20 at a component are leaks, with a calibrated instrument
abbrev pub leaks_of : Equipment → Entry → List Bool
leaks_of item e = map (λ event. is_leak event.what)
    (events_in item [] (limit_on item []) (precise (date 2024 1 2) ∷ calibrated (date 2024 2 20) 300 500 ∷ e ∷ []))

-- whether a reading is a leak
abbrev pub found_at : Equipment → ℕ → List Bool
found_at item ppm = leaks_of item (measured (date 2024 2 20) item.component ppm)

-- whether a sensor's indication is a leak
abbrev pub sensed : Equipment → Bool → List Bool
sensed item present = leaks_of item (fact (date 2024 2 20) 600 (Indication item.component SensorSort present))

-- whether a designated drip is a leak
abbrev pub designated_at : Equipment → List Bool
designated_at item = leaks_of item (fact (date 2024 2 20) 600 (Visual item.component Designated))

-- the event of a fact of 2024-02-20 at a component, with the instrument calibrated with a gas
abbrev pub events_with_gas : ℕ → Equipment → List (Key × Class) → FactBody → List Happening
events_with_gas gas item classes body = map (λ event. event.what)
    (events_in item classes (limit_on item classes) (precise (date 2024 1 2) ∷ calibrated (date 2024 2 20) 300 gas ∷ fact (date 2024 2 20) 600 body ∷ []))

-- a leak definition of 500 through 2024-02-29, and of 200 from the next day on
abbrev pub lowered : ℕ → ℕ
lowered day = if nat_lt day (date 2024 3 1) then 500 else 200

-- readings of a valve on these two days by this leak definition, with the instrument calibrated with a gas
abbrev pub read_while_lowered : ℕ → ℕ → List Happening
read_while_lowered gas ppm = map (λ event. event.what)
    (events_in (valve 1 (date 2020 1 15)) [] lowered
    (precise (date 2024 1 2) ∷ calibrated (date 2024 2 29) 300 gas ∷ measured (date 2024 2 29) 1 ppm ∷ calibrated (date 2024 3 1) 300 gas
    ∷ measured (date 2024 3 1) 1 ppm ∷ []))

-- the event of a fact of 2024-02-20, with a gas of 500
abbrev pub events_on : Equipment → List (Key × Class) → FactBody → List Happening
events_on item classes body = events_with_gas 500 item classes body
