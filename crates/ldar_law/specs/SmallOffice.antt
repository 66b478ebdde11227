-- A small office for examples: the process unit CRUDE, started up on 2020-01-15, with nine components.
use Rattle.std.specs.Prelude.{ℕ, Bool, true, false, Some, List, [], ◌∷◌, ◌++◌, zero, suc, codes}
use Rattle.fact_kinds.specs.declared.batch.Batch.{Batch}
use Rattle.fact_kinds.specs.declared.class.Class.{Class}
use Rattle.fact_kinds.specs.declared.class.Kind.{Kind}
use Rattle.fact_kinds.specs.declared.class.Kind.TheVariants.{Valve, Pump, Compressor, Relief}
use Rattle.fact_kinds.specs.declared.class.Service.{Service}
use Rattle.fact_kinds.specs.declared.class.Service.TheVariants.{Gas, Light, Heavy}
use Rattle.fact_kinds.specs.declared.class.Designation.{Designation}
use Rattle.fact_kinds.specs.declared.class.Designation.TheVariants.{Plain, Difficult}
use Rattle.fact_kinds.specs.declared.body.Purpose.TheVariants.{Routine}
use Rattle.fact_kinds.specs.declared.body.FactBody.{FactBody}
use Rattle.fact_kinds.specs.declared.body.FactBody.TheVariants.{Unit as UnitFact, Component as ComponentFact, Class as ClassFact}
use Rattle.fact_kinds.specs.declared.body.FactBody.TheVariants.{Election, Shutdown, Calibration, Precision, Reading, Attempt, Delay}
use Rattle.fact_kinds.specs.Stated.{Stated}
use Rattle.ldar_law.specs.Short.{date}

-- a fact at ten o'clock
abbrev pub on : ℕ → FactBody → Stated
on day body = record { day = day; minute = 600; body = body }

-- a batch of the office itself
abbrev pub enters : ℕ → List Stated → Batch
enters number facts = record { handheld = 0; number = number; facts = facts }

-- a batch of handheld 7
abbrev pub sends : ℕ → List Stated → Batch
sends number facts = record { handheld = 7; number = number; facts = facts }

-- a class in a service, without a designation
abbrev pub in_service : Service → Class
in_service service = record { service = service; designation = Plain; plan = 0; month = 1 }

-- a class in gas service with a designation
abbrev pub designated : Designation → Class
designated designation = record { service = Gas; designation = designation; plan = 0; month = 1 }

-- a component of unit 1 that replaces none
abbrev pub component : ℕ → Kind → Bool → Service → FactBody
component number kind monomer service = ComponentFact number 1 kind monomer false (in_service service)

-- the entry of the process unit CRUDE
abbrev pub crude : FactBody
crude = UnitFact 1 false (codes "CRUDE")

-- the first entries in the register
abbrev pub register : Batch
register = enters 1 (
    on (date 2020 1 15) crude
    ∷ on (date 2020 1 15) (component 1 Valve false Gas)
    ∷ on (date 2020 1 15) (component 2 Valve false Gas)
    ∷ on (date 2020 1 15) (component 3 Valve false Gas)
    ∷ on (date 2020 1 15) (component 4 Valve false Gas)
    ∷ on (date 2020 1 15) (component 5 Pump false Light)
    ∷ on (date 2020 1 15) (component 6 Pump true Light)
    ∷ on (date 2020 1 15) (component 7 Pump false Heavy)
    ∷ on (date 2020 1 15) (component 8 Relief false Gas)
    ∷ on (date 2020 1 15) (component 9 Compressor false Gas)
    ∷ [])

-- instrument 1 passes its precision test on 2024-01-02
abbrev pub precision : Batch
precision = record { handheld = 1; number = 1; facts = on (date 2024 1 2) (Precision 1 500 (500, 500, 500)) ∷ [] }

-- the history of these two batches
abbrev pub base : List Batch
base = register ∷ precision ∷ []

-- a calibration of instrument 1 at five o'clock
abbrev pub calibrated : ℕ → Stated
calibrated day = record { day = day; minute = 300; body = Calibration 1 500 }

-- a routine reading with instrument 1 by operator 1, with a background of 0
abbrev pub reads : ℕ → ℕ → FactBody
reads component ppm = Reading component 1 1 Routine ppm 0

-- this many valves of a unit, numbered from 1
abbrev pub valves_of : ℕ → ℕ → List Stated
valves_of unit zero = []
valves_of unit (suc more) = valves_of unit more ++ on (date 2020 1 15) (ComponentFact (suc more) unit Valve false false (in_service Gas)) ∷ []

-- this many valves of unit 1
abbrev pub valves : ℕ → List Stated
valves count = valves_of 1 count

-- a valve is difficult to monitor from 2024-01-01 on
abbrev pub makes_difficult : ℕ → Stated
makes_difficult component = on (date 2024 1 1) (ClassFact component (designated Difficult))

-- one of the four valves of the small office is difficult to monitor
abbrev pub one_difficult : List Batch
one_difficult = base ++ enters 2 (makes_difficult 1 ∷ []) ∷ []

-- the unit with 100 valves
abbrev pub hundred_valves : Batch
hundred_valves = enters 1 (on (date 2020 1 15) crude ∷ valves 100)

-- ---- findings of handheld 7 at valve 1

-- a routine reading on a day on which the instrument is calibrated
abbrev pub rounds : ℕ → ℕ → ℕ → List Stated
rounds day component ppm = calibrated day ∷ on day (reads component ppm) ∷ []

-- a leak on 2024-02-20, and in a later batch the calibration of that day
abbrev pub leak_found : Batch
leak_found = sends 1 (record { day = date 2024 2 20; minute = 615; body = reads 1 620 } ∷ [])

-- the base history with this leak and the calibration of its day
abbrev pub leaking : List Batch
leaking = base ++ leak_found ∷ sends 2 (calibrated (date 2024 2 20) ∷ []) ∷ []

-- an attempt two days later, and a reading of 20 on a day
abbrev pub repaired_on : ℕ → List Batch
repaired_on day = leaking ++ sends 3 (on (date 2024 2 22) (Attempt 1 false) ∷ rounds day 1 20) ∷ []

-- readings of two valves on 2024-02-20; the second one leaks, and its repair is delayed until a shutdown
abbrev pub two_valves : List Batch
two_valves = base ++ sends 1 (rounds (date 2024 2 20) 1 20 ++ on (date 2024 2 20) (reads 2 620)
    ∷ on (date 2024 3 1) (Delay 2 1 9 (Some (date 2024 6 10))) ∷ []) ∷ []

-- a delay until a shutdown, entered on a day, with the repair expected on 2024-06-10
abbrev pub delayed_on : ℕ → List Batch
delayed_on day = leaking ++ sends 3 (on day (Delay 1 1 9 (Some (date 2024 6 10))) ∷ []) ∷ []

-- a shutdown of fourteen days
abbrev pub shut_down : Batch
shut_down = enters 2 (on (date 2024 6 1) (Shutdown 1 14) ∷ [])

-- ---- the process unit COKER, started up on 2024-01-15, with valve 30

-- the small office and COKER, with valve 30 in a class
abbrev pub coker_with : Class → List Batch
coker_with class = base ++ enters 2 (on (date 2024 1 15) (UnitFact 2 false (codes "COKER"))
    ∷ on (date 2024 1 15) (ComponentFact 30 2 Valve false false class) ∷ []) ∷ []

-- the small office and COKER, with valve 30 in gas service
abbrev pub coker : List Batch
coker = coker_with (in_service Gas)

-- readings of 10 in February, March, April and July, with the precision tests that they need
abbrev pub coker_readings : Batch
coker_readings = sends 1 (on (date 2024 4 1) (Precision 1 500 (500, 500, 500)) ∷ on (date 2024 7 1) (Precision 1 500 (500, 500, 500))
    ∷ rounds (date 2024 2 10) 30 10 ++ rounds (date 2024 3 10) 30 10 ++ rounds (date 2024 4 10) 30 10 ++ rounds (date 2024 7 10) 30 10)

-- the office with COKER and these readings
abbrev pub coker_rounds : List Batch
coker_rounds = coker ++ coker_readings ∷ []

-- a leak in April that arrives late
abbrev pub coker_leak : Batch
coker_leak = sends 2 (rounds (date 2024 4 20) 30 700)

-- mode 1 is elected from October on
abbrev pub coker_election : Batch
coker_election = enters 3 (on (date 2024 10 1) (Election 2 1 (date 2024 7 1)) ∷ [])

-- a unit that started up on the last possible day
abbrev pub last_unit : List Batch
last_unit = enters 1 (on (date 2097 12 31) crude ∷ []) ∷ []
