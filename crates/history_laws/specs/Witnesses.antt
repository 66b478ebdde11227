-- Small histories and lists of facts, for examples of the laws and of their premises.
use Rattle.std.specs.Prelude.{ℕ, Bool, false, Option, Some, List, [], ◌∷◌, map, option_map}
use Rattle.fact_kinds.specs.declared.batch.Batch.{Batch}
use Rattle.fact_kinds.specs.declared.body.FactBody.TheVariants.{Component as ComponentFact, Class as ClassFact, Retire, Shutdown, Attempt, Delay}
use Rattle.fact_kinds.specs.declared.class.Designation.TheVariants.{Plain}
use Rattle.fact_kinds.specs.declared.class.Kind.TheVariants.{Valve}
use Rattle.fact_kinds.specs.declared.class.Service.TheVariants.{Gas, Heavy}
use Rattle.fact_kinds.specs.Facts.{Entry}
use Rattle.ldar_law.specs.declared.delay.Until.{Until}
use Rattle.ldar_law.specs.declared.equipment.Equipment.{Equipment}
use Rattle.ldar_law.specs.declared.event.Event.{Event}
use Rattle.ldar_law.specs.Equipment.{equipment_of, classes_of}
use Rattle.ldar_law.specs.Events.{events_in}
use Rattle.ldar_law.specs.Force.{limit_on}
use Rattle.ldar_law.specs.Happenings.{is_leak}
use Rattle.fact_kinds.specs.declared.class.Class.{Class}
use Rattle.fact_kinds.specs.declared.key.Key.{Key}
use Rattle.ldar_law.specs.Short.{date, class, entered_on, fact, calibrated, precise, measured, valve}
use Rattle.ldar_law.specs.ShortEvents.{reads, attempts}
use Rattle.ldar_law.specs.SmallOffice.{on, enters, sends, component, crude}
use Rattle.ldar_law.specs.Units.{known_of}

-- ---- registers

-- valve 1 begins on 2024-01-15 and retires on 2024-05-01; valve 2 begins on that day
abbrev pub one_retires_one_begins : List Batch
one_retires_one_begins =
    enters 1 (on (date 2024 1 15) crude ∷ on (date 2024 1 15) (component 1 Valve false Gas) ∷ on (date 2024 5 1) (Retire 1)
    ∷ on (date 2024 5 1) (component 2 Valve false Gas) ∷ []) ∷ []

-- the first day from which valve 1 is out of service, if it is known
abbrev pub retirement_of_1 : List Entry → Option (Option ℕ)
retirement_of_1 facts = option_map (λ item. item.retired) (equipment_of 1 facts)

-- the day from which valve 1 is in service
abbrev pub beginning_of_1 : List Entry → Option ℕ
beginning_of_1 facts = option_map (λ item. item.begin) (equipment_of 1 facts)

-- valve 1 is entered in May, and in January: the facts are out of order
abbrev pub out_of_order : List Entry
out_of_order = fact (date 2024 5 1) 0 (component 1 Valve false Gas) ∷ fact (date 2024 1 15) 0 (component 1 Valve false Gas) ∷ []

-- valve 1 is entered twice, in January and in May
abbrev pub entered_twice : List Batch
entered_twice =
    enters 1 (on (date 2024 1 15) crude ∷ on (date 2024 1 15) (component 1 Valve false Gas) ∷ on (date 2024 5 1) (component 1 Valve false Gas) ∷ []) ∷ []

-- valve 1 is entered in process unit 1, and then in unit 2
abbrev pub in_two_units : List Batch
in_two_units =
    enters 1 (on (date 2024 1 15) (component 1 Valve false Gas) ∷ on (date 2024 5 1) (ComponentFact 1 2 Valve false false (class Gas Plain)) ∷ []) ∷ []

-- the process unit of valve 1
abbrev pub unit_of_1 : List Entry → Option ℕ
unit_of_1 facts = option_map (λ item. item.unit) (equipment_of 1 facts)

-- valve 1 of a process unit that was not entered
abbrev pub without_its_unit : List Batch
without_its_unit = enters 1 (on (date 2024 1 15) (component 1 Valve false Gas) ∷ []) ∷ []

-- valve 1 begins before the startup of its process unit, which was entered first
abbrev pub before_its_unit : List Batch
before_its_unit = enters 1 (on (date 2024 3 1) crude ∷ on (date 2024 1 15) (component 1 Valve false Gas) ∷ []) ∷ []

-- valve 1 is entered again
abbrev pub entered_again : Batch
entered_again = enters 2 (on (date 2024 5 1) (component 1 Valve false Gas) ∷ [])

-- a process unit that starts up in 2098
abbrev pub too_late : List Batch
too_late = enters 1 (on (date 2098 1 1) crude ∷ []) ∷ []

-- ---- readings

-- a leak of valve 1 on 2024-02-20, with the tests of instrument 1, a delay until a shutdown, and the shutdown
abbrev pub delayed_leak : List Entry
delayed_leak =
    precise (date 2024 1 2) ∷ calibrated (date 2024 2 20) 300 500 ∷ measured (date 2024 2 20) 1 620
    ∷ fact (date 2024 3 1) 600 (Delay 1 1 9 (Some (date 2024 6 10))) ∷ fact (date 2024 6 1) 600 (Shutdown 1 14) ∷ []

-- the leak without the calibration, the delay and the shutdown
abbrev pub leak_without_tests : List Entry
leak_without_tests = precise (date 2024 1 2) ∷ measured (date 2024 2 20) 1 620 ∷ []

-- the leak without the shutdown
abbrev pub leak_without_shutdown : List Entry
leak_without_shutdown =
    precise (date 2024 1 2) ∷ calibrated (date 2024 2 20) 300 500 ∷ measured (date 2024 2 20) 1 620
    ∷ fact (date 2024 3 1) 600 (Delay 1 1 9 (Some (date 2024 6 10))) ∷ []

-- valve 1 of process unit 1
abbrev pub valve_1 : Equipment
valve_1 = valve 1 (date 2020 1 15)

-- valve 1 is in heavy liquid service from a day on
abbrev pub heavy_from : ℕ → List (Key × Class)
heavy_from day = entered_on day (class Heavy Plain) ∷ []

-- which events of a component are leaks
abbrev pub leaks_in : List Event → List Bool
leaks_in events = map (λ e. is_leak e.what) events

-- which events of valve 1 are leaks, by some facts
abbrev pub leaks_of_1 : List Entry → List Bool
leaks_of_1 facts = leaks_in (events_in valve_1 (classes_of 1 facts) (limit_on valve_1 (classes_of 1 facts)) facts)

-- the due days of the tags of valve 1
abbrev pub due_days_of_1 : List Entry → List Until
due_days_of_1 facts = map (λ tag. tag.repair_due) (known_of facts valve_1).tags

-- valve 1 leaks in February, is in heavy liquid service from May on, and retires in June
abbrev pub changing_valve : List Entry
changing_valve =
    precise (date 2024 1 2) ∷ calibrated (date 2024 2 20) 300 500 ∷ measured (date 2024 2 20) 1 620
    ∷ precise (date 2024 5 1) ∷ fact (date 2024 5 2) 0 (ClassFact 1 (class Heavy Plain))
    ∷ calibrated (date 2024 5 20) 300 500 ∷ measured (date 2024 5 20) 1 620 ∷ fact (date 2024 6 1) 600 (Retire 1) ∷ []

-- ---- events

-- a leak in February, repaired in March, clean in April, and leaking again on 2024-04-20
abbrev pub leaks_again : List Event
leaks_again =
    reads (date 2024 2 20) 620 ∷ attempts (date 2024 2 22) ∷ reads (date 2024 3 6) 20 ∷ reads (date 2024 4 2) 20 ∷ reads (date 2024 4 20) 620 ∷ []

-- ---- batches

-- two batches with the same identity, and facts with the same key
abbrev pub first_of_identity : Batch
first_of_identity = sends 1 (on (date 2024 2 22) (Attempt 1 false) ∷ [])

-- the second of these batches
abbrev pub second_of_identity : Batch
second_of_identity = sends 1 (on (date 2024 2 22) (Attempt 2 false) ∷ [])
