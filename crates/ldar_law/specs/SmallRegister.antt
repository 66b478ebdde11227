-- Small registers for examples: process unit 1, which started up on 2020-01-15, and some components.
use Rattle.std.specs.Prelude.{ℕ, Bool, true, false, nat_le, Option, List, [], ◌∷◌, option_map, codes}
use Rattle.fact_kinds.specs.declared.batch.Batch.{Batch}
use Rattle.fact_kinds.specs.declared.body.FactBody.{FactBody}
use Rattle.fact_kinds.specs.declared.body.FactBody.TheVariants.{Unit as UnitFact, Component as ComponentFact, Class as ClassFact, Retire, Election, Shutdown}
use Rattle.fact_kinds.specs.declared.class.Class.{Class}
use Rattle.fact_kinds.specs.declared.class.Designation.TheVariants.{Plain}
use Rattle.fact_kinds.specs.declared.class.Kind.{Kind}
use Rattle.fact_kinds.specs.declared.class.Kind.TheVariants.{Valve, Pump, Relief}
use Rattle.fact_kinds.specs.declared.class.Service.{Service}
use Rattle.fact_kinds.specs.declared.class.Service.TheVariants.{Gas, Light, Heavy}
use Rattle.fact_kinds.specs.Facts.{facts_of, facts_to}
use Rattle.fact_kinds.specs.Stated.{Stated}
use Rattle.ldar_law.specs.Equipment.{equipment_of}
use Rattle.ldar_law.specs.Force.{class_in_force, is_in_service}
use Rattle.ldar_law.specs.Limits.{limit_of}
use Rattle.ldar_law.specs.Short.{date}

-- a class with no designation
abbrev pub plain : Service → Class
plain service = record { service = service; designation = Plain; plan = 0; month = 1 }

-- a fact of a day and a minute
abbrev pub at : ℕ → ℕ → FactBody → Stated
at day minute body = record { day = day; minute = minute; body = body }

-- a batch of the office's own entries
abbrev pub entered : ℕ → List Stated → Batch
entered number facts = record { handheld = 0; number = number; facts = facts }

-- a reading of this many ppm reaches the leak definition
abbrev pub reaches : Kind → Bool → Service → ℕ → Bool
reaches kind monomer service ppm = nat_le (limit_of kind monomer (plain service)) ppm

-- unit 1, started up on 2020-01-15; valve 7 from 2020-02-01 in gas service, from 2020-02-08 in heavy liquid service
abbrev pub valve_that_changes : List Batch
valve_that_changes =
    entered 1 (at (date 2020 1 15) 0 (UnitFact 1 false (codes "U-1")) ∷ at (date 2020 2 1) 0 (ComponentFact 7 1 Valve false false (plain Gas))
    ∷ at (date 2020 2 8) 0 (ClassFact 7 (plain Heavy)) ∷ []) ∷ []

-- the service of valve 7 in force
abbrev pub service_on : List Batch → ℕ → Option Service
service_on history day = option_map (λ class. class.service) (class_in_force 7 (facts_of history) day)

-- two classes of one day; the one that arrived last has the earlier minute
abbrev pub two_classes : List Batch
two_classes =
    entered 1 (at (date 2020 2 1) 0 (ComponentFact 7 1 Valve false false (plain Gas)) ∷ at (date 2020 2 8) 60 (ClassFact 7 (plain Heavy)) ∷ [])
    ∷ entered 2 (at (date 2020 2 8) 30 (ClassFact 7 (plain Light)) ∷ []) ∷ []

-- a valve that is retired twice, first on 2020-02-11
abbrev pub retired_valve : List Batch
retired_valve =
    entered 1 (at (date 2020 2 1) 0 (ComponentFact 7 1 Valve false false (plain Gas)) ∷ at (date 2020 2 18) 0 (Retire 7) ∷ [])
    ∷ entered 2 (at (date 2020 2 11) 0 (Retire 7) ∷ []) ∷ []

-- whether valve 7 is in service on a day, as of a view day
abbrev pub serves : List Batch → ℕ → ℕ → Option Bool
serves history view day = option_map (λ item. is_in_service item day) (equipment_of 7 (facts_to view history))

-- three components of unit 1, two of them (3 and 9) retired, and one of unit 2
abbrev pub two_units : List Batch
two_units =
    entered 1 (at (date 2020 2 1) 0 (ComponentFact 9 1 Valve false false (plain Gas)) ∷ at (date 2020 2 1) 0 (ComponentFact 3 1 Pump false false (plain Light))
    ∷ at (date 2020 2 2) 0 (ComponentFact 5 2 Relief false false (plain Gas)) ∷ at (date 2020 2 2) 0 (ComponentFact 7 1 Valve false false (plain Gas))
    ∷ at (date 2020 2 3) 0 (Retire 3) ∷ at (date 2020 2 3) 0 (Retire 9) ∷ []) ∷ []

-- shutdowns of unit 1: thirty days from 2020-03-01, and one that the calendar cuts to two days; and one of each other unit
abbrev pub shutdowns : List Batch
shutdowns = entered 1 (at (date 2099 12 30) 0 (Shutdown 1 10) ∷ at (date 2020 3 1) 0 (Shutdown 1 30)
    ∷ at (date 2020 4 1) 0 (Shutdown 2 5) ∷ at (date 2020 5 1) 0 (Shutdown 3 7) ∷ []) ∷ []

-- elections of three units on 2024-07-01
abbrev pub elections : List Batch
elections = entered 1 (at (date 2024 7 1) 0 (Election 1 1 (date 2024 4 1)) ∷ at (date 2024 7 1) 0 (Election 2 3 (date 2024 4 1))
    ∷ at (date 2024 7 1) 0 (Election 3 0 (date 2024 4 1)) ∷ []) ∷ []

-- units 3, 1 and 2
abbrev pub three_units : List Batch
three_units = entered 1 (at (date 2020 1 15) 0 (UnitFact 3 false (codes "U-3")) ∷ at (date 2020 1 16) 0 (UnitFact 1 false (codes "U-1"))
    ∷ at (date 2020 1 17) 0 (UnitFact 2 true (codes "U-2")) ∷ []) ∷ []
