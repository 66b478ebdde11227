-- A small history for examples of stirred facts.
use Rattle.std.specs.Prelude.{ℕ, false, List, [], ◌∷◌, ◌++◌}
use Rattle.fact_kinds.specs.declared.body.FactBody.TheVariants.{Unit as UnitFact, Component as ComponentFact, Calibration, Reading}
use Rattle.fact_kinds.specs.declared.body.Purpose.TheVariants.{Routine}
use Rattle.fact_kinds.specs.declared.class.Designation.TheVariants.{Plain}
use Rattle.fact_kinds.specs.declared.class.Kind.TheVariants.{Valve}
use Rattle.fact_kinds.specs.declared.class.Service.TheVariants.{Gas}
use Rattle.fact_kinds.specs.Facts.{Entry}
use Rattle.ldar_law.specs.Short.{date, fact, class, calibrated, precise}
use Rattle.ldar_law.specs.Stirred.{touched, stirred}

-- an entry of a valve in a process unit
abbrev pub enters_valve : ℕ → ℕ → ℕ → Entry
enters_valve day component unit = fact day 100 (ComponentFact component unit Valve false false (class Gas Plain))

-- a reading of a valve with an instrument
abbrev pub reads_with : ℕ → ℕ → ℕ → Entry
reads_with instrument day component = fact day 600 (Reading component instrument 1 Routine 20 0)

-- valves 1 and 2 are in unit 1 and valve 3 in unit 2. Valves 1 and 3 are read on 2024-02-29 with instrument 1, and valve 2 on
-- the next day with instrument 2.
abbrev pub adopted : List Entry
adopted =
    fact (date 2020 1 15) 100 (UnitFact 1 false []) ∷ fact (date 2020 1 15) 100 (UnitFact 2 false [])
    ∷ enters_valve (date 2020 1 15) 1 1 ∷ enters_valve (date 2020 1 15) 2 1 ∷ enters_valve (date 2020 1 15) 3 2 ∷ precise (date 2024 1 2)
    ∷ calibrated (date 2024 2 29) 300 500 ∷ reads_with 1 (date 2024 2 29) 1 ∷ reads_with 1 (date 2024 2 29) 3
    ∷ fact (date 2024 3 1) 300 (Calibration 2 500) ∷ reads_with 2 (date 2024 3 1) 2 ∷ []

-- the valves of unit 1 that are touched by one more fact
abbrev pub touched_by : Entry → List ℕ
touched_by e = touched (adopted ++ e ∷ []) (e ∷ []) 1

-- the number of facts that some more facts stir for a unit
abbrev pub stirred_by : List Entry → ℕ → ℕ
stirred_by news unit = stirred (adopted ++ news) news unit
