-- Values for the worked examples: process unit 1 with pumps 3 and 5 and valve 7, entered on 2024-01-01, and rows of seal files.
use Rattle.std.specs.Prelude.{ℕ, false, List, [], ◌∷◌, codes}
use Rattle.fact_kinds.specs.declared.body.FactBody.{FactBody}
use Rattle.fact_kinds.specs.declared.body.FactBody.TheVariants.{Unit as UnitFact, Component as ComponentFact}
use Rattle.fact_kinds.specs.declared.class.Kind.{Kind}
use Rattle.fact_kinds.specs.declared.class.Kind.TheVariants.{Valve, Pump}
use Rattle.fact_kinds.specs.declared.class.Service.TheVariants.{Light}
use Rattle.fact_kinds.specs.Facts.{Entry}
use Rattle.ldar_law.specs.SmallRegister.{plain}
use Rattle.pump_seals.specs.declared.row.SealRow.{SealRow}
use Rattle.pump_seals.specs.declared.row.SealWhat.{SealWhat}

-- a fact of 2024-01-01 in a batch of the office
abbrev pub entry : ℕ → FactBody → Entry
entry index body =
    (record { day = 19_723; minute = 0; handheld = 0; number = 1; index = index }, record { day = 19_723; minute = 0; body = body })

-- a component of a kind in a process unit
abbrev pub component : ℕ → ℕ → Kind → FactBody
component number unit kind = ComponentFact number unit kind false false (plain Light)

-- units 1 and 2; pumps 3 and 5 and valve 7 of unit 1, and pump 9 of unit 2
abbrev pub register : List Entry
register =
    entry 0 (UnitFact 1 false (codes "U-1")) ∷ entry 1 (UnitFact 2 false (codes "U-2")) ∷ entry 2 (component 3 1 Pump) ∷ entry 3 (component 5 1 Pump)
    ∷ entry 4 (component 7 1 Valve) ∷ entry 5 (component 9 2 Pump) ∷ []

-- a row with its number, at midnight
abbrev pub row : ℕ → SealWhat → ℕ → ℕ → SealRow
row at what component day = record { at = at; what = what; component = component; day = day; minute = 0 }
