-- Values for the worked examples: the fields of a record, and a row.
use Rattle.std.specs.Prelude.{ℕ, List, [], ◌∷◌, codes}
use Rattle.pump_seals.specs.declared.row.SealRow.{SealRow}
use Rattle.pump_seals.specs.declared.row.SealWhat.{SealWhat}

-- the five fields of a record
abbrev pub fields : List ℕ → List ℕ → List ℕ → List ℕ → List ℕ → List (List ℕ)
fields what component day minute value = what ∷ component ∷ day ∷ minute ∷ value ∷ []

-- the five fields of the header
abbrev pub header : List (List ℕ)
header = fields (codes "what") (codes "component") (codes "day") (codes "minute") (codes "value")

-- a row with its number
abbrev pub row : ℕ → SealWhat → ℕ → ℕ → ℕ → SealRow
row at what component day minute = record { at = at; what = what; component = component; day = day; minute = minute }
