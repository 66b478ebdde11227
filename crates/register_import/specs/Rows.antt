-- The rows of a file: their facts, or the number of the first bad row.
use Rattle.std.specs.Prelude.{◌≡◌, ℕ, ⊤, List, [], ◌∷◌, ◌++◌, Option, Some, None, Result, Ok, Err}
use Rattle.fact_kinds.specs.Stated.{Stated}
use Rattle.register_import.specs.declared.error.ImportError.{ImportError}
use Rattle.register_import.specs.declared.error.ImportError.TheVariants.{Row, Memory}

-- facts in order, or a bad row
abbrev pub Rows : Type 0
Rows = Result (List Stated) ℕ

-- facts before those of rows
abbrev pub behind : List Stated → Rows → Rows
behind front (Ok facts) = Ok (front ++ facts)
behind front (Err at) = Err at

-- a row with this number, then the rows after it
abbrev pub row_then : ℕ → Option Stated → Rows → Rows
row_then at None rest = Err at
row_then at (Some fact) rest = behind (fact ∷ []) rest

-- the error is the bad row, unless it is out of memory
abbrev pub TellsRow : {A : Type 0} → Result A ℕ → ImportError → Type 0
TellsRow said (Row at) = said ≡ Err at
TellsRow said Memory = ⊤
