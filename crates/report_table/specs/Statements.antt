-- The statements on the table of filed reports, their parameters, and the rows that they return.
use Rattle.std.specs.Prelude.{◌≡◌, ◌≤◌, ◌⊎◌, ℕ, pos, Bool, ◌&&◌, nat_eq, List, [], ◌∷◌, codes}
use Rattle.std.specs.List.{AllByRecursion}
use Rattle.sqlite_value.specs.declared.value.Value.{Value}
use Rattle.sqlite_value.specs.declared.value.Value.TheVariants.{Int, Blob}
use Rattle.sqlite_value.specs.Order.{Row}
use Rattle.report_table.specs.Kept.{KeptRow}

abbrev pub make_text : List ℕ
make_text = codes "CREATE TABLE IF NOT EXISTS filed (unit INTEGER NOT NULL, half INTEGER NOT NULL, revision INTEGER NOT NULL, day INTEGER NOT NULL, months BLOB NOT NULL, delays BLOB NOT NULL, stops BLOB NOT NULL, PRIMARY KEY (unit, half, revision)) STRICT"

abbrev pub insert_text : List ℕ
insert_text = codes "INSERT INTO filed (unit, half, revision, day, months, delays, stops) SELECT ?1, ?2, ?3, ?4, ?5, ?6, ?7"

abbrev pub latest_text : List ℕ
latest_text = codes "SELECT revision, day, months, delays, stops FROM filed WHERE unit = ?1 AND half = ?2 ORDER BY revision DESC LIMIT 1"

abbrev pub revision_text : List ℕ
revision_text = codes "SELECT revision, day, months, delays, stops FROM filed WHERE unit = ?1 AND half = ?2 AND revision = ?3"

-- a number as the table keeps it
abbrev pub number : ℕ → Value
number n = Int (pos n)

-- the values of a row, in the order of the columns
abbrev pub values_of : KeptRow → List Value
values_of row =
    number row.unit ∷ number row.half ∷ number row.revision ∷ number row.day
    ∷ Blob row.months ∷ Blob row.delays ∷ Blob row.stops ∷ []

-- the columns of a row that a select returns
abbrev pub shown_of : KeptRow → Row
shown_of row = number row.revision ∷ number row.day ∷ Blob row.months ∷ Blob row.delays ∷ Blob row.stops ∷ []

-- the parameters for a unit's half
abbrev pub key_of : ℕ → ℕ → List Value
key_of unit half = number unit ∷ number half ∷ []

-- the parameters for a revision of a unit's half
abbrev pub place_of : ℕ → ℕ → ℕ → List Value
place_of unit half revision = number unit ∷ number half ∷ number revision ∷ []

-- ---- the rows that are searched

-- the row is of this unit and half
abbrev pub is_for : ℕ → ℕ → KeptRow → Bool
is_for unit half row = nat_eq row.unit unit && nat_eq row.half half

-- the row is of this unit, half and revision
abbrev pub is_at : ℕ → ℕ → ℕ → KeptRow → Bool
is_at unit half revision row = is_for unit half row && nat_eq row.revision revision

abbrev pub IsAmong : KeptRow → List KeptRow → Type 0
IsAmong row [] = ⊥
IsAmong row (other ∷ rows) = (other ≡ row) ⊎ IsAmong row rows

-- the row is one of these, and no other has a greater revision
pub record IsLast (rows : List KeptRow) (row : KeptRow) : Type 0 where
  pub among : IsAmong row rows
  pub last : AllByRecursion (λ other. other.revision ≤ row.revision) rows

-- the result of a select of the last of these rows; empty if there are no rows
abbrev pub ShowsLast : List KeptRow → List Row → Type 0
ShowsLast rows [] = rows ≡ []
ShowsLast rows (shown ∷ []) = (row : KeptRow) × IsLast rows row × (shown ≡ shown_of row)
ShowsLast rows (shown ∷ more ∷ others) = ⊥

-- the result of a select of a row by its place, if no two rows have the same place; empty if there are no rows
abbrev pub ShowsOne : List KeptRow → List Row → Type 0
ShowsOne rows [] = rows ≡ []
ShowsOne rows (shown ∷ others) = (row : KeptRow) × IsAmong row rows × (shown ≡ shown_of row)
