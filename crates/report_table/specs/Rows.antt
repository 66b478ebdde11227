-- The table in the database's list of tables, and its rows of reports.
use Rattle.std.specs.Prelude.{◌≡◌, ℕ, suc, pos, Option, map, true, false, Some, None, IsTrue, codes, List, [], ◌∷◌}
use Rattle.sqlite.specs.Collation.TheVariants.{Binary}
use Rattle.sqlite.specs.declared.types.Value.TheVariants.{Null, Int}
use Rattle.sqlite.specs.declared.types.Value.{Value}
use Rattle.sqlite_value.specs.Order.{column, bytes}
use Rattle.sqlite.specs.Held.{Held, state}
use Rattle.sqlite.specs.Steps.{over_memory}
use Rattle.sqlite_trees.specs.declared.memory.MemStore.{MemStore}
use Rattle.sqlite.specs.Order.{Row}
use Rattle.sqlite.specs.Table.{Table}
use Rattle.sqlite.specs.Schema.{Schema}
use Rattle.sqlite.specs.Kind.{Kind}
use Rattle.sqlite.specs.Kind.TheVariants.{Integer, Blob}
use Rattle.sqlite.specs.Change.{created}
use Rattle.sqlite.specs.State.{State}
use Rattle.sqlite_schema.specs.declared.schema.Column.{Column}
use Rattle.report_table.specs.Kept.{KeptRow}
use Rattle.report_table.specs.Statements.{values_of}

-- a column of this name and type, as the statement creates it
abbrev pub column_of : List ℕ → Kind → Column
column_of name kind = record { name = name; kind = kind; is_strict = true; not_null = true; default = Null; collation = Binary }

-- the table of filed reports
abbrev pub filed : Table
filed = record {
  name = codes "filed";
  tree = 0;
  columns = column_of (codes "unit") Integer ∷ column_of (codes "half") Integer ∷ column_of (codes "revision") Integer ∷ column_of (codes "day") Integer
      ∷ column_of (codes "months") Blob ∷ column_of (codes "delays") Blob ∷ column_of (codes "stops") Blob ∷ [];
  key = None;
  primary = 1 ∷ 2 ∷ 3 ∷ [];
  uniques = (1 ∷ 2 ∷ 3 ∷ []) ∷ [];
  orders = (record { digits = 0 }) ∷ [];
  checks = [];
  references = [];
  computed = [];
  stamps = record { places = []; terms = []; formats = [] };
  is_counted = false;
}

abbrev pub no_schema : Schema
no_schema = record { tables = []; indexes = []; views = [] }

-- the schema with only this table
abbrev pub filed_schema : Schema
filed_schema = created no_schema filed

-- the rows of the reports, with rowids that count up from this number
abbrev pub kept_from : ℕ → List KeptRow → List Row
kept_from id [] = []
kept_from id (row ∷ more) = (Int (pos id) ∷ values_of row) ∷ kept_from (suc id) more

-- outside of a transaction, the table has the rows of these reports
pub record HasRows (rows : List KeptRow) (s : State) : Type 0 where
  pub is_open : IsTrue s.is_open
  pub alone : s.in_transaction ≡ false
  pub schema : s.now.schema ≡ filed_schema
  pub kept : s.now.trees 0 ≡ kept_from 1 rows
  pub settled : s.now ≡ s.committed

-- a database in memory before the table is created
pub record IsBare (s : State) : Type 0 where
  pub is_open : IsTrue s.is_open
  pub alone : s.in_transaction ≡ false
  pub schema : s.now.schema ≡ no_schema
  pub settled : s.now ≡ s.committed

-- ---- the rows in a store in memory

-- the number in a value, or 0
abbrev pub nat_in : Value → ℕ
nat_in (Int (pos n)) = n
nat_in _ = 0

-- the kept row in a row of the table
abbrev pub row_in : Row → KeptRow
row_in r = record {
  unit = nat_in (column r 1);
  half = nat_in (column r 2);
  revision = nat_in (column r 3);
  day = nat_in (column r 4);
  months = bytes (column r 5);
  delays = bytes (column r 6);
  stops = bytes (column r 7);
}

-- the rows of a store that was opened; a store that was not opened has none
abbrev pub rows_of : Option (Held MemStore) → List KeptRow
rows_of None = []
rows_of (Some c) = map row_in ((state over_memory c).now.trees 0)

-- the store has the rows that are read from it
abbrev pub IsKept : Option (Held MemStore) → Type 0
IsKept None = Unit {0}
IsKept (Some c) = HasRows (rows_of (Some c)) (state over_memory c)
