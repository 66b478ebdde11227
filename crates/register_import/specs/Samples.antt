-- Values for the worked examples: a component's record, and a process unit's table.
use Rattle.std.specs.Prelude.{ℕ, ◌+◌, false, pos, List, [], ◌∷◌, ◌++◌, codes, take, drop}
use Rattle.toml.specs.Data.{Data, string, integer, boolean, table, Members, no_members, member}
use Rattle.fact_kinds.specs.declared.class.Designation.{Designation}
use Rattle.fact_kinds.specs.declared.class.Kind.TheVariants.{Valve}
use Rattle.fact_kinds.specs.declared.class.Service.TheVariants.{Gas}
use Rattle.fact_kinds.specs.declared.body.FactBody.TheVariants.{Unit as UnitFact, Component as ComponentFact}
use Rattle.fact_kinds.specs.Stated.{Stated}

-- ---- components

-- the number of 2020-01-15
abbrev pub january_15 : ℕ
january_15 = 18_276

-- the record of valve 1 in gas service
abbrev pub valve_row : List (List ℕ)
valve_row =
    codes "1" ∷ codes "1" ∷ codes "valve" ∷ codes "gas" ∷ codes "none" ∷ codes "0" ∷ codes "1" ∷ codes "0" ∷ codes "0" ∷ codes "2020-01-15" ∷ []

-- the record with another field at a place (from 0)
abbrev pub with_field : ℕ → List ℕ → List (List ℕ)
with_field place field = take place valve_row ++ field ∷ drop (place + 1) valve_row

-- the record with this designation and plan
abbrev pub designated : List ℕ → List ℕ → List (List ℕ)
designated designation plan = take 4 valve_row ++ designation ∷ plan ∷ drop 6 valve_row

-- the fact of a valve in gas service, with this number and designation
abbrev pub valve : ℕ → Designation → ℕ → Stated
valve n designation plan =
    record {
      day = january_15;
      minute = 0;
      body = ComponentFact n 1 Valve false false (record { service = Gas; designation = designation; plan = plan; month = 1 });
    }

-- ---- process units

-- a table of four values, with its keys in byte order
abbrev pub table_of : Data → Data → Data → Data → Members
table_of name number older startup =
    member (codes "name") name (member (codes "number") number (member (codes "older") older (member (codes "startup") startup no_members)))

-- process unit 1, CRUDE
abbrev pub crude_members : Members
crude_members = table_of (string (codes "CRUDE")) (integer (pos 1)) (boolean false) (string (codes "2020-01-15"))

-- process unit 1 as an element
abbrev pub crude_row : Data
crude_row = table crude_members

-- the fact of process unit 1
abbrev pub crude : Stated
crude = record { day = january_15; minute = 0; body = UnitFact 1 false (codes "CRUDE") }
