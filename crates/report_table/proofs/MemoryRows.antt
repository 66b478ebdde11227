-- The rows in a store in memory.
use Rattle.std.proofs.Common.{◌≡◌, ℕ, suc, List, [], ◌∷◌, ◌++◌, map, filter, Some, Ok, Err, Result, OnOk, OnErr, IsTrue, refl, sym, ap, subst, ◌∙◌}
use Rattle.sqlite.specs.Held.{Held, state}
use Rattle.sqlite.specs.Steps.{over_memory, IsEmpty}
use Rattle.sqlite_trees.specs.declared.memory.MemStore.{MemStore}
use Rattle.std.specs.Prelude.{Option}
use Rattle.std.proofs.Common.{Bool, true, false, cond, inl, inr}
use Rattle.std.proofs.lemmas.Bool.Decides.{nat_tests}
use Rattle.std.proofs.Common.{arith}
use Rattle.sqlite.specs.Order.{Row}
use Rattle.report_table.specs.Statements.{is_for, is_at, IsAmong, IsLast, ShowsLast, ShowsOne, shown_of}
use Rattle.report_table.specs.declared.filed_row.FiledRow.{FiledRow}
use Rattle.report_table.specs.Given.{kept_as, ReadsAs}
use Rattle.std.specs.Prelude.{slice_get, None}
use Rattle.report_table.specs.Kept.{KeptRow}
use Rattle.report_table.specs.Rows.{kept_from, row_in, rows_of, HasRows, IsKept, IsBare}

-- kept rows are read back as they are
read_back : (id : ℕ) (rows : List KeptRow) → map row_in (kept_from id rows) ≡ rows
read_back id [] = refl
read_back id (row ∷ rows) = ap (λ more. row ∷ more) (read_back (suc id) rows)

-- the rows of a store are those that its state has
pub rows_are : (rows : List KeptRow) (c : Held MemStore) → HasRows rows (state over_memory c) → rows_of (Some c) ≡ rows
rows_are rows c h = ap (map row_in) h.kept ∙ read_back 1 rows

-- a store with some rows has the rows that are read from it
pub keeps : (rows : List KeptRow) (c : Held MemStore) → HasRows rows (state over_memory c) → IsKept (Some c)
keeps rows c h = subst (λ r. HasRows r (state over_memory c)) (sym (rows_are rows c h)) h

-- a limit of steps does not change the rows
pub limited : (rows : List KeptRow) (c : Held MemStore) (limit : Option ℕ) → HasRows rows (state over_memory c) → HasRows rows (state over_memory (record c { step_limit = limit }))
limited rows c limit h = record { is_open = h.is_open; alone = h.alone; schema = h.schema; kept = h.kept; settled = h.settled }

pub bare : (c : Held MemStore) → IsEmpty (state over_memory c) → IsBare (state over_memory c)
bare c h = record { is_open = h.0.is_open; alone = h.0.autocommit; schema = h.2; settled = h.0.clean }

-- after an insert the store still has the rows that are read from it
pub inserted_keeps : {E : Type 0} (rows : List KeptRow) (row : KeptRow) (c : Held MemStore) (r : Result ℕ E) → OnOk r (HasRows (rows ++ row ∷ []) (state over_memory c))
    → OnErr r (IsTrue (state over_memory c).is_open → HasRows rows (state over_memory c)) → IsKept (Some c)
inserted_keeps rows row c (Ok n) ok err = keeps (rows ++ row ∷ []) c ok
inserted_keeps rows row c (Err e) ok err = keeps rows c (err refl)

-- after an insert that succeeded, the rows have the new one at the end
pub inserted_put : {E : Type 0} (rows : List KeptRow) (row : KeptRow) (c : Held MemStore) (r : Result ℕ E) → OnOk r (HasRows (rows ++ row ∷ []) (state over_memory c))
    → OnOk r (rows_of (Some c) ≡ rows ++ row ∷ [])
inserted_put rows row c (Ok n) ok = rows_are (rows ++ row ∷ []) c ok
inserted_put rows row c (Err e) ok = tt

-- after an insert that failed, the rows are unchanged
pub inserted_unchanged : {E : Type 0} (rows : List KeptRow) (c : Held MemStore) (r : Result ℕ E) → OnErr r (IsTrue (state over_memory c).is_open → HasRows rows (state over_memory c))
    → OnErr r (rows_of (Some c) ≡ rows)
inserted_unchanged rows c (Ok n) err = tt
inserted_unchanged rows c (Err e) err = rows_are rows c (err refl)

-- ---- a row that was found

-- a selected row of a list with one more passes
chosen_step : (p : KeptRow → Bool) (other row : KeptRow) (rest : List KeptRow) (b : Bool) → p other ≡ b → (IsAmong row rest → p row ≡ true)
    → IsAmong row (cond b (other ∷ rest) rest) → p row ≡ true
chosen_step p other row rest true is more (inl same) = subst (λ r. p r ≡ true) same is
chosen_step p other row rest true is more (inr later) = more later
chosen_step p other row rest false is more later = more later

-- a chosen row passes
pub chosen_has : (p : KeptRow → Bool) (rows : List KeptRow) (row : KeptRow) → IsAmong row (filter p rows) → p row ≡ true
chosen_has p [] row among = absurd among
chosen_has p (other ∷ rows) row among = chosen_step p other row (filter p rows) (p other) refl (chosen_has p rows row) among

-- a row is determined by its unit and half and by the columns that a select returns
same_row : (row found : KeptRow) → row.unit ≡ found.unit → row.half ≡ found.half → shown_of row ≡ shown_of found → row ≡ found
same_row row found unit half shown =
    let revision : row.revision ≡ found.revision = cc in
    let day : row.day ≡ found.day = cc in
    let months : row.months ≡ found.months = cc in
    let delays : row.delays ≡ found.delays = cc in
    let stops : row.stops ≡ found.stops = cc in
    λ i. record { unit = unit i; half = half i; revision = revision i; day = day i; months = months i; delays = delays i; stops = stops i }

-- the returned columns of a row that was read
shown_as : (row : Row) (found : FiledRow) (kept : KeptRow) → row ≡ shown_of kept → ReadsAs row found → shown_of kept ≡ shown_of (kept_as found)
shown_as row found kept is reads =
    let it = subst (λ r. ReadsAs r found) is reads in
    λ i. it.revision i ∷ it.day i ∷ it.months i ∷ it.delays i ∷ it.stops i ∷ []

-- the row that was read is the last one of a unit's half
pub found_last : (unit half : ℕ) (all : List KeptRow) (shown : List Row) (row : Row) (found : FiledRow) → slice_get shown 0 ≡ Some row
    → (found.unit ≡ unit) × (found.half ≡ half) → ReadsAs row found → ShowsLast (filter (is_for unit half) all) shown
    → IsLast (filter (is_for unit half) all) (kept_as found)
found_last unit half all [] row found first asked reads h = absurd (let e = first in cc)
found_last unit half all (shown ∷ []) row found first asked reads h =
    let same : row ≡ shown = cc in
    let has = chosen_has (is_for unit half) all h.0 h.1.among in
    let both : (h.0.unit ≡ unit) × (h.0.half ≡ half) = grind (arith, nat_tests, has) in
    subst (IsLast (filter (is_for unit half) all))
    (same_row h.0 (kept_as found) (both.0 ∙ sym asked.0) (both.1 ∙ sym asked.1) (shown_as row found h.0 (same ∙ h.2) reads)) h.1
found_last unit half all (shown ∷ another ∷ others) row found first asked reads h = absurd h

-- the row that was read is the row of a revision
pub found_one : (unit half revision : ℕ) (all : List KeptRow) (shown : List Row) (row : Row) (found : FiledRow) → slice_get shown 0 ≡ Some row
    → (found.unit ≡ unit) × (found.half ≡ half) → ReadsAs row found → ShowsOne (filter (is_at unit half revision) all) shown
    → IsAmong (kept_as found) (filter (is_at unit half revision) all)
found_one unit half revision all [] row found first asked reads h = absurd (let e = first in cc)
found_one unit half revision all (shown ∷ others) row found first asked reads h =
    let same : row ≡ shown = cc in
    let has = chosen_has (is_at unit half revision) all h.0 h.1 in
    let both : (h.0.unit ≡ unit) × (h.0.half ≡ half) = grind (arith, nat_tests, has) in
    subst (λ r. IsAmong r (filter (is_at unit half revision) all))
    (same_row h.0 (kept_as found) (both.0 ∙ sym asked.0) (both.1 ∙ sym asked.1) (shown_as row found h.0 (same ∙ h.2) reads)) h.1

-- if nothing is returned, there is no last row
pub none_last : (rows : List KeptRow) (shown : List Row) → slice_get shown 0 ≡ None → ShowsLast rows shown → rows ≡ []
none_last rows [] none h = h
none_last rows (row ∷ others) none h = absurd (let e = none in cc)

-- if nothing is returned, there is no row of the revision
pub none_one : (rows : List KeptRow) (shown : List Row) → slice_get shown 0 ≡ None → ShowsOne rows shown → rows ≡ []
none_one rows [] none h = h
none_one rows (row ∷ others) none h = absurd (let e = none in cc)
