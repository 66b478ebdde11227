-- How the statements that write change the rows.
use Rattle.std.proofs.Common.{◌≡◌, ◌⊎◌, inl, inr, ℕ, suc, ◌+◌, ◌<◌, ℤ, pos, ◌+ℤ◌, List, [], ◌∷◌, ◌++◌, length, map, fold, Bool, true, false, cond, Some, None, Ok, Err, Result, OnOk, OnErr, IsTrue, refl, sym, ap, subst, ◌∙◌, arith, Less}
use Rattle.std.proofs.lemmas.Bool.Decides.{nat_tests}
use Rattle.std.proofs.lemmas.Int.{ints}
use Rattle.std.specs.List.Sorted.{IsPermutation}
use Rattle.sqlite_value.proofs.OrderLemmas.{value_cmp-Int}
use Rattle.sqlite_value.specs.Order.{value_cmp}
use Rattle.sqlite.specs.declared.types.Value.{Value}
use Rattle.sqlite.specs.declared.types.Value.TheVariants.{Null, Int}
use Rattle.sqlite.specs.Order.{Row}
use Rattle.sqlite.specs.Term.{eval_all}
use Rattle.sqlite.specs.Ops.{unary}
use Rattle.sqlite.specs.Query.{IsAnswer, output, page, Output}
use Rattle.sqlite.specs.Program.{overlay}
use Rattle.sqlite.specs.Schema.{Schema}
use Rattle.sqlite.specs.Kind.TheVariants.{Integer}
use Rattle.sqlite.specs.Command.TheVariants.{Insert, CreateTable}
use Rattle.sqlite.specs.Source.TheVariants.{Query as Queried}
use Rattle.sqlite.specs.Edit.{edit_of, edited, next_rowid, with_rowid}
use Rattle.sqlite.specs.Cast.{cast, cast_row}
use Rattle.sqlite.specs.Rowids.TheVariants.{Chosen}
use Rattle.sqlite.specs.Change.{created, next_tree}
use Rattle.sqlite.specs.Does.{Tally, Does, lacks_sequence}
use Rattle.sqlite.specs.Rows.{Written}
use Rattle.sqlite.specs.Tree.{Trees, rowid, put_row}
use Rattle.sqlite.specs.Listing.{understood}
use Rattle.sqlite.specs.Effect.{Database, Answers}
use Rattle.sqlite.specs.State.{State, mode_of, Writes, Executes, ExecutesIn, IsUnchanged, IsRolledBack, IsNotRun, RunsCommand, shows_rows, FailsToShow, FailsToQuery, Shown}
use Rattle.sqlite.proofs.Callers.{IsPlain, statement_of, runs_as, one_step, one_permutation}
use Rattle.sqlite.specs.declared.error.Error.{Error}
use Rattle.sqlite.specs.declared.error.Error.TheVariants.{ExecuteReturnedResults}
use Rattle.sqlite_resolve.specs.declared.compiled.Compiled.{Compiled}
use Rattle.sqlite_schema.specs.declared.command.Returning.{Returning}
use Rattle.std.specs.Prelude.{MatchBool, Option}
use Rattle.report_table.specs.Kept.{KeptRow}
use Rattle.report_table.specs.Rows.{filed, filed_schema, no_schema, kept_from, HasRows, IsBare}
use Rattle.report_table.specs.Statements.{make_text, insert_text, values_of}
use Rattle.report_table.proofs.Texts.{insert_query, alone, make_is, make_plain, insert_is, insert_plain}

either : (b : Bool) (x : Value) → cond b x x ≡ x
either true x = refl
either false x = refl

cast_null : cast Integer Null ≡ Null
unfolding unary
cast_null = either _ Null

cast_number : (n : ℕ) → cast Integer (Int (pos n)) ≡ Int (pos n)
unfolding unary
cast_number n = either _ (Int (pos n))

-- the values of a report have the types of their columns
cast_values : (row : KeptRow) → cast_row filed (Null ∷ values_of row) ≡ Null ∷ values_of row
cast_values row = rw (cast_null, cast_number row.unit, cast_number row.half, cast_number row.revision, cast_number row.day) refl

-- a part that returned a value did not stop
went : {B E R : Type 0} {b : B} {Stops : E → Type 0} → ((stop : E) × Stops stop × (Ok b ≡ Err stop)) ⊎ R → R
went (inl stopped) = absurd (let e = stopped.2 in cc)
went (inr on) = on

same_value : {B E : Type 0} {a b : B} → ◌≡◌ {A = Result B E} (Ok a) (Ok b) → a ≡ b
same_value e = cc

-- ---- rows numbered from 1

-- a smaller number is less as a value
pub lower_id : (m n : ℕ) → m < n → value_cmp (Int (pos m)) (Int (pos n)) ≡ Less
lower_id m n h = value_cmp-Int (pos m) (pos n) ∙ grind (arith, ints, nat_tests)

-- a row with the next rowid is added at the end
put_behind : (id : ℕ) (new : Row) (rows : List KeptRow) → rowid new ≡ Int (pos (id + length rows)) → put_row new (kept_from id rows) ≡ kept_from id rows ++ new ∷ []
put_behind id new [] is = refl
put_behind id new (row ∷ rows) is =
    rw (is, lower_id id (id + suc (length rows)) (omega arith)) (ap (λ x. (Int (pos id) ∷ values_of row) ∷ x) (put_behind (suc id) new rows (is ∙ ap (λ n. Int (pos n)) (omega arith))))

-- the table's rows with one more
kept_more : (id : ℕ) (rows : List KeptRow) (row : KeptRow) → kept_from id (rows ++ row ∷ []) ≡ kept_from id rows ++ (Int (pos (id + length rows)) ∷ values_of row) ∷ []
kept_more id [] row = ap (λ n. (Int (pos n) ∷ values_of row) ∷ []) (omega arith)
kept_more id (first ∷ rows) row =
    ap (λ x. (Int (pos id) ∷ values_of first) ∷ x) (kept_more (suc id) rows row ∙ ap (λ n. kept_from (suc id) rows ++ (Int (pos n) ∷ values_of row) ∷ []) (omega arith))

-- the next rowid is one past the last
next_id : (id : ℕ) (z : ℤ) (rows : List KeptRow) → z ≡ pos id → fold (λ _ r. (elim (rowid r) [ Int n ↦ n | _ ↦ pos 0 ]) +ℤ pos 1) z (kept_from id rows) ≡ pos (id + length rows)
next_id id z [] is = is ∙ ap pos (omega arith)
next_id id z (row ∷ rows) is = next_id (suc id) (pos id +ℤ pos 1) rows (omega (arith, ints)) ∙ ap pos (omega arith)

-- ---- the state around a statement

-- an unchanged state has the same rows
pub keeps_unchanged : (rows : List KeptRow) (old new : State) → HasRows rows old → IsUnchanged old new → HasRows rows new
keeps_unchanged rows old new h same = record {
  is_open = same.0.is_open;
  alone = same.0.mode ∙ h.alone;
  schema = ap (λ (d : Database). d.schema) same.0.now_is ∙ h.schema;
  kept = ap (λ (d : Database). d.trees 0) same.0.now_is ∙ h.kept;
  settled = same.0.now_is ∙ h.settled ∙ sym same.0.committed_is;
}

-- a state that was rolled back has the same rows
pub keeps_undone : (rows : List KeptRow) (old new : State) → HasRows rows old → IsRolledBack old new → IsTrue new.is_open → HasRows rows new
keeps_undone rows old new h back live =
    let both = back.undone live in
    let now = both.0 ∙ sym h.settled in
    record {
      is_open = live;
      alone = back.autocommit;
      schema = ap (λ (d : Database). d.schema) now ∙ h.schema;
      kept = ap (λ (d : Database). d.trees 0) now ∙ h.kept;
      settled = both.0 ∙ sym both.1;
    }

-- ---- the insert

-- the query of the insert returns its parameters as one row
given_row : (schema : Schema) (db : Trees) (params : Row) (rows : List Row) → Answers (record { schema = schema; trees = db }) (alone insert_query) params rows
    → rows ≡ eval_all insert_query.project (params ∷ []) ∷ []
given_row schema db params rows h =
    let a : IsAnswer insert_query (overlay db []) params rows = h.answer Null in
    let staged : a.staged ≡ (params ∷ []) ∷ [] = a.grouped in
    let o : Output = ([], eval_all insert_query.project (params ∷ [])) in
    let kept : a.kept ≡ o ∷ [] = a.distinct ∙ ap (map (output insert_query)) staged in
    let ordered = one_permutation o a.ordered (subst (λ k. IsPermutation k a.ordered) kept a.same) in
    a.shown ∙ ap (λ xs. page insert_query params (map (λ (p : Output). p.1) xs)) ordered

-- the insert adds the row at the end
pub adds : (rows : List KeptRow) (row : KeptRow) (old new : State) (count : ℕ) → HasRows rows old → Executes insert_text (values_of row) old new (Ok count) → HasRows (rows ++ row ∷ []) new
adds rows row old new count h ran =
    let params = values_of row in
    let db = old.now.trees in
    let command = Insert 0 (Queried (alone insert_query)) in
    let w = runs_as insert_text params old new filed_schema h.schema command insert_is insert_plain count ran in
    let text = statement_of insert_text (understood filed_schema insert_text) in
    let done = went (subst (λ s. Does old.step_limit (mode_of old) params (record old.now { schema = s }) text None command (Ok (w.tally, new.now))) h.schema w.changed) in
    let now = ap (λ (p : Tally × Database). p.1) (same_value (went (went done.2).2).2) in
    let given = went done.1 in
    let written = went (went given.2).2 in
    let counted = went written.2 in
    let trees : done.0.trees ≡ written.0 = ap (λ (it : Written). it.trees) (same_value counted.2) ∙ same_value counted.1 in
    let is_given = given_row filed_schema db params given.0 given.1 in
    let edit = edit_of db filed [] Chosen 0 given.0 in
    let kept = (one_step filed_schema _ db written.0 edit refl written.1).rows in
    let new_row : Row = Int (next_rowid (db 0)) ∷ values_of row in
    let put : edited db edit ≡ put_row new_row (db 0) = ap (λ all. edited db (edit_of db filed [] Chosen 0 all)) is_given ∙ ap (λ r. put_row (with_rowid Chosen (db 0) r) (db 0)) (cast_values row) in
    let id : next_rowid (db 0) ≡ pos (1 + length rows) = ap next_rowid h.kept ∙ next_id 1 (pos 1) rows refl in
    let behind : put_row new_row (db 0) ≡ kept_from 1 (rows ++ row ∷ []) =
    let put_it : Row = Int (pos (1 + length rows)) ∷ values_of row in
    ap (λ z. put_row (Int z ∷ values_of row) (db 0)) id ∙ ap (put_row put_it) h.kept ∙ put_behind 1 put_it rows refl ∙ sym (kept_more 1 rows row) in
    record {
      is_open = w.shown.is_open;
      alone = w.shown.mode ∙ h.alone;
      schema = ap (λ (d : Database). d.schema) now;
      kept = ap (λ (d : Database). d.trees 0) now ∙ ap (λ (t : Trees). t 0) trees ∙ kept ∙ put ∙ behind;
      settled = sym (w.shown.committed_is ∙ rw h.alone refl);
    }

-- ---- the make

-- the create statement makes an empty table
pub makes : (old new : State) (count : ℕ) → IsBare old → Executes make_text [] old new (Ok count) → HasRows [] new
makes old new count h ran =
    let w = subst (λ t. Writes old new None CreateTable t [] count) make_is.1 (runs_as make_text [] old new no_schema h.schema CreateTable make_is.0 make_plain count ran) in
    let all = went w.changed in
    let first = went all.1 in
    let made = first.1 in
    let both : Ok made.table ≡ Ok filed = sym made.defined ∙ make_is.2 in
    let same : made.table ≡ filed = cc in
    let schema : first.0.schema ≡ filed_schema = made.is ∙ ap (λ s. created s made.table) h.schema ∙ ap (created no_schema) same in
    let plain : lacks_sequence first.0.schema ≡ false = ap lacks_sequence schema in
    let now : new.now ≡ first.0 = ap (λ (p : Tally × Database). p.1) (same_value all.2) ∙ same_value (rw plain at first.2) in
    record {
      is_open = w.shown.is_open;
      alone = w.shown.mode ∙ h.alone;
      schema = ap (λ (d : Database). d.schema) now ∙ schema;
      kept = ap (λ (d : Database). d.trees 0) now ∙ subst (λ s. first.0.trees (next_tree s) ≡ []) h.schema made.empty;
      settled = sym (w.shown.committed_is ∙ rw h.alone refl);
    }

-- ---- a failed statement

-- after an error the rows are unchanged
after_fault : (rows : List KeptRow) (old new : State) → HasRows rows old → IsUnchanged old new ⊎ IsRolledBack old new → IsTrue new.is_open → HasRows rows new
after_fault rows old new h (inl same) live = keeps_unchanged rows old new h same
after_fault rows old new h (inr back) live = keeps_undone rows old new h back live

-- a statement that did not run leaves the state unchanged or rolled back
not_run : (sql : List ℕ) (params : Row) (old new : State) (e : Error) → IsNotRun old new sql params e → IsUnchanged old new ⊎ IsRolledBack old new
unfolding IsNotRun
not_run sql params old new e (inl refused) = inl refused.1
not_run sql params old new e (inr failed) = inr failed.3

-- a command that failed leaves the state unchanged or rolled back
command_failed : (sql : List ℕ) (params : Row) (old new : State) (c : Compiled) (e : Error) → RunsCommand old new sql c params (Err e) → IsUnchanged old new ⊎ IsRolledBack old new
command_failed sql params old new c e (inl refused) = inl refused.1
command_failed sql params old new c e (inr failed) = inr failed.3

-- a command outside of a transaction that failed leaves the state unchanged or rolled back
alone_failed : (b : Bool) (sql : List ℕ) (params : Row) (old new : State) (c : Compiled) (e : Error)
    → MatchBool b ((◌≡◌ {A = Result ℕ Error} (Err e) (Err ExecuteReturnedResults)) × IsUnchanged old new) (RunsCommand old new sql c params (Err e)) → IsUnchanged old new ⊎ IsRolledBack old new
alone_failed true sql params old new c e h = inl h.1
alone_failed false sql params old new c e h = command_failed sql params old new c e h

-- a refused statement leaves the rows unchanged
pub refused : (sql : List ℕ) (params : Row) (rows : List KeptRow) (old new : State) (e : Error) → HasRows rows old → Executes sql params old new (Err e) → IsTrue new.is_open → HasRows rows new
unfolding ExecutesIn
refused sql params rows old new e h (inl none) live = after_fault rows old new h (not_run sql params old new e none) live
refused sql params rows old new e h (inr ran) live = after_fault rows old new h (alone_failed (shows_rows false ran.0) sql _ old new ran.0 e ran.2) live

-- a query whose rows could not be returned leaves the state unchanged or rolled back
show_failed : (sql : List ℕ) (params : Row) (old new : State) (c : Compiled) (e : Error) (what : Option Returning) → FailsToShow old new sql c params e what → IsUnchanged old new ⊎ IsRolledBack old new
show_failed sql params old new c e None h = inl h.3
show_failed sql params old new c e (Some what) h = command_failed sql params old new c e h

-- a refused query leaves the rows unchanged
pub query_refused : (sql : List ℕ) (params : Row) (rows : List KeptRow) (old new : State) (e : Error) → HasRows rows old → FailsToQuery sql params old new e → IsTrue new.is_open → HasRows rows new
unfolding FailsToQuery
query_refused sql params rows old new e h (inl none) live = after_fault rows old new h (not_run sql params old new e none) live
query_refused sql params rows old new e h (inr ran) live = after_fault rows old new h (show_failed sql _ old new ran.0 e ran.0.returning ran.2) live

-- a query that returns rows leaves the rows unchanged
pub query_shown : (sql : List ℕ) (params : Row) (rows : List KeptRow) (old new : State) (out : List Row) → HasRows rows old → IsPlain (understood filed_schema sql)
    → Shown sql params old new out → HasRows rows new
unfolding Shown
query_shown sql params rows old new out h plain shown =
    let known = sym shown.1.is ∙ ap (λ s. understood s sql) h.schema in
    let bare = subst IsPlain (sym known) plain in
    keeps_unchanged rows old new h (rw bare.0 at shown.2).3

-- ---- by the result

-- the table after the create statement, by its result
pub make_made : (old new : State) (r : Result ℕ Error) → IsBare old → Executes make_text [] old new r → OnOk r (HasRows [] new)
make_made old new (Ok count) h ran = makes old new count h ran
make_made old new (Err e) h ran = tt

-- the rows after the insert, if it succeeded
pub insert_put : (rows : List KeptRow) (row : KeptRow) (old new : State) (r : Result ℕ Error) → HasRows rows old → Executes insert_text (values_of row) old new r
    → OnOk r (HasRows (rows ++ row ∷ []) new)
insert_put rows row old new (Ok count) h ran = adds rows row old new count h ran
insert_put rows row old new (Err e) h ran = tt

-- the rows after the insert, if it failed
pub insert_kept : (rows : List KeptRow) (row : KeptRow) (old new : State) (r : Result ℕ Error) → HasRows rows old → Executes insert_text (values_of row) old new r
    → OnErr r (IsTrue new.is_open → HasRows rows new)
insert_kept rows row old new (Ok count) h ran = tt
insert_kept rows row old new (Err e) h ran = refused insert_text (values_of row) rows old new e h ran
