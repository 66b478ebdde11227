-- The results of the statements that read.
use Rattle.std.proofs.Common.{◌≡◌, ◌⊎◌, inl, inr, ℕ, zero, suc, ◌+◌, ◌<◌, ◌≤◌, pos, List, [], ◌∷◌, ◌++◌, map, filter, take, Bool, true, false, ◌&&◌, cond, nat_eq, slice_index_or, All, Some, Ok, refl, sym, ap, subst, ◌∙◌, arith, Equal}
use Rattle.std.proofs.lemmas.Bool.Decides.{nat_tests}
use Rattle.std.proofs.lemmas.Int.{ints}
use Rattle.std.specs.List.{AllByRecursion, flat_map, list_all}
use Rattle.std.specs.List.Sorted.{IsPermutation, IsSorted}
use Rattle.std.specs.Ordering.{is_lt, is_eq, ordering_then}
use Rattle.std.proofs.lemmas.List.Sorted.{length_permutation, All-permutation, IsPermutation-sym}
use Rattle.sqlite_value.proofs.OrderLemmas.{value_cmp-Int}
use Rattle.sqlite_value.specs.Order.{value_cmp, column}
use Rattle.sqlite_sql.specs.declared.ops.BinaryOp.TheVariants.{Compare}
use Rattle.sqlite_sql.specs.declared.ops.CompareOp.TheVariants.{Eq}
use Rattle.sqlite.specs.Collation.TheVariants.{Binary}
use Rattle.sqlite.specs.declared.types.Value.{Value}
use Rattle.sqlite.specs.declared.types.Value.TheVariants.{Null, Int}
use Rattle.sqlite.specs.Order.{Row}
use Rattle.sqlite.specs.Term.{Env, holds}
use Rattle.sqlite.specs.Ops.{binary, is_true, from_truth}
use Rattle.sqlite.specs.Query.{Query, end, IsAnswer, matches_as, output, output_cmp, Output}
use Rattle.sqlite.specs.Program.{overlay}
use Rattle.sqlite.specs.Tree.{Trees}
use Rattle.sqlite.specs.Command.TheVariants.{Select}
use Rattle.sqlite.specs.Effect.{Reads}
use Rattle.sqlite.specs.State.{State, Shown}
use Rattle.sqlite.proofs.Callers.{reads_as}
use Rattle.report_table.specs.Kept.{KeptRow}
use Rattle.report_table.specs.Rows.{filed_schema, kept_from, HasRows, nat_in}
use Rattle.report_table.specs.Statements.{latest_text, revision_text, number, values_of, shown_of, key_of, place_of, is_for, is_at, IsAmong, IsLast, ShowsLast, ShowsOne}
use Rattle.report_table.proofs.Texts.{latest_query, revision_query, alone, names, latest_is, latest_plain, revision_is, revision_plain}
use Rattle.report_table.proofs.Effects.{lower_id, query_shown, query_refused}
use Rattle.std.specs.Prelude.{Vec, Result, Err, IfOk, IfErr, IsTrue}
use Rattle.std.specs.declared.alloc.Global.{Global}
use Rattle.sqlite.specs.declared.error.Error.{Error}
use Rattle.sqlite.specs.State.{FailsToQuery}

-- ---- tests of numbers

truthy : (c : Bool) → is_true (from_truth (Some c)) ≡ c
truthy true = refl
truthy false = refl

and_true : (c : Bool) → (c && true) ≡ c
and_true true = refl
and_true false = refl

and_joins : (a b c : Bool) → (a && (b && c)) ≡ ((a && b) && c)
and_joins true b c = refl
and_joins false b c = refl

is_number : (a b : ℕ) → is_true (binary (Compare Eq Binary) (Int (pos a)) (Int (pos b))) ≡ nat_eq a b
unfolding binary
is_number a b = truthy _ ∙ ap is_eq (value_cmp-Int (pos a) (pos b)) ∙ grind (arith, ints, nat_tests)

-- a row matches the query exactly if it is of the unit and half
matches_half : (unit half id : ℕ) (row : KeptRow) → list_all (holds (key_of unit half ∷ (Int (pos id) ∷ values_of row) ∷ [])) latest_query.filter ≡ is_for unit half row
matches_half unit half id row = rw (is_number row.unit unit, is_number row.half half) (ap (λ c. nat_eq row.unit unit && c) (and_true _))

-- ---- properties of all, by recursion and by places

each_at : {X : Type 0} (P : X → Type 0) (xs : List X) → AllByRecursion P xs → All P xs
each_at P [] all k d within = absurd (omega arith)
each_at P (x ∷ xs) all zero d within = all.0
each_at P (x ∷ xs) all (suc k) d within = each_at P xs all.1 k d (omega arith)

at_each : {X : Type 0} (P : X → Type 0) (xs : List X) → All P xs → AllByRecursion P xs
at_each P [] all = tt
at_each P (x ∷ xs) all = (all 0 x (omega arith), at_each P xs (λ k d within. all (suc k) d (omega arith)))

permuted : {X : Type 0} (P : X → Type 0) (xs ys : List X) → IsPermutation xs ys → AllByRecursion P xs → AllByRecursion P ys
permuted P xs ys same all = at_each P ys (All-permutation P xs ys same (each_at P xs all))

-- ---- the result for each row

-- the output of the query for a row
abbrev out_of : KeptRow → Output
out_of row = (number row.revision ∷ [], shown_of row)

-- the revision in an output
abbrev revision_in : Output → ℕ
revision_in o = nat_in (column o.0 0)

put_if : (b : Bool) (q : Query) (env : Env) (rest : List Env) (o : Output) (os : List Output) → output q env ≡ o → map (output q) rest ≡ os
    → map (output q) (cond b (env ∷ []) [] ++ rest) ≡ cond b (o ∷ os) os
put_if true q env rest o os one others = rw (one, others) refl
put_if false q env rest o os one others = others

map_if : (b : Bool) (row : KeptRow) (rows : List KeptRow) → cond b (out_of row ∷ map out_of rows) (map out_of rows) ≡ map out_of (cond b (row ∷ rows) rows)
map_if true row rows = refl
map_if false row rows = refl

-- the outputs of the query are those of the matching rows
outputs : (lost : Value) (db : Trees) (unit half id : ℕ) (rows : List KeptRow)
    → map (output latest_query) (flat_map (λ r. matches_as lost db latest_query.filter end (key_of unit half ∷ r ∷ [])) (kept_from id rows)) ≡ map out_of (filter (is_for unit half) rows)
outputs lost db unit half id [] = refl
outputs lost db unit half id (row ∷ rows) =
    let stored : Row = Int (pos id) ∷ values_of row in
    let env : Env = key_of unit half ∷ stored ∷ [] in
    let rest = flat_map (λ r. matches_as lost db latest_query.filter end (key_of unit half ∷ r ∷ [])) (kept_from (suc id) rows) in
    ap (λ b. map (output latest_query) (cond b (env ∷ []) [] ++ rest)) (matches_half unit half id row)
    ∙ put_if (is_for unit half row) latest_query env rest (out_of row) (map out_of (filter (is_for unit half) rows)) refl (outputs lost db unit half (suc id) rows)
    ∙ map_if (is_for unit half row) row (filter (is_for unit half) rows)

-- ---- the first of the results in order

-- the output is that of one of these rows
abbrev IsOut : List KeptRow → Output → Type 0
IsOut rows o = (row : KeptRow) × IsAmong row rows × (o ≡ out_of row)

outs_of : (all rows : List KeptRow) → ((row : KeptRow) → IsAmong row rows → IsAmong row all) → AllByRecursion (IsOut all) (map out_of rows)
outs_of all [] there = tt
outs_of all (row ∷ rows) there = ((row, there row (inl refl), refl), outs_of all rows (λ other h. there other (inr h)))

below_or_not : (a b : ℕ) → (a < b) ⊎ (b ≤ a)
below_or_not a zero = inr (omega arith)
below_or_not zero (suc b) = inl (omega arith)
below_or_not (suc a) (suc b) = elim (below_or_not a b) [ inl l ↦ inl (omega arith) | inr l ↦ inr (omega arith) ]

not_less : (a b : ℕ) → is_lt (ordering_then (value_cmp (Int (pos a)) (Int (pos b))) Equal) ≡ false → b ≤ a
not_less a b h = elim (below_or_not a b) [
  | inl below ↦ absurd (let e = rw (lower_id a b below) at h in cc)
  | inr least ↦ least
]

-- outputs in order have falling revisions
falls : (rows : List KeptRow) (most : ℕ) (o : Output) (os : List Output) → AllByRecursion (IsOut rows) (o ∷ os) → IsSorted (output_cmp latest_query) (o ∷ os)
    → revision_in o ≤ most → AllByRecursion (λ x. revision_in x ≤ most) (o ∷ os)
falls rows most o [] outs sorted first = (first, tt)
falls rows most o (x ∷ os) outs sorted first =
    let next = sorted 0 o (omega arith) (omega arith) in
    let lower : revision_in x ≤ revision_in o =
    subst (λ y. revision_in x ≤ revision_in y) (sym outs.0.2) (subst (λ y. revision_in y ≤ outs.0.0.revision) (sym outs.1.0.2)
    (not_less outs.0.0.revision outs.1.0.0.revision (rw (outs.0.2, outs.1.0.2) at next))) in (
      first,
      falls rows most x os outs.1 (λ k d low high. subst (λ n. is_lt (output_cmp latest_query (slice_index_or (o ∷ x ∷ os) n d) (slice_index_or (x ∷ os) k d)) ≡ false)
          {x = suc k + 1} {y = suc (k + 1)} (omega arith) (sorted (suc k) d (omega arith) (omega arith))) (omega arith),
    )

unmapped : (most : ℕ) (rows : List KeptRow) → AllByRecursion (λ x. revision_in x ≤ most) (map out_of rows) → AllByRecursion (λ row. row.revision ≤ most) rows
unmapped most [] all = tt
unmapped most (row ∷ rows) all = (all.0, unmapped most rows all.1)

-- the first output is that of the row with the greatest revision
first_shown : (chosen : List KeptRow) (ordered : List Output) → IsPermutation (map out_of chosen) ordered → IsSorted (output_cmp latest_query) ordered
    → ShowsLast chosen (take 1 (map (λ o. o.1) ordered))
first_shown [] [] same sorted = refl
first_shown (row ∷ rows) [] same sorted = absurd (let e = length_permutation _ _ same in omega arith)
first_shown chosen (o ∷ os) same sorted =
    let outs = permuted (IsOut chosen) (map out_of chosen) (o ∷ os) same (outs_of chosen chosen (λ row h. h)) in
    let it = outs.0 in
    let most : revision_in o ≡ it.0.revision = ap revision_in it.2 in
    let below = falls chosen it.0.revision o os outs sorted (omega (arith, most)) in
    let back = permuted (λ x. revision_in x ≤ it.0.revision) (o ∷ os) (map out_of chosen) (IsPermutation-sym _ _ same) below in
    (it.0, record { among = it.1; last = unmapped it.0.revision chosen back }, ap (λ (p : Output). p.1) it.2)

-- the query returns the last row of a unit's half
pub latest_shows : (rows : List KeptRow) (unit half : ℕ) (old new : State) (out : List Row) → HasRows rows old → Shown latest_text (key_of unit half) old new out
    → ShowsLast (filter (is_for unit half) rows) out
latest_shows rows unit half old new out h shown =
    let params = key_of unit half in
    let chosen = filter (is_for unit half) rows in
    let read : Reads (Select (alone latest_query) names) old.now params out =
    reads_as latest_text params old new filed_schema h.schema (Select (alone latest_query) names) latest_is.0 latest_plain latest_is.1 out shown in
    let a : IsAnswer latest_query (overlay old.now.trees []) params out = read.answer Null in
    let kept : a.kept ≡ map out_of chosen =
    a.distinct ∙ ap (map (output latest_query)) a.grouped
    ∙ ap (λ table. map (output latest_query) (flat_map (λ r. matches_as Null (overlay old.now.trees []) latest_query.filter end (params ∷ r ∷ [])) table)) h.kept
    ∙ outputs Null (overlay old.now.trees []) unit half 1 rows in
    subst (ShowsLast chosen) (sym a.shown) (first_shown chosen a.ordered (subst (λ k. IsPermutation k a.ordered) kept a.same) a.sorted)

-- ---- by the result

-- the result of the query, if it succeeded
pub latest_told : (rows : List KeptRow) (unit half : ℕ) (old new : State) (r : Result (Vec Row Global) Error) → HasRows rows old
    → IfOk r (λ out. Shown latest_text (key_of unit half) old new out.items) → IfOk r (λ out. ShowsLast (filter (is_for unit half) rows) out.items)
latest_told rows unit half old new (Ok out) h shown = latest_shows rows unit half old new out.items h shown
latest_told rows unit half old new (Err e) h shown = tt

-- the rows after the query
pub latest_kept : (rows : List KeptRow) (unit half : ℕ) (old new : State) (r : Result (Vec Row Global) Error) → HasRows rows old
    → IfOk r (λ out. Shown latest_text (key_of unit half) old new out.items) → IfErr r (FailsToQuery latest_text (key_of unit half) old new)
    → IsTrue new.is_open → HasRows rows new
latest_kept rows unit half old new (Ok out) h shown failed live = query_shown latest_text (key_of unit half) rows old new out.items h latest_plain shown
latest_kept rows unit half old new (Err e) h shown failed live = query_refused latest_text (key_of unit half) rows old new e h failed live

-- ---- the row of a revision

-- a row matches the query exactly if it is of the unit, half and revision
matches_place : (unit half revision id : ℕ) (row : KeptRow)
    → list_all (holds (place_of unit half revision ∷ (Int (pos id) ∷ values_of row) ∷ [])) revision_query.filter ≡ is_at unit half revision row
matches_place unit half revision id row =
    rw (is_number row.unit unit, is_number row.half half, is_number row.revision revision)
    (ap (λ c. nat_eq row.unit unit && (nat_eq row.half half && c)) (and_true _) ∙ and_joins (nat_eq row.unit unit) (nat_eq row.half half) (nat_eq row.revision revision))

-- the output of the query for a row
abbrev plain_of : KeptRow → Output
plain_of row = ([], shown_of row)

map_plain : (b : Bool) (row : KeptRow) (rows : List KeptRow) → cond b (plain_of row ∷ map plain_of rows) (map plain_of rows) ≡ map plain_of (cond b (row ∷ rows) rows)
map_plain true row rows = refl
map_plain false row rows = refl

-- the outputs of the query are those of the matching rows
outputs_at : (lost : Value) (db : Trees) (unit half revision id : ℕ) (rows : List KeptRow)
    → map (output revision_query) (flat_map (λ r. matches_as lost db revision_query.filter end (place_of unit half revision ∷ r ∷ [])) (kept_from id rows))
    ≡ map plain_of (filter (is_at unit half revision) rows)
outputs_at lost db unit half revision id [] = refl
outputs_at lost db unit half revision id (row ∷ rows) =
    let env : Env = place_of unit half revision ∷ (Int (pos id) ∷ values_of row) ∷ [] in
    let rest = flat_map (λ r. matches_as lost db revision_query.filter end (place_of unit half revision ∷ r ∷ [])) (kept_from (suc id) rows) in
    ap (λ b. map (output revision_query) (cond b (env ∷ []) [] ++ rest)) (matches_place unit half revision id row)
    ∙ put_if (is_at unit half revision row) revision_query env rest (plain_of row) (map plain_of (filter (is_at unit half revision) rows)) refl
    (outputs_at lost db unit half revision (suc id) rows)
    ∙ map_plain (is_at unit half revision row) row (filter (is_at unit half revision) rows)

-- the output is that of one of these rows
abbrev IsPlainOut : List KeptRow → Output → Type 0
IsPlainOut rows o = (row : KeptRow) × IsAmong row rows × (o ≡ plain_of row)

plain_outs : (all rows : List KeptRow) → ((row : KeptRow) → IsAmong row rows → IsAmong row all) → AllByRecursion (IsPlainOut all) (map plain_of rows)
plain_outs all [] there = tt
plain_outs all (row ∷ rows) there = ((row, there row (inl refl), refl), plain_outs all rows (λ other h. there other (inr h)))

-- the returned rows, from the outputs of the selected rows
one_shown : (chosen : List KeptRow) (ordered : List Output) → IsPermutation (map plain_of chosen) ordered → ShowsOne chosen (map (λ o. o.1) ordered)
one_shown [] [] same = refl
one_shown (row ∷ rows) [] same = absurd (let e = length_permutation _ _ same in omega arith)
one_shown chosen (o ∷ os) same =
    let it = (permuted (IsPlainOut chosen) (map plain_of chosen) (o ∷ os) same (plain_outs chosen chosen (λ row h. h))).0 in
    (it.0, it.1, ap (λ (p : Output). p.1) it.2)

-- the query returns the row of a revision
pub revision_shows : (rows : List KeptRow) (unit half revision : ℕ) (old new : State) (out : List Row) → HasRows rows old → Shown revision_text (place_of unit half revision) old new out
    → ShowsOne (filter (is_at unit half revision) rows) out
revision_shows rows unit half revision old new out h shown =
    let params = place_of unit half revision in
    let chosen = filter (is_at unit half revision) rows in
    let read : Reads (Select (alone revision_query) names) old.now params out =
    reads_as revision_text params old new filed_schema h.schema (Select (alone revision_query) names) revision_is.0 revision_plain revision_is.1 out shown in
    let a : IsAnswer revision_query (overlay old.now.trees []) params out = read.answer Null in
    let kept : a.kept ≡ map plain_of chosen =
    a.distinct ∙ ap (map (output revision_query)) a.grouped
    ∙ ap (λ table. map (output revision_query) (flat_map (λ r. matches_as Null (overlay old.now.trees []) revision_query.filter end (params ∷ r ∷ [])) table)) h.kept
    ∙ outputs_at Null (overlay old.now.trees []) unit half revision 1 rows in
    subst (ShowsOne chosen) (sym a.shown) (one_shown chosen a.ordered (subst (λ k. IsPermutation k a.ordered) kept a.same))

-- the result of the query, if it succeeded
pub revision_told : (rows : List KeptRow) (unit half revision : ℕ) (old new : State) (r : Result (Vec Row Global) Error) → HasRows rows old
    → IfOk r (λ out. Shown revision_text (place_of unit half revision) old new out.items) → IfOk r (λ out. ShowsOne (filter (is_at unit half revision) rows) out.items)
revision_told rows unit half revision old new (Ok out) h shown = revision_shows rows unit half revision old new out.items h shown
revision_told rows unit half revision old new (Err e) h shown = tt

-- the rows after the query
pub revision_kept : (rows : List KeptRow) (unit half revision : ℕ) (old new : State) (r : Result (Vec Row Global) Error) → HasRows rows old
    → IfOk r (λ out. Shown revision_text (place_of unit half revision) old new out.items) → IfErr r (FailsToQuery revision_text (place_of unit half revision) old new)
    → IsTrue new.is_open → HasRows rows new
revision_kept rows unit half revision old new (Ok out) h shown failed live = query_shown revision_text (place_of unit half revision) rows old new out.items h revision_plain shown
revision_kept rows unit half revision old new (Err e) h shown failed live = query_refused revision_text (place_of unit half revision) rows old new e h failed live
