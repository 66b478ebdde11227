-- Rows in a map, by their keys.
use Rattle.std.proofs.Common.{◌≡◌, ℕ, ◌+◌, Bool, true, false, ◌||◌, cond, Option, Some, None, Result, Ok, Err, List, [], ◌∷◌, map, is_some, Ordering, refl, sym, ap, ◌∙◌, inl, inr}
use Rattle.std.specs.List.{list_any}
use Rattle.std.specs.Option.{option_map_or}
use Rattle.std.specs.Ordering.{is_lt, is_eq}
use Rattle.std.specs.declared.cmp.Ordering.TheVariants.{Less, Equal, Greater}
use Rattle.std.proofs.lemmas.Bool.{cases_Bool, false≢true, or_parts}
use Rattle.std.specs.BTreeMap.{insert_entry, is_at}
use Rattle.std.specs.Map.{lookup, values_of}
use Rattle.list_words.specs.Order.{in_order, put_in_order}
use Rattle.pump_seals.specs.declared.row.SealRow.{SealRow}
use Rattle.dual_seals.specs.declared.row_key.RowKey.{RowKey}
use Rattle.dual_seals.specs.declared.error.SealError.{SealError}
use Rattle.dual_seals.specs.declared.error.SealError.TheVariants.{Row, Memory}
use Rattle.dual_seals.specs.Keyed.{keyed, Has, HasMore, IsBadAt}
use Rattle.dual_seals.specs.RowKeys.{row_key_cmp}
use Rattle.dual_seals.specs.RowOrder.{key_of, comes_first, is_duplicate}
use Rattle.dual_seals.specs.Rows.{row_of, with_row, rows_from, TellsRow}

or_swap : (a b c : Bool) → (a || (b || c)) ≡ (b || (a || c))
or_swap true true c = refl
or_swap true false c = refl
or_swap false b c = refl

-- some element passes after an insertion exactly if the new one or an old one does
any_put : {X : Type 0} (before : X → X → Bool) (p : X → Bool) (x : X) (xs : List X) → list_any p (put_in_order before x xs) ≡ (p x || list_any p xs)
any_put before p x [] = refl
any_put before p x (y ∷ xs) = elim (cases_Bool (before x y)) [
  | inl e ↦ rw e refl
  | inr e ↦ rw e (ap (λ b. p y || b) (any_put before p x xs) ∙ or_swap (p y) (p x) (list_any p xs))
]

pub any_in_order : {X : Type 0} (before : X → X → Bool) (p : X → Bool) (xs : List X) → list_any p (in_order before xs) ≡ list_any p xs
any_in_order before p [] = refl
any_in_order before p (x ∷ xs) = any_put before p x (in_order before xs) ∙ ap (λ b. p x || b) (any_in_order before p xs)

-- a map has the key of a row exactly if some of its rows is a duplicate of that row
pub lookup_decides : (row : SealRow) (rows : List SealRow)
    → is_some (lookup (is_at (row_key_cmp (key_of row))) (map keyed rows)) ≡ list_any (is_duplicate row) rows
unfolding is_duplicate
lookup_decides row [] = refl
lookup_decides row (y ∷ rows) = elim (cases_Bool (is_eq (row_key_cmp (key_of row) (key_of y)))) [
  | inl e ↦ rw e refl
  | inr e ↦ rw e (lookup_decides row rows)
]

insert_by : (row y : SealRow) (rows : List SealRow) (o : Ordering) → row_key_cmp (key_of row) (key_of y) ≡ o
    → (is_eq (row_key_cmp (key_of row) (key_of y)) || list_any (λ z. is_eq (row_key_cmp (key_of row) (key_of z))) rows) ≡ false
    → insert_entry row_key_cmp (map keyed rows) (key_of row) row ≡ map keyed (put_in_order (λ a b. is_lt (row_key_cmp (key_of a) (key_of b))) row rows)
    → insert_entry row_key_cmp (map keyed (y ∷ rows)) (key_of row) row
    ≡ map keyed (put_in_order (λ a b. is_lt (row_key_cmp (key_of a) (key_of b))) row (y ∷ rows))
insert_by row y rows Less is none more = rw is refl
insert_by row y rows Equal is none more =
    absurd (false≢true (sym none ∙ ap (λ o. is_eq o || list_any (λ z. is_eq (row_key_cmp (key_of row) (key_of z))) rows) is))
insert_by row y rows Greater is none more = rw is (ap (λ es. keyed y ∷ es) more)

-- inserting a row with a new key into the map keeps the rows in order
pub insert_is : (row : SealRow) (rows : List SealRow) → list_any (is_duplicate row) rows ≡ false
    → insert_entry row_key_cmp (map keyed rows) (key_of row) row ≡ map keyed (put_in_order comes_first row rows)
unfolding is_duplicate comes_first
insert_is row [] none = refl
insert_is row (y ∷ rows) none = insert_by row y rows (row_key_cmp (key_of row) (key_of y)) refl none
    (insert_is row rows (or_parts (is_eq (row_key_cmp (key_of row) (key_of y))) (list_any (λ z. is_eq (row_key_cmp (key_of row) (key_of z))) rows) none).1)

-- the values of the map are the rows
pub values_are : (rows : List SealRow) → values_of (map keyed rows) ≡ rows
values_are [] = refl
values_are (row ∷ rows) = ap (λ rs. row ∷ rs) (values_are rows)

-- whether a map has the key of a row, from the rows in it
found_is : (row : SealRow) (earlier : List SealRow) (old : List (RowKey × SealRow)) (o : Option SealRow) → Has old earlier
    → o ≡ lookup (is_at (row_key_cmp (key_of row))) old → is_some o ≡ list_any (is_duplicate row) (in_order comes_first earlier)
found_is row earlier old o has is =
    ap is_some is ∙ ap (λ es. is_some (lookup (is_at (row_key_cmp (key_of row))) es)) has ∙ lookup_decides row (in_order comes_first earlier)

-- a row with a new key is added
pub put_added : (row : SealRow) (earlier : List SealRow) (old new : List (RowKey × SealRow)) (o : Option SealRow) → Has old earlier
    → o ≡ lookup (is_at (row_key_cmp (key_of row))) old → new ≡ insert_entry row_key_cmp old (key_of row) row → is_some o ≡ false
    → HasMore new (with_row earlier (Some row))
put_added row earlier old new o has is put none =
    let no_twin : list_any (is_duplicate row) (in_order comes_first earlier) ≡ false = sym (found_is row earlier old o has is) ∙ none in
    let no_earlier : list_any (is_duplicate row) earlier ≡ false = sym (any_in_order comes_first (is_duplicate row) earlier) ∙ no_twin in (
      row ∷ earlier,
      ap (λ b. cond b None (Some (row ∷ earlier))) no_earlier,
      put ∙ ap (λ es. insert_entry row_key_cmp es (key_of row) row) has ∙ insert_is row (in_order comes_first earlier) no_twin,
    )

-- a row whose key the map has is a duplicate
pub put_bad : (row : SealRow) (earlier : List SealRow) (old : List (RowKey × SealRow)) (o : Option SealRow) → Has old earlier
    → o ≡ lookup (is_at (row_key_cmp (key_of row))) old → is_some o ≡ true → with_row earlier (Some row) ≡ None
put_bad row earlier old o has is some =
    let twin : list_any (is_duplicate row) earlier ≡ true =
    sym (any_in_order comes_first (is_duplicate row) earlier) ∙ sym (found_is row earlier old o has is) ∙ some in
    ap (λ b. cond b None (Some (row ∷ earlier))) twin

-- ---- the records one after the other

-- no record is left
pub rows_done : (at : ℕ) (earlier : List SealRow) (records : List (List (List ℕ))) → records ≡ [] → rows_from at earlier records ≡ Ok earlier
rows_done at earlier records none = rw none refl

-- a bad record
pub rows_bad : (at : ℕ) (earlier : List SealRow) (fields : List (List ℕ)) (records rest : List (List (List ℕ))) → records ≡ fields ∷ rest
    → with_row earlier (row_of at fields) ≡ None → rows_from at earlier records ≡ Err at
rows_bad at earlier fields records rest is none = rw is (ap (λ o. option_map_or (λ rows. rows_from (at + 1) rows rest) o (Err at)) none)

-- one more row
pub rows_more : (at next : ℕ) (earlier more : List SealRow) (fields : List (List ℕ)) (records rest : List (List (List ℕ))) → records ≡ fields ∷ rest
    → next ≡ at + 1 → with_row earlier (row_of at fields) ≡ Some more → rows_from at earlier records ≡ rows_from next more rest
rows_more at next earlier more fields records rest is is_next some =
    rw is (ap (λ o. option_map_or (λ rows. rows_from (at + 1) rows rest) o (Err at)) some ∙ ap (λ n. rows_from n more rest) (sym is_next))

-- the error at a bad record has its number
pub bad_tells : (at : ℕ) (said : Result (List SealRow) ℕ) (added : Option (List SealRow)) (e : SealError) → (added ≡ None → said ≡ Err at) → IsBadAt at added e
    → TellsRow said e
bad_tells at said added (Row n) so is = so is.1 ∙ ap Err (sym is.0)
bad_tells at said added Memory so is = is
