-- The order of rows does not depend on the order of their records.
use Rattle.std.proofs.Common.{◌≡◌, ℕ, ◌+◌, ◌<◌, Bool, true, false, ◌||◌, ◌&&◌, cond, Option, Some, None, Result, Ok, Err, List, [], ◌∷◌, map, Ordering, IsPermutation, refl, sym, ap, ◌∙◌, inl, inr, subst}
use Rattle.std.specs.Prelude.{IsTrue, filter, nat_eq, nat_le, nat_lt}
use Rattle.std.specs.List.{AllByRecursion, list_any, cons_option, filter_map}
use Rattle.std.specs.Option.{option_map, option_map_or}
use Rattle.std.specs.Ordering.{is_lt, is_eq, nat_cmp, ordering_reverse, ordering_then, MatchOrdering}
use Rattle.std.specs.declared.cmp.Ordering.TheVariants.{Less, Equal, Greater}
use Rattle.std.proofs.lemmas.Bool.{cases_Bool, false≢true, or_parts}
use Rattle.std.proofs.lemmas.Cmp.{ranked, tied_itself}
use Rattle.std.proofs.Common.{arith}
use Rattle.std.proofs.lemmas.Bool.Decides.{nat_tests}
use Rattle.csv_rows.specs.Records.{records_of}
use Rattle.list_words.specs.Order.{IsStrictOrder, Ascends, AllApart, in_order, put_in_order}
use Rattle.list_words.proofs.Ascending.{ascends_in_order, in_order_forgets}
use Rattle.fact_kinds.specs.declared.batch.Batch.{Batch}
use Rattle.fact_kinds.specs.Facts.{Entry, facts_of, facts_to}
use Rattle.fact_kinds.specs.Identity.{identities_differ}
use Rattle.fact_kinds.proofs.OrderFree.{order_free}
use Rattle.ldar_law.specs.declared.equipment.Equipment.{Equipment}
use Rattle.ldar_law.specs.declared.event.Event.{Event}
use Rattle.ldar_law.specs.Equipment.{equipment_of}
use Rattle.pump_seals.specs.declared.row.Mark.{Mark}
use Rattle.pump_seals.specs.declared.row.SealRow.{SealRow}
use Rattle.pump_seals.specs.declared.seals.SealDuty.{SealDuty}
use Rattle.pump_seals.specs.declared.seals.SealTag.{SealTag}
use Rattle.pump_seals.specs.Moments.{MomentsRise, is_before, row_before}
use Rattle.pump_seals.specs.Signs.{mark_if, marks_of}
use Rattle.pump_seals.specs.Seals.{duties_by_rows, tags_by_rows, seal_duties, seal_tags}
use Rattle.dual_seals.specs.OrderLaws.{unnumbered, events_of, lists_by, seals_on, SealsForgetOrder}
use Rattle.dual_seals.specs.RowKeys.{row_key_cmp, row_key_cmp_total}
use Rattle.dual_seals.specs.RowOrder.{key_of, comes_first, is_duplicate}
use Rattle.dual_seals.specs.Rows.{is_header, row_of, with_row, rows_from, rows_of_records, in_turn, seal_rows}

less_is : (o : Ordering) → is_lt o ≡ true → o ≡ Less
less_is Less e = refl
less_is Equal e = absurd (false≢true e)
less_is Greater e = absurd (false≢true e)

-- the order of rows is a strict order
pub strict_rows : IsStrictOrder comes_first
unfolding comes_first
strict_rows =
    record {
      irreflexive = λ x. ap is_lt (tied_itself row_key_cmp_total (key_of x));
      transitive = λ x y z e f. ap is_lt (row_key_cmp_total.trans (key_of x) (key_of y) (key_of z) (less_is _ e) (less_is _ f));
    }

-- of two rows that are not duplicates, one is before the other
apart_by : (o p : Ordering) → o ≡ ordering_reverse p → is_eq o ≡ false → (is_lt o || is_lt p) ≡ true
apart_by Less p e differ = refl
apart_by Equal p e differ = absurd (false≢true (sym differ))
apart_by Greater Less e differ = refl
apart_by Greater Equal e differ = absurd cc
apart_by Greater Greater e differ = absurd cc

apart_rows : (a b : SealRow) → is_duplicate a b ≡ false → (comes_first a b || comes_first b a) ≡ true
unfolding comes_first is_duplicate
apart_rows a b differ =
    apart_by (row_key_cmp (key_of a) (key_of b)) (row_key_cmp (key_of b) (key_of a)) (row_key_cmp_total.antisymm (key_of a) (key_of b)) differ

apart_all : (row : SealRow) (rows : List SealRow) → list_any (is_duplicate row) rows ≡ false
    → AllByRecursion (λ y. (comes_first row y || comes_first y row) ≡ true) rows
apart_all row [] none = tt
apart_all row (y ∷ rows) none =
    let parts = or_parts (is_duplicate row y) (list_any (is_duplicate row) rows) none in
    (apart_rows row y parts.0, apart_all row rows parts.1)

some_rows : (xs ys : List SealRow) → Some xs ≡ Some ys → xs ≡ ys
some_rows xs ys e = cc

abbrev all_good : List SealRow → Result (List SealRow) ℕ
all_good rows = Ok rows

ok_is : (xs ys : List SealRow) → all_good xs ≡ all_good ys → xs ≡ ys
ok_is xs ys e = cc

apart_put : (earlier more : List SealRow) (row : SealRow) (found : Bool) → list_any (is_duplicate row) earlier ≡ found → AllApart comes_first earlier
    → cond found None (Some (row ∷ earlier)) ≡ Some more → AllApart comes_first more
apart_put earlier more row true none apart is = absurd cc
apart_put earlier more row false none apart is =
    subst (AllApart comes_first) (some_rows (row ∷ earlier) more is) (apart_all row earlier none, apart)

-- a row that is added is no duplicate of an earlier one
apart_with : (earlier more : List SealRow) (o : Option SealRow) → AllApart comes_first earlier → with_row earlier o ≡ Some more → AllApart comes_first more
apart_with earlier more None apart is = absurd cc
apart_with earlier more (Some row) apart is = apart_put earlier more row (list_any (is_duplicate row) earlier) refl apart is

apart_next : (at : ℕ) (earlier rows : List SealRow) (records : List (List (List ℕ))) (o : Option (List SealRow))
    → ((more : List SealRow) → o ≡ Some more → AllApart comes_first more)
    → ((more : List SealRow) → AllApart comes_first more → rows_from (at + 1) more records ≡ Ok rows → AllApart comes_first rows)
    → option_map_or (λ more. rows_from (at + 1) more records) o (Err at) ≡ Ok rows → AllApart comes_first rows
apart_next at earlier rows records None one rest is = absurd cc
apart_next at earlier rows records (Some more) one rest is = rest more (one more refl) is

-- no two rows of a file without bad records are duplicates
apart_from : (at : ℕ) (earlier rows : List SealRow) (records : List (List (List ℕ))) → AllApart comes_first earlier
    → rows_from at earlier records ≡ Ok rows → AllApart comes_first rows
apart_from at earlier rows [] apart is = subst (AllApart comes_first) (ok_is earlier rows is) apart
apart_from at earlier rows (fields ∷ records) apart is =
    apart_next at earlier rows records (with_row earlier (row_of at fields)) (λ more e. apart_with earlier more (row_of at fields) apart e)
    (λ more apart_more e. apart_from (at + 1) more rows records apart_more e) is

apart_file : (rows : List SealRow) (records : List (List (List ℕ))) (header : Bool) → cond header (rows_from 2 [] records) (Err 1) ≡ all_good rows
    → AllApart comes_first rows
apart_file rows records true is = apart_from 2 [] rows records tt is
apart_file rows records false is = absurd cc

pub apart_records : (rows : List SealRow) (records : List (List (List ℕ))) → rows_of_records records ≡ Ok rows → AllApart comes_first rows
apart_records rows [] is = absurd cc
apart_records rows (first ∷ records) is = apart_file rows records (is_header first) is

-- ---- the numbers of records

-- the order of rows does not depend on the numbers of their records
put_unnumbered : (x : SealRow) (xs : List SealRow) → map unnumbered (put_in_order comes_first x xs) ≡ put_in_order comes_first (unnumbered x) (map unnumbered xs)
unfolding comes_first
put_unnumbered x [] = refl
put_unnumbered x (y ∷ xs) = elim (cases_Bool (is_lt (row_key_cmp (key_of x) (key_of y)))) [
  | inl e ↦ rw e refl
  | inr e ↦ rw e (ap (λ ys. unnumbered y ∷ ys) (put_unnumbered x xs))
]

in_order_unnumbered : (xs : List SealRow) → map unnumbered (in_order comes_first xs) ≡ in_order comes_first (map unnumbered xs)
in_order_unnumbered [] = refl
in_order_unnumbered (x ∷ xs) =
    put_unnumbered x (in_order comes_first xs) ∙ ap (λ ys. put_in_order comes_first (unnumbered x) ys) (in_order_unnumbered xs)

-- whether two rows are duplicates does not depend on the numbers either
all_unnumbered : (x : SealRow) (xs : List SealRow) → AllByRecursion (λ y. (comes_first x y || comes_first y x) ≡ true) xs
    → AllByRecursion (λ y. (comes_first (unnumbered x) y || comes_first y (unnumbered x)) ≡ true) (map unnumbered xs)
unfolding comes_first
all_unnumbered x [] all = tt
all_unnumbered x (y ∷ xs) all = (all.0, all_unnumbered x xs all.1)

apart_unnumbered : (xs : List SealRow) → AllApart comes_first xs → AllApart comes_first (map unnumbered xs)
apart_unnumbered [] apart = tt
apart_unnumbered (x ∷ xs) apart = (all_unnumbered x xs apart.0, apart_unnumbered xs apart.1)

-- the marks of a component do not depend on the numbers either
marks_unnumbered : (component day : ℕ) (xs : List SealRow) → filter_map (mark_if component day) (map unnumbered xs) ≡ filter_map (mark_if component day) xs
marks_unnumbered component day [] = refl
marks_unnumbered component day (x ∷ xs) = ap (λ ys. cons_option (mark_if component day x) ys) (marks_unnumbered component day xs)

-- two files without bad records and with the same rows have the same marks of a component
same_marks : (rows more : List SealRow) (component day : ℕ) → AllApart comes_first rows → IsPermutation (map unnumbered rows) (map unnumbered more)
    → marks_of component day (in_order comes_first more) ≡ marks_of component day (in_order comes_first rows)
unfolding marks_of
same_marks rows more component day apart moved =
    sym (marks_unnumbered component day (in_order comes_first more))
    ∙ ap (filter_map (mark_if component day))
    (in_order_unnumbered more ∙ in_order_forgets comes_first strict_rows (map unnumbered rows) (map unnumbered more) (apart_unnumbered rows apart) moved
    ∙ sym (in_order_unnumbered rows))
    ∙ marks_unnumbered component day (in_order comes_first rows)

-- the duties and tags of one component, from its marks
abbrev with_marks : Equipment → List Event → ℕ → List Mark → Option (List SealDuty × List SealTag)
with_marks item events day marks = Some (seal_duties item events marks day, seal_tags item events marks day)

same_item : (day : ℕ) (rows more : List SealRow) (facts : List Entry) → ((c : ℕ) → marks_of c day rows ≡ marks_of c day more) → (o : Option Equipment)
    → option_map (lists_by day rows facts) o ≡ option_map (lists_by day more facts) o
same_item day rows more facts marks None = refl
same_item day rows more facts marks (Some item) = ap (with_marks item (events_of item facts) day) (marks item.component)

-- equal marks and equal facts give equal duties and tags
seals_alike : (component day : ℕ) (rows more : List SealRow) (facts others : List Entry) → ((c : ℕ) → marks_of c day rows ≡ marks_of c day more) → facts ≡ others
    → seals_on component day rows facts ≡ seals_on component day more others
seals_alike component day rows more facts others marks same =
    same_item day rows more facts marks (equipment_of component facts) ∙ ap (λ fs. seals_on component day more fs) same

pub seals_forget : SealsForgetOrder
seals_forget text other rows more history batches component day is is_other moved arrived differ =
    let marks = λ (c : ℕ). same_marks rows more c day (apart_records rows (records_of text) is) moved in
    seals_alike component day (in_order comes_first more) (in_order comes_first rows) (facts_to day batches) (facts_to day history) marks
    (ap (filter (λ e. nat_le e.0.day day)) (order_free history batches arrived differ))

-- ---- rows in order

-- the first three parts by which rows are compared
by_three : (o p q rest : Ordering) (a b i j m n : ℕ) → MatchOrdering o (a < b) (a ≡ b) (b < a) → MatchOrdering p (i < j) (i ≡ j) (j < i)
    → MatchOrdering q (m < n) (m ≡ n) (n < m) → is_lt (ordering_then o (ordering_then p (ordering_then q rest))) ≡ true
    → (nat_lt b a || (nat_eq b a && (nat_lt j i || (nat_eq j i && nat_lt n m)))) ≡ false
by_three Less p q rest a b i j m n x y z e = grind (arith, nat_tests)
by_three Equal Less q rest a b i j m n x y z e = grind (arith, nat_tests)
by_three Equal Equal Less rest a b i j m n x y z e = grind (arith, nat_tests)
by_three Equal Equal Equal rest a b i j m n x y z e = grind (arith, nat_tests)
by_three Equal Equal Greater rest a b i j m n x y z e = absurd cc
by_three Equal Greater q rest a b i j m n x y z e = absurd cc
by_three Greater p q rest a b i j m n x y z e = absurd cc

-- a row that is before another one is not after it
not_after : (a b : SealRow) → comes_first a b ≡ true → row_before b a ≡ false
unfolding comes_first row_before is_before
not_after a b e =
    by_three (nat_cmp a.component b.component) (nat_cmp a.day b.day) (nat_cmp a.minute b.minute) _ a.component b.component a.day b.day a.minute b.minute
    (ranked a.component b.component (nat_cmp a.component b.component) refl) (ranked a.day b.day (nat_cmp a.day b.day) refl)
    (ranked a.minute b.minute (nat_cmp a.minute b.minute) refl) e

all_not_after : (row : SealRow) (rows : List SealRow) → AllByRecursion (λ y. comes_first row y ≡ true) rows → AllByRecursion (λ y. row_before y row ≡ false) rows
all_not_after row [] all = tt
all_not_after row (y ∷ rows) all = (not_after row y all.0, all_not_after row rows all.1)

rows_rise : (rows : List SealRow) → Ascends comes_first rows → MomentsRise row_before rows
rows_rise [] ascend = tt
rows_rise (row ∷ rows) ascend = (all_not_after row rows ascend.0, rows_rise rows ascend.1)

-- the rows of a file are in order
rise_of : (records : List (List (List ℕ))) (rows : List SealRow) (said : Result (List SealRow) ℕ) → rows_of_records records ≡ said → in_turn said ≡ Ok rows
    → MomentsRise row_before rows
rise_of records rows (Ok read) is e =
    subst (MomentsRise row_before) (ok_is (in_order comes_first read) rows e)
    (rows_rise (in_order comes_first read) (ascends_in_order comes_first strict_rows read (apart_records read records is)))
rise_of records rows (Err at) is e = absurd cc

pub seal_rows_rise : (text : List ℕ) (rows : List SealRow) → seal_rows text ≡ Ok rows → MomentsRise row_before rows
unfolding seal_rows
seal_rows_rise text rows is = rise_of (records_of text) rows (rows_of_records (records_of text)) refl is
