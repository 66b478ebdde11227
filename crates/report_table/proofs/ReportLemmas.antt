-- Reports and their rows: what is read from a row, and whose report a found row has.
use Rattle.std.proofs.Common.{◌≡◌, ◌⊎◌, inl, inr, ℕ, ◌+◌, ◌<◌, ◌≤◌, List, [], ◌∷◌, ◌++◌, map, filter, length, Bool, true, false, cond, nat_eq, ◌&&◌, Option}
use Rattle.std.proofs.Common.{Some, None, Result, Ok, Err, IfOk, OnOk, OnErr, refl, sym, ap, subst, ◌∙◌, arith}
use Rattle.std.specs.Prelude.{find, option_map, is_ok}
use Rattle.std.specs.List.{AllByRecursion, last_or}
use Rattle.std.proofs.lemmas.Bool.{cases_Bool}
use Rattle.std.proofs.lemmas.Bool.Decides.{nat_tests}
use Rattle.disk_model.specs.Told.{Told, BothTold}
use Rattle.disk_model.proofs.ToldLemmas.{Told-weaker}
use Rattle.ldar_days.specs.Calendar.{IsDay}
use Rattle.report_filing.specs.declared.filing.FilingFault.{FilingFault}
use Rattle.ldar_law.specs.declared.report.Filed.{Filed}
use Rattle.report_filing.specs.Revisions.{is_filed_for, is_revision, revisions, latest_of, revision_of, CountFrom, AreNumbered, IsNext}
use Rattle.report_filing.proofs.CallLemmas.{latest_in}
use Rattle.report_filing.proofs.RevisionLemmas.{numbered_put}
use Rattle.sqlite.specs.declared.error.Error.{Error}
use Rattle.report_table.specs.declared.filed_row.FiledRow.{FiledRow}
use Rattle.report_table.specs.Given.{kept_as, IsFoundLast, IsFoundOne}
use Rattle.report_table.specs.Kept.{KeptRow}
use Rattle.report_table.specs.Statements.{is_for, is_at, IsAmong, IsLast}
use Rattle.report_table.specs.Reports.{spelled, filed_in, filed_of, IsRowOf, AreCells, CanBeKept, IsSpelled, AreFiled, IsReadFrom}
use Rattle.report_table.proofs.CellsBack.{months_back, delays_back, stops_back}
use Rattle.report_table.proofs.MemoryRows.{chosen_has}

-- ---- a report and its row

-- a report that can be kept is the report of its row
pub filed_back : (filed : Filed) → CanBeKept filed → filed_in (spelled filed) ≡ filed
filed_back filed can = λ i. record {
  unit = filed.unit;
  half = filed.half;
  revision = filed.revision;
  day = filed.day;
  cells = record {
    months = months_back filed.cells.months can.cells.months i;
    delays = delays_back filed.cells.delays can.cells.delays i;
    stops = stops_back filed.cells.stops can.cells.stops i;
  };
}

-- the row of a report, as it is kept
pub row_is : (filed : Filed) (row : FiledRow) → IsRowOf filed row → kept_as row ≡ spelled filed
row_is filed row is = λ i. record {
  unit = is.unit i;
  half = is.half i;
  revision = is.revision i;
  day = is.day i;
  months = is.months i;
  delays = is.delays i;
  stops = is.stops i;
}

-- a kept row of a report is its row
pub is_row : (filed : Filed) (row : FiledRow) → kept_as row ≡ spelled filed → IsRowOf filed row
is_row filed row is = record {
  unit = ap (λ (r : KeptRow). r.unit) is;
  half = ap (λ (r : KeptRow). r.half) is;
  revision = ap (λ (r : KeptRow). r.revision) is;
  day = ap (λ (r : KeptRow). r.day) is;
  months = ap (λ (r : KeptRow). r.months) is;
  delays = ap (λ (r : KeptRow). r.delays) is;
  stops = ap (λ (r : KeptRow). r.stops) is;
}

-- ---- the rows and the reports of a half

-- the revisions of a half are the reports of its rows
revisions_are : (unit half : ℕ) (rows : List KeptRow) → revisions unit half (filed_of rows) ≡ filed_of (filter (is_for unit half) rows)
revisions_are unit half [] = refl
revisions_are unit half (row ∷ rows) = elim (cases_Bool (is_for unit half row)) [
  | inl passes ↦ rw passes (ap (λ more. filed_in row ∷ more) (revisions_are unit half rows))
  | inr fails ↦ rw fails (revisions_are unit half rows)
]

-- rows that count up from a number have no smaller one
least : (first : ℕ) (rows : List KeptRow) (row : KeptRow) → CountFrom first (filed_of rows) → IsAmong row rows → first ≤ row.revision
least first [] row counted among = absurd among
least first (other ∷ rows) row counted (inl same) = let is = counted.0 in let revision = ap (λ (r : KeptRow). r.revision) same in omega (arith, is, revision)
least first (other ∷ rows) row counted (inr later) = let rest = least (first + 1) rows row counted.1 later in omega (arith, rest)

-- nothing follows the greatest of rows that count up
greatest_ends : (first : ℕ) (row : KeptRow) (rows : List KeptRow) → row.revision ≡ first → CountFrom (first + 1) (filed_of rows)
    → AllByRecursion (λ other. other.revision ≤ row.revision) rows → rows ≡ []
greatest_ends first row [] is counted most = refl
greatest_ends first row (other ∷ rows) is counted most = let next = counted.0 in let last = most.0 in absurd (omega (arith, is, next, last))

-- the greatest of rows that count up is the last one
greatest_last : (first : ℕ) (before : Option Filed) (rows : List KeptRow) (row : KeptRow) → CountFrom first (filed_of rows) → IsAmong row rows
    → AllByRecursion (λ other. other.revision ≤ row.revision) rows → last_or before (filed_of rows) ≡ Some (filed_in row)
greatest_last first before [] row counted among most = absurd among
greatest_last first before (other ∷ rows) row counted (inl same) most =
    let is : row.revision ≡ first = ap (λ (r : KeptRow). r.revision) (sym same) ∙ counted.0 in
    ap (λ more. last_or (Some (filed_in other)) (filed_of more)) (greatest_ends first row rows is counted.1 most.1) ∙ ap (λ r. Some (filed_in r)) same
greatest_last first before (other ∷ rows) row counted (inr later) most =
    greatest_last (first + 1) (Some (filed_in other)) rows row counted.1 later most.1

-- the row with a number, of rows that count up
one_found : (first revision : ℕ) (rows : List KeptRow) (row : KeptRow) → CountFrom first (filed_of rows) → IsAmong row rows → row.revision ≡ revision
    → find (λ filed. nat_eq filed.revision revision) (filed_of rows) ≡ Some (filed_in row)
one_found first revision [] row counted among is = absurd among
one_found first revision (other ∷ rows) row counted (inl same) is =
    let own : nat_eq other.revision revision ≡ true = let both = ap (λ (r : KeptRow). r.revision) same ∙ is in grind (arith, nat_tests) in
    rw own (ap (λ r. Some (filed_in r)) same)
one_found first revision (other ∷ rows) row counted (inr later) is =
    let below = least (first + 1) rows row counted.1 later in
    let first_is = counted.0 in
    let another : nat_eq other.revision revision ≡ false = grind (arith, nat_tests) in
    rw another (one_found (first + 1) revision rows row counted.1 later is)

-- the first item that passes two tests is the first that passes the second among those that pass the first
find_both : (p q : Filed → Bool) (all : List Filed) → find (λ x. p x && q x) all ≡ find q (filter p all)
find_both p q [] = refl
find_both p q (x ∷ xs) = elim (cases_Bool (p x)) [
  | inl passes ↦ rw passes (ap (cond (q x) (Some x)) (find_both p q xs))
  | inr fails ↦ rw fails (find_both p q xs)
]

-- a row that passes both tests is among those that pass the first
among_first : (p q : KeptRow → Bool) (rows : List KeptRow) (row : KeptRow) → IsAmong row (filter (λ r. p r && q r) rows) → IsAmong row (filter p rows)
among_first p q [] row among = absurd among
among_first p q (other ∷ rows) row among = elim (cases_Bool (p other)) [
  | inl passes ↦ elim (cases_Bool (q other)) [
    | inl also ↦
        let cases : (other ≡ row) ⊎ IsAmong row (filter (λ r. p r && q r) rows) = rw (passes, also) at among in
        rw passes (elim cases [ inl same ↦ inl same | inr later ↦ inr (among_first p q rows row later) ])
    | inr not ↦ let later : IsAmong row (filter (λ r. p r && q r) rows) = rw (passes, not) at among in rw passes (inr (among_first p q rows row later))
  ]
  | inr fails ↦ let later : IsAmong row (filter (λ r. p r && q r) rows) = rw fails at among in rw fails (among_first p q rows row later)
]

-- if no row passes, none is found
none_passes : (p : KeptRow → Bool) (q : Filed → Bool) → ((row : KeptRow) → q (filed_in row) ≡ p row) → (rows : List KeptRow) → filter p rows ≡ []
    → find q (filed_of rows) ≡ None
none_passes p q same [] none = refl
none_passes p q same (row ∷ rows) none = elim (cases_Bool (p row)) [
  | inl passes ↦ let some : row ∷ filter p rows ≡ [] = rw passes at none in absurd (let e = some in cc)
  | inr fails ↦ let rest : filter p rows ≡ [] = rw fails at none in rw (same row, fails) (none_passes p q same rows rest)
]

-- ---- the report of the found row

-- a property of each row, for one of them
each_has : (P : KeptRow → Type 0) (rows : List KeptRow) (row : KeptRow) → AllByRecursion P rows → IsAmong row rows → P row
each_has P [] row all among = absurd among
each_has P (other ∷ rows) row all (inl same) = subst P same all.0
each_has P (other ∷ rows) row all (inr later) = each_has P rows row all.1 later

-- a selected row is among all rows
chosen_among : (p : KeptRow → Bool) (rows : List KeptRow) (row : KeptRow) → IsAmong row (filter p rows) → IsAmong row rows
chosen_among p [] row among = absurd among
chosen_among p (other ∷ rows) row among = elim (cases_Bool (p other)) [
  | inl passes ↦
      let cases : (other ≡ row) ⊎ IsAmong row (filter p rows) = rw passes at among in
      elim cases [ inl same ↦ inl same | inr later ↦ inr (chosen_among p rows row later) ]
  | inr fails ↦ let later : IsAmong row (filter p rows) = rw fails at among in inr (chosen_among p rows row later)
]

-- a selected row of a filed report is read as its report
read_one : (p : KeptRow → Bool) (rows : List KeptRow) (row : FiledRow) (found : Option Filed) → AreFiled rows → IsAmong (kept_as row) (filter p rows)
    → IsReadFrom (Ok (Some row)) found → found ≡ Some (filed_in (kept_as row))
read_one p rows row found filed among reads =
    let is = each_has IsSpelled rows (kept_as row) filed.spelled (chosen_among p rows (kept_as row) among) in
    reads (filed_in (kept_as row)) is.0 (is_row (filed_in (kept_as row)) row is.1)

-- the report of the last row of a half is its last revision
last_is : (unit half : ℕ) (rows : List KeptRow) (row : KeptRow) → AreFiled rows → IsLast (filter (is_for unit half) rows) row
    → latest_of unit half (filed_of rows) ≡ Some (filed_in row)
last_is unit half rows row filed last =
    let are = revisions_are unit half rows in
    latest_in unit half (filed_of rows) ∙ ap (last_or None) are
    ∙ greatest_last 1 None (filter (is_for unit half) rows) row (subst (CountFrom 1) are (filed.numbered unit half)) last.among last.last

-- the report of the row of a revision
one_is : (unit half revision : ℕ) (rows : List KeptRow) (row : KeptRow) → AreFiled rows → IsAmong row (filter (is_at unit half revision) rows)
    → revision_of unit half revision (filed_of rows) ≡ Some (filed_in row)
one_is unit half revision rows row filed among =
    let are = revisions_are unit half rows in
    let has = chosen_has (is_at unit half revision) rows row among in
    let is : row.revision ≡ revision = grind (arith, nat_tests, has) in
    find_both (is_filed_for unit half) (λ one. nat_eq one.revision revision) (filed_of rows) ∙ ap (find (λ one. nat_eq one.revision revision)) are
    ∙ one_found 1 revision (filter (is_for unit half) rows) row (subst (CountFrom 1) are (filed.numbered unit half))
    (among_first (is_for unit half) (λ r. nat_eq r.revision revision) rows row among) is

-- the last row was read as the last revision
pub last_read : (unit half : ℕ) (ran : Result (Option FiledRow) Error) (found : Option Filed) (rows : Option (List KeptRow)) → Told rows AreFiled
    → IfOk ran (λ row. Told rows (λ all. IsFoundLast (filter (is_for unit half) all) row)) → IsReadFrom ran found
    → Told (option_map filed_of rows) (λ old. found ≡ latest_of unit half old)
last_read unit half ran found None filed is reads = tt
last_read unit half (Ok None) found (Some all) filed is reads =
    reads ∙ sym (latest_in unit half (filed_of all) ∙ ap (last_or None) (revisions_are unit half all ∙ ap filed_of is))
last_read unit half (Ok (Some row)) found (Some all) filed is reads =
    read_one (is_for unit half) all row found filed is.among reads ∙ sym (last_is unit half all (kept_as row) filed is)
last_read unit half (Err error) found (Some all) filed is reads = absurd reads

-- the row of a revision was read as that revision
pub one_read_back : (unit half revision : ℕ) (ran : Result (Option FiledRow) Error) (found : Option Filed) (rows : Option (List KeptRow)) → Told rows AreFiled
    → IfOk ran (λ row. Told rows (λ all. IsFoundOne (filter (is_at unit half revision) all) row)) → IsReadFrom ran found
    → Told (option_map filed_of rows) (λ old. found ≡ revision_of unit half revision old)
one_read_back unit half revision ran found None filed is reads = tt
one_read_back unit half revision (Ok None) found (Some all) filed is reads =
    reads ∙ sym (none_passes (is_at unit half revision) (is_revision unit half revision) (λ row. refl) all is)
one_read_back unit half revision (Ok (Some row)) found (Some all) filed is reads =
    read_one (is_at unit half revision) all row found filed is reads ∙ sym (one_is unit half revision all (kept_as row) filed is)
one_read_back unit half revision (Err error) found (Some all) filed is reads = absurd reads

-- ---- one more row

-- a property of each element, with one more
each_more : {X : Type 0} (P : X → Type 0) (xs : List X) (x : X) → AllByRecursion P xs → P x → AllByRecursion P (xs ++ x ∷ [])
each_more P [] x all one = (one, tt)
each_more P (y ∷ xs) x all one = (all.0, each_more P xs x all.1 one)

-- the reports of rows with one more
reports_more : (rows : List KeptRow) (row : KeptRow) → filed_of (rows ++ row ∷ []) ≡ filed_of rows ++ filed_in row ∷ []
reports_more [] row = refl
reports_more (other ∷ rows) row = ap (λ more. filed_in other ∷ more) (reports_more rows row)

-- the reports of rows with one more, which is the row of a report
pub reports_put : (filed : Filed) (row : FiledRow) (rows : List KeptRow) → CanBeKept filed → IsRowOf filed row
    → filed_of (rows ++ kept_as row ∷ []) ≡ filed_of rows ++ filed ∷ []
reports_put filed row rows can is =
    reports_more rows (kept_as row) ∙ ap (λ one. filed_of rows ++ one ∷ []) (ap filed_in (row_is filed row is) ∙ filed_back filed can)

-- the rows of filed reports, with that of the next report
pub filed_put : (filed : Filed) (row : FiledRow) (rows : List KeptRow) → CanBeKept filed → IsRowOf filed row → IsNext filed (filed_of rows) → AreFiled rows
    → AreFiled (rows ++ kept_as row ∷ [])
filed_put filed row rows can is next are =
    let same = row_is filed row is in
    let back = filed_back filed can in
    let spells : IsSpelled (kept_as row) =
    subst IsSpelled (sym same) (subst CanBeKept (sym back) can, ap spelled (sym back)) in
    record {
      spelled = each_more IsSpelled rows (kept_as row) are.spelled spells;
      numbered = subst AreNumbered (sym (reports_put filed row rows can is)) (numbered_put (filed_of rows) filed are.numbered next);
    }

-- ---- the exposed reports of a filing over a table

-- a table without rows has no reports
none_filed : AreFiled []
none_filed = record { spelled = tt; numbered = λ unit half. tt }

-- no row is filed yet
pub none_yet : (rows : Option (List KeptRow)) → Told rows (λ rows. rows ≡ []) → Told rows AreFiled
none_yet rows none = Told-weaker (λ rows. rows ≡ []) AreFiled (λ rows is. subst AreFiled (sym is) none_filed) rows none

-- the exposed reports are numbered
pub told_numbered : (rows : Option (List KeptRow)) → Told rows AreFiled → Told (option_map filed_of rows) AreNumbered
told_numbered None filed = tt
told_numbered (Some all) filed = filed.numbered

-- the last exposed revision was found
pub last_told : (unit half : ℕ) (ran : Result (Option FiledRow) Error) (result : Result (Option Filed) FilingFault) (rows : Option (List KeptRow))
    → Told rows AreFiled → IfOk ran (λ row. Told rows (λ all. IsFoundLast (filter (is_for unit half) all) row)) → IfOk result (IsReadFrom ran)
    → IfOk result (λ found. Told (option_map filed_of rows) (λ old. found ≡ latest_of unit half old))
last_told unit half ran (Ok found) rows filed is reads = last_read unit half ran found rows filed is reads
last_told unit half ran (Err fault) rows filed is reads = tt

-- the exposed revision was found
pub one_told : (unit half revision : ℕ) (ran : Result (Option FiledRow) Error) (result : Result (Option Filed) FilingFault) (rows : Option (List KeptRow))
    → Told rows AreFiled → IfOk ran (λ row. Told rows (λ all. IsFoundOne (filter (is_at unit half revision) all) row)) → IfOk result (IsReadFrom ran)
    → IfOk result (λ found. Told (option_map filed_of rows) (λ old. found ≡ revision_of unit half revision old))
one_told unit half revision ran (Ok found) rows filed is reads = one_read_back unit half revision ran found rows filed is reads
one_told unit half revision ran (Err fault) rows filed is reads = tt

-- the report after the exposed ones can be kept, since its revision is at least 1
pub next_can : (filed : Filed) (rows : List KeptRow) → IsNext filed (filed_of rows) → IsDay filed.day → AreCells filed.cells → CanBeKept filed
next_can filed rows next day cells = record { numbered = omega (arith, next); day = day; cells = cells }

-- a row was added, or the rows are unchanged
pub put_kept : {X : Type 0} (filed : Filed) (row : FiledRow) (result : Result X Error) (old new : Option (List KeptRow)) → IsDay filed.day → AreCells filed.cells
    → IsRowOf filed row → Told (option_map filed_of old) (IsNext filed) → Told old AreFiled
    → OnOk result (BothTold old new (λ old new. new ≡ old ++ kept_as row ∷ [])) → OnErr result (new ≡ old) → Told new AreFiled
put_kept filed row (Err e) old new day cells is next are put same = subst (λ rows. Told rows AreFiled) (sym same) are
put_kept filed row (Ok x) None None day cells is next are put same = tt
put_kept filed row (Ok x) None (Some new) day cells is next are put same = absurd put
put_kept filed row (Ok x) (Some old) None day cells is next are put same = absurd put
put_kept filed row (Ok x) (Some old) (Some new) day cells is next are put same =
    subst AreFiled (sym put) (filed_put filed row old (next_can filed old next day cells) is next are)

-- the reports with the added one
pub put_told : {X : Type 0} (filed : Filed) (row : FiledRow) (result : Result X Error) (old new : Option (List KeptRow)) → IsDay filed.day → AreCells filed.cells
    → IsRowOf filed row → Told (option_map filed_of old) (IsNext filed) → OnOk result (BothTold old new (λ old new. new ≡ old ++ kept_as row ∷ []))
    → OnOk result (BothTold (option_map filed_of old) (option_map filed_of new) (λ old new. new ≡ old ++ filed ∷ []))
put_told filed row (Err e) old new day cells is next put = tt
put_told filed row (Ok x) None None day cells is next put = tt
put_told filed row (Ok x) None (Some new) day cells is next put = absurd put
put_told filed row (Ok x) (Some old) None day cells is next put = absurd put
put_told filed row (Ok x) (Some old) (Some new) day cells is next put =
    ap filed_of put ∙ reports_put filed row old (next_can filed old next day cells) is

-- a property of a successful result, for a result that is successful with it
pub on_ok_with : {X E D : Type 0} (P : Type 0) (first : Result X E) (result : Result X D) → is_ok result ≡ is_ok first → OnOk first P → OnOk result P
on_ok_with P first (Err e) both holds = tt
on_ok_with P (Ok x) (Ok y) both holds = holds
on_ok_with P (Err e) (Ok y) both holds = absurd (let no = both in cc)
