-- The semiannual report of a process unit (40 CFR 60.487a(c)): its reporting period (half), its numbers, its lines, and what a later report
-- amends.
use Rattle.std.specs.Prelude.{ℕ, ◌+◌, ◌-◌, ◌*◌, ◌/◌, ◌%◌, Bool, false, not, ◌&&◌, nat_lt, nat_le, nat_eq}
use Rattle.std.specs.Prelude.{if◌then◌else◌, Option, Some, None, List, [], ◌∷◌, filter, slice_index_or}
use Rattle.std.specs.List.{list_any, filter_map, flat_map, count_by}
use Rattle.list_words.specs.Ranges.{until}
use Rattle.ldar_days.specs.Calendar.{first_day, month_of}
use Rattle.ldar_days.specs.Quarters.{first_quarter, quarter_first, quarter_last}
use Rattle.fact_kinds.specs.declared.class.Kind.{Kind}
use Rattle.ldar_law.specs.declared.delay.DelayLine.{DelayLine}
use Rattle.ldar_law.specs.declared.delay.Stop.{Stop}
use Rattle.ldar_law.specs.declared.delay.Until.{Until}
use Rattle.ldar_law.specs.declared.delay.Until.TheVariants.{Date}
use Rattle.ldar_law.specs.declared.report.Amended.{Amended}
use Rattle.ldar_law.specs.declared.report.Cells.{Cells}
use Rattle.ldar_law.specs.declared.report.Report.{Report}
use Rattle.ldar_law.specs.declared.sheet.Sheet.{Sheet}
use Rattle.ldar_law.specs.declared.tag.Tag.{Tag}
use Rattle.ldar_law.specs.declared.unit_entry.UnitEntry.{UnitEntry}
use Rattle.ldar_law.specs.Kinds.{is_valve, is_pump, is_compressor}
use Rattle.ldar_law.specs.Tags.{is_late, line_on}

-- ---- quarters and halves

-- the quarter has begun by the day; quarters count from 1, and one that would begin after the calendar's end never begins
abbrev pub has_quarter_begun : ℕ → ℕ → ℕ → Bool
has_quarter_begun startup quarter day = nat_le 1 quarter && nat_le (first_day (first_quarter startup + 3 * quarter - 3)) day

-- the half has begun by the day; half h is quarters 2h - 1 and 2h (our own rule)
abbrev pub has_half_begun : ℕ → ℕ → ℕ → Bool
has_half_begun startup half day = nat_le 1 half && has_quarter_begun startup (2 * half - 1) day

-- the first month of a half, which may be past the calendar's end
abbrev pub half_month : ℕ → ℕ → ℕ
half_month startup half = first_quarter startup + 6 * half - 6

-- the first day of a half
abbrev pub half_first : ℕ → ℕ → ℕ
half_first startup half = quarter_first startup (2 * half - 1)

-- the last day of a half
abbrev pub half_last : ℕ → ℕ → ℕ
half_last startup half = quarter_last startup (2 * half)

-- ---- the numbers of a month

-- the due day is a date in the month
abbrev pub is_date_in : ℕ → Until → Bool
is_date_in month (Date due) = nat_eq (month_of due) month
is_date_in month _ = false

-- the number of components of a kind with a leak in the month (40 CFR 60.487a(c)(2)(i), (iii), (v))
abbrev pub leaking_in : (Kind → Bool) → List Sheet → ℕ → ℕ
leaking_in is_kind sheets month = count_by (λ sheet. is_kind sheet.kind && list_any (λ leak. nat_eq leak month) sheet.leaks) sheets

-- the number of components of a kind with a late tag that was due in the month (40 CFR 60.487a(c)(2)(ii), (iv), (vi))
abbrev pub late_in : (Kind → Bool) → ℕ → List Sheet → ℕ → ℕ
late_in is_kind day sheets month =
    count_by (λ sheet. is_kind sheet.kind && list_any (λ tag. is_late day tag && is_date_in month tag.repair_due) sheet.tags) sheets

-- the six numbers of a month; they do not count relief devices (our own rule)
unfoldable pub month_cells : ℕ → List Sheet → ℕ → List ℕ
month_cells day sheets month =
    leaking_in is_valve sheets month ∷ late_in is_valve day sheets month
    ∷ leaking_in is_pump sheets month ∷ late_in is_pump day sheets month
    ∷ leaking_in is_compressor sheets month ∷ late_in is_compressor day sheets month ∷ []

-- ---- the lines (40 CFR 60.487a(c)(2)(xi), (3))

-- the tag was closed before the day
abbrev pub is_closed_before : ℕ → Tag → Bool
is_closed_before day tag = elim tag.closed [ Some closed ↦ nat_lt closed day | None ↦ false ]

-- the line of a tag whose delay was not ignored, if it was detected by the half's last day and not closed before its first
unfoldable pub delay_of : ℕ → ℕ → Tag → Option DelayLine
delay_of first last tag = elim tag.delay [
  | None ↦ None
  | Some delay ↦ if nat_le tag.detected last && not (is_closed_before first tag) then Some (line_on tag delay) else None
]

-- the shutdown has a day in the half
abbrev pub is_stop_in : ℕ → ℕ → Stop → Bool
is_stop_in first last stop = nat_le stop.first last && nat_le first stop.last

-- ---- the report

-- the report of a half as of a day, from the sheets of components in ascending order and the shutdowns in key order
abbrev pub cells_of : ℕ → ℕ → ℕ → List Sheet → List Stop → Cells
cells_of startup half day sheets stops = record {
  months = flat_map (month_cells day sheets) (until (half_month startup half) (half_month startup half + 6));
  delays = flat_map (λ sheet. filter_map (delay_of (half_first startup half) (half_last startup half)) sheet.tags) sheets;
  stops = filter (is_stop_in (half_first startup half) (half_last startup half)) stops;
}

-- the report of a half as of a day
abbrev pub report_on : UnitEntry → ℕ → ℕ → List Sheet → List Stop → Report
report_on unit half day sheets stops =
    record { unit = unit.unit; name = unit.name; half = half; day = day; cells = cells_of unit.startup half day sheets stops }

-- ---- what a later report amends

-- the change at a place of the 36, if two reports differ there; months and columns count from 1
unfoldable pub amended_at : List ℕ → List ℕ → ℕ → Option Amended
amended_at old new place =
    let before = slice_index_or old place 0 in
    let now = slice_index_or new place 0 in
    if nat_eq before now then None else Some (record { month = place / 6 + 1; column = place % 6 + 1; old = before; new = now })

-- the changed numbers of two reports, in order of place
abbrev pub amended : Cells → Cells → List Amended
amended old new = filter_map (amended_at old.months new.months) (until 0 36)
