-- What each view shows of a history on a day: its text, or what does not exist.
use Rattle.std.specs.Prelude.{ℕ, nat_eq, if◌then◌else◌, Option, Some, None, List, filter, map}
use Rattle.ldar_days.specs.Calendar.{month_of}
use Rattle.fact_kinds.specs.declared.batch.Batch.{Batch}
use Rattle.fact_kinds.specs.Facts.{Entry, facts_to}
use Rattle.ldar_law.specs.declared.report.Report.{Report}
use Rattle.ldar_law.specs.declared.request.Request.{Request}
use Rattle.ldar_law.specs.declared.request.Request.TheVariants.{Sync, Due, Tags, Delays, Route, Percent, Report as ReportView}
use Rattle.ldar_law.specs.declared.request.What.TheVariants.{Unit as NoUnit, Quarter as NoQuarter, Half as NoHalf, Stops as NoStops}
use Rattle.ldar_law.specs.declared.reply.Reply.{Reply}
use Rattle.ldar_law.specs.declared.reply.Reply.TheVariants.{Shown, NoSuch}
use Rattle.ldar_law.specs.declared.sheet.Sheet.{Sheet}
use Rattle.ldar_law.specs.declared.unit_entry.UnitEntry.{UnitEntry}
use Rattle.ldar_law.specs.Equipment.{unit_entry_of, stops_of}
use Rattle.ldar_law.specs.Happenings.{is_leak}
use Rattle.ldar_law.specs.Percent.{is_good}
use Rattle.ldar_law.specs.Reports.{has_quarter_begun, has_half_begun, half_month, report_on}
use Rattle.ldar_law.specs.Texts.{due_text, tags_text, delays_text, route_text, percent_text, report_text}
use Rattle.ldar_law.specs.Units.{Known, components_of, duties_of_unit, tags_of_unit, delays_of_unit, routes_of_unit, tally_of_unit, is_skipped_of_unit}

-- ---- the report of a unit, from the facts up to a view day

-- a component's sheet: the month of each of its leaks, and its tags
abbrev pub sheet_of : Known → Sheet
sheet_of c = record {
  component = c.item.component;
  kind = c.item.kind;
  leaks = map (λ e. month_of e.key.day) (filter (λ e. is_leak e.what) c.events);
  tags = c.tags;
}

-- the report of a half
abbrev pub report_of_unit : UnitEntry → ℕ → ℕ → List Entry → Report
report_of_unit unit half day facts = report_on unit half day (map sheet_of (components_of unit.unit facts)) (stops_of unit.unit facts)

-- ---- the views, from the facts up to a view day

-- a view of a unit, or that the unit does not exist if it was not entered by the day
abbrev pub of_unit : ℕ → List Entry → (UnitEntry → Reply) → Reply
of_unit unit facts view = elim (unit_entry_of unit facts) [ None ↦ NoSuch NoUnit | Some entry ↦ view entry ]

-- the duties of a unit
abbrev pub due_view : ℕ → ℕ → List Entry → Reply
due_view unit day facts = of_unit unit facts (λ entry. Shown (due_text unit day (duties_of_unit entry day facts)))

-- the tags of a unit
abbrev pub tags_view : ℕ → ℕ → List Entry → Reply
tags_view unit day facts = of_unit unit facts (λ entry. Shown (tags_text unit day (tags_of_unit entry day facts)))

-- the delayed repairs of a unit
abbrev pub delays_view : ℕ → ℕ → List Entry → Reply
delays_view unit day facts = of_unit unit facts (λ entry. Shown (delays_text unit day (delays_of_unit entry facts)))

-- the routes of a unit; a route has at least one stop
abbrev pub route_view : ℕ → ℕ → ℕ → List Entry → Reply
route_view unit day stops facts = of_unit unit facts (λ entry.
    if nat_eq stops 0 then NoSuch NoStops else Shown (route_text unit day stops (routes_of_unit entry day facts stops)))

-- the text of a quarter: its counts, whether they are good, and whether it is skipped
abbrev pub quarter_text : UnitEntry → ℕ → ℕ → List Entry → List ℕ
quarter_text unit quarter day facts =
    let tally = tally_of_unit unit day facts quarter in
    percent_text unit.unit quarter tally (is_good tally) (is_skipped_of_unit unit day facts quarter)

-- percent leaking in a quarter, which must have begun by the day
abbrev pub percent_view : ℕ → ℕ → ℕ → List Entry → Reply
percent_view unit quarter day facts = of_unit unit facts (λ entry.
    if has_quarter_begun entry.startup quarter day then Shown (quarter_text entry quarter day facts) else NoSuch NoQuarter)

-- the report of a half, which must have begun by the day
abbrev pub report_view : ℕ → ℕ → ℕ → List Entry → Reply
report_view unit half day facts = of_unit unit facts (λ entry.
    if has_half_begun entry.startup half day
    then Shown (report_text (half_month entry.startup half) (report_of_unit entry half day facts)) else NoSuch NoHalf)

-- ---- what a history shows

-- the day of a view; 0 for a batch
abbrev pub view_day : Request → ℕ
view_day (Sync batch) = 0
view_day (Due unit day) = day
view_day (Tags unit day) = day
view_day (Delays unit day) = day
view_day (Route unit day stops) = day
view_day (Percent unit quarter day) = day
view_day (ReportView unit half day) = day

-- the reply to a view from the facts up to its day; a batch is no view
abbrev pub view_of : Request → List Entry → Option Reply
view_of (Sync batch) facts = None
view_of (Due unit day) facts = Some (due_view unit day facts)
view_of (Tags unit day) facts = Some (tags_view unit day facts)
view_of (Delays unit day) facts = Some (delays_view unit day facts)
view_of (Route unit day stops) facts = Some (route_view unit day stops facts)
view_of (Percent unit quarter day) facts = Some (percent_view unit quarter day facts)
view_of (ReportView unit half day) facts = Some (report_view unit half day facts)

-- the reply to a view of a history
unfoldable pub shown : List Batch → Request → Option Reply
shown history request = view_of request (facts_to (view_day request) history)
