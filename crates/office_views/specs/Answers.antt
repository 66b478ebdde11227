-- What the views answer: a text or what there is none of, and a report.
use Rattle.std.specs.Prelude.{◌≡◌, ℕ, Bool, true, false, if◌then◌else◌, Option, Some, None, Result, Ok, Err, List}
use Rattle.std.specs.declared.alloc.AllocError.{AllocError}
use Rattle.fact_kinds.specs.Facts.{Entry}
use Rattle.ldar_law.specs.declared.reply.Reply.{Reply}
use Rattle.ldar_law.specs.declared.reply.Reply.TheVariants as replies
use Rattle.ldar_law.specs.declared.report.Report.{Report}
use Rattle.ldar_law.specs.declared.request.Request.{Request}
use Rattle.ldar_law.specs.declared.request.Request.TheVariants.{Sync, Due, Tags, Delays, Route, Percent, Report as ReportView}
use Rattle.ldar_law.specs.declared.request.What.{What}
use Rattle.ldar_law.specs.declared.request.What.TheVariants.{Unit as NoUnit, Half as NoHalf}
use Rattle.ldar_law.specs.Equipment.{unit_entry_of}
use Rattle.ldar_law.specs.declared.unit_entry.UnitEntry.{UnitEntry}
use Rattle.ldar_law.specs.Reports.{has_half_begun, half_month}
use Rattle.ldar_law.specs.Shown.{report_of_unit}
use Rattle.ldar_law.specs.Texts.{report_text}
use Rattle.office_views.specs.declared.shown.AskError.{AskError}
use Rattle.office_views.specs.declared.shown.AskError.TheVariants.{NoSuch as NoneOf, Memory as WantsMemory}
use Rattle.office_views.specs.declared.shown.Shown.{Shown}
use Rattle.office_views.specs.declared.shown.Shown.TheVariants.{Text, NoSuch}

-- the request is a view
abbrev pub IsView : Request → Type 0
IsView (Sync batch) = ⊥
IsView (Due unit day) = Unit {0}
IsView (Tags unit day) = Unit {0}
IsView (Delays unit day) = Unit {0}
IsView (Route unit day stops) = Unit {0}
IsView (Percent unit quarter day) = Unit {0}
IsView (ReportView unit half day) = Unit {0}

-- the reply with what is shown
abbrev pub reply_of : Shown → Reply
reply_of (Text text) = replies.Shown text
reply_of (NoSuch what) = replies.NoSuch what

-- the report of a half from the facts up to a view day, or what there is none of
abbrev pub report_asked : ℕ → ℕ → ℕ → List Entry → Result Report What
report_asked unit half day facts = elim (unit_entry_of unit facts) [
  | None ↦ Err NoUnit
  | Some entry ↦ if has_half_begun entry.startup half day then Ok (report_of_unit entry half day facts) else Err NoHalf
]

-- the text of the report of a half
abbrev pub half_text_of : UnitEntry → ℕ → ℕ → List Entry → List ℕ
half_text_of unit half day facts = report_text (half_month unit.startup half) (report_of_unit unit half day facts)

-- the answer to a request for a report: the report, or what there is none of; out of memory only if there is a report
abbrev pub Tells : Result Report AskError → Result Report What → Type 0
Tells (Ok report) asked = asked ≡ Ok report
Tells (Err (NoneOf what)) asked = asked ≡ Err what
Tells (Err WantsMemory) asked = (report : Report) × (asked ≡ Ok report)

-- a text is shown if there was memory for it
abbrev pub in_text : Result (List ℕ) AllocError → Result Shown AllocError
in_text (Ok text) = Ok (Text text)
in_text (Err memory) = Err memory

-- a text is shown
abbrev pub is_text : Result Shown AllocError → Bool
is_text (Ok (Text text)) = true
is_text (Ok (NoSuch what)) = false
is_text (Err memory) = false

-- there is a report
abbrev pub is_report : Result Report AskError → Bool
is_report (Ok report) = true
is_report (Err error) = false

-- the reply shows a text
abbrev pub IsText : Reply → Type 0
IsText reply = (text : List ℕ) × (reply ≡ replies.Shown text)

-- the reply is what is shown; no memory only where it shows a text
abbrev pub Shows : Result Shown AllocError → Reply → Type 0
Shows (Ok answer) reply = reply_of answer ≡ reply
Shows (Err memory) reply = IsText reply

-- .. if the request is a view, and so has a reply
abbrev pub IsShown : Result Shown AllocError → Option Reply → Type 0
IsShown result reply = (told : Reply) × (reply ≡ Some told) × Shows result told
