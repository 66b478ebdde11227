-- The result of filing a report, by the last revision of its half.
use Rattle.std.specs.Prelude.{◌≡◌, ◌≢◌, ℕ, ◌+◌, Option, Some, None}
use Rattle.ldar_law.specs.declared.report.Filed.{Filed}
use Rattle.ldar_law.specs.declared.report.Report.{Report}
use Rattle.report_filing.specs.declared.file.FileError.{FileError}
use Rattle.report_filing.specs.declared.file.FileError.TheVariants as answer
use Rattle.report_filing.specs.declared.filing.FilingFault.{FilingFault}
use Rattle.report_filing.specs.declared.filing.FilingFault.TheVariants.{Failed, Memory}
use Rattle.report_filing.specs.declared.file.TheConstants.{LAST_REVISION}

-- the report as filed under a revision
abbrev pub filed_as : ℕ → Report → Filed
filed_as revision report = record { unit = report.unit; half = report.half; revision = revision; day = report.day; cells = report.cells }

-- no revision was filed and this is the first; or the last one has other cells and this is the next one
abbrev pub Follows : Report → ℕ → Option Filed → Type 0
Follows report revision None = revision ≡ 1
Follows report revision (Some last) = (last.cells ≢ report.cells) × (revision ≡ last.revision + 1)

-- the last revision is this one, and it has the same cells
abbrev pub HasSameCells : Report → ℕ → Option Filed → Type 0
HasSameCells report revision None = ⊥
HasSameCells report revision (Some last) = (last.cells ≡ report.cells) × (revision ≡ last.revision)

-- the last revision has other cells, and no number is left for the next one
abbrev pub HasNoNumberLeft : Report → Option Filed → Type 0
HasNoNumberLeft report None = ⊥
HasNoNumberLeft report (Some last) = (last.cells ≢ report.cells) × (last.revision ≡ LAST_REVISION)

-- the error of the filing, as the result of `file_report`
abbrev pub IsFaultOf : FilingFault → FileError → Type 0
IsFaultOf Failed why = why ≡ answer.Fault
IsFaultOf Memory why = why ≡ answer.Memory
