-- The answers to a list of calls of a filing: those of a map from a unit and half to a list of reports.
use Rattle.std.specs.Prelude.{◌≡◌, ℕ, zero, suc, ◌+◌, nat_eq, if◌then◌else◌, Option, Some, None, List, [], ◌∷◌, ◌++◌, length, take, slice_get, Result, Ok, Err}
use Rattle.std.specs.List.{last_or}
use Rattle.ldar_law.specs.declared.report.Cells.{Cells}
use Rattle.ldar_law.specs.declared.report.Filed.{Filed}
use Rattle.report_filing.specs.declared.calls.FilingAnswer.{FilingAnswer}
use Rattle.report_filing.specs.declared.calls.FilingAnswer.TheVariants as answer
use Rattle.report_filing.specs.declared.calls.FilingCall.{FilingCall}
use Rattle.report_filing.specs.declared.calls.FilingCall.TheVariants as call
use Rattle.report_filing.specs.declared.filing.FilingFault.{FilingFault}
use Rattle.report_filing.specs.declared.file.TheConstants.{LAST_REVISION}
use Rattle.report_filing.specs.Revisions.{is_filed_for, revisions}

-- for each unit and half, the list of its reports, whose revisions count from 1
abbrev pub ReportMap : Type 0
ReportMap = ℕ → ℕ → List Filed

-- the map of reports that are in the order of filing
abbrev pub map_of : List Filed → ReportMap
map_of all = λ unit half. revisions unit half all

-- the report of this revision
abbrev pub numbered : ℕ → List Filed → Option Filed
numbered zero reports = None
numbered (suc place) reports = slice_get reports place

-- the new map has this report added at the end of those of its unit and half
abbrev pub HasOneMore : Filed → ReportMap → ReportMap → Type 0
HasOneMore filed old new =
    (unit half : ℕ) → new unit half ≡ (if is_filed_for unit half filed then old unit half ++ filed ∷ [] else old unit half)

-- the number after that of the last report, if one is left
abbrev pub number_after : Option Filed → Option ℕ
number_after None = Some 1
number_after (Some last) = if nat_eq last.revision LAST_REVISION then None else Some (last.revision + 1)

-- the next report of a unit and half with these cells, or none if no number is left
abbrev pub IsNextOf : ℕ → ℕ → ℕ → Cells → Option Filed → List Filed → Type 0
IsNextOf unit half day cells None all = length (revisions unit half all) ≡ LAST_REVISION
IsNextOf unit half day cells (Some filed) all =
    filed ≡ record { unit = unit; half = half; revision = length (revisions unit half all) + 1; day = day; cells = cells }

-- the report was filed, or the map is unchanged
abbrev pub AnswersPut : Filed → FilingAnswer → List Filed → List Filed → Type 0
AnswersPut filed (answer.Put revision) old new = (revision ≡ filed.revision) × (new ≡ old ++ filed ∷ [])
AnswersPut filed (answer.Fault fault) old new = new ≡ old
AnswersPut filed given old new = ⊥

-- the answer to one call, from the map before it, and the map after it; after an error the map is unchanged
abbrev pub AnswersCall : FilingCall → FilingAnswer → ReportMap → ReportMap → Type 0
AnswersCall (call.Put unit half day cells) (answer.Put revision) old new =
    (revision ≡ length (old unit half) + 1)
    × HasOneMore (record { unit = unit; half = half; revision = revision; day = day; cells = cells }) old new
AnswersCall (call.Put unit half day cells) answer.Full old new = (length (old unit half) ≡ LAST_REVISION) × (new ≡ old)
AnswersCall (call.Latest unit half) (answer.Found found) old new = (found ≡ last_or None (old unit half)) × (new ≡ old)
AnswersCall (call.Revision unit half revision) (answer.Found found) old new = (found ≡ numbered revision (old unit half)) × (new ≡ old)
AnswersCall call (answer.Fault fault) old new = new ≡ old
AnswersCall call given old new = ⊥

-- the report that was found, or the error
abbrev pub found_or_fault : Result (Option Filed) FilingFault → FilingAnswer
found_or_fault (Ok found) = answer.Found found
found_or_fault (Err fault) = answer.Fault fault

-- the answers to a list of calls, made one after the other
abbrev pub AnswersCalls : List FilingCall → List FilingAnswer → ReportMap → ReportMap → Type 0
AnswersCalls [] [] old new = new ≡ old
AnswersCalls (call ∷ calls) (given ∷ answers) old new = (mid : ReportMap) × AnswersCall call given old mid × AnswersCalls calls answers mid new
AnswersCalls calls answers old new = ⊥

-- some calls from the first on were made
abbrev pub AnswersSome : List FilingCall → ReportMap → ReportMap → Type 0
AnswersSome calls old new = (made : ℕ) × (answers : List FilingAnswer) × AnswersCalls (take made calls) answers old new
