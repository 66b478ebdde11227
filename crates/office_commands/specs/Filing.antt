-- What the commands on filed reports do: which revision is put on file, which two are compared, and what is written.
use Rattle.std.specs.Prelude.{◌≡◌, ℕ, Option, Some, None, List, [], ◌∷◌, ◌++◌, length, Result, Ok, Err, codes}
use Rattle.std.specs.List.{flat_map}
use Rattle.std.specs.Fmt.{decimal}
use Rattle.disk_model.specs.Told.{Told, BothTold}
use Rattle.ldar_law.specs.declared.report.Amended.{Amended}
use Rattle.ldar_law.specs.declared.report.Filed.{Filed}
use Rattle.ldar_law.specs.declared.report.Report.{Report}
use Rattle.ldar_law.specs.declared.request.What.{What}
use Rattle.ldar_law.specs.Reports.{amended}
use Rattle.ldar_law.specs.Texts.{end_line, end_of_line}
use Rattle.ldar_ports.specs.Sink.{Piece}
use Rattle.report_filing.specs.Answers.{filed_as, Follows, HasSameCells, HasNoNumberLeft}
use Rattle.report_filing.specs.Revisions.{latest_of, revision_of}
use Rattle.office_commands.specs.declared.command.RevisionPair.{RevisionPair}
use Rattle.office_commands.specs.declared.status.Status.{Status}
use Rattle.office_commands.specs.declared.status.Status.TheVariants.{Done, WriteFault, Memory, NoSuch, FilingFault, SameReport, NoRevisionLeft, NoSuchRevision}
use Rattle.office_commands.specs.Statuses.{TextEnds}

-- filed UNIT HALF REVISION
abbrev pub filed_text : ℕ → ℕ → ℕ → List ℕ
filed_text unit half revision =
    codes "filed " ++ decimal unit ++ codes " " ++ (decimal half ++ codes " " ++ (decimal revision ++ end_of_line))

-- nothing was filed, and nothing was written
abbrev pub FilesNothing : (filed filed' : Option (List Filed)) (pieces pieces' : Option (List Piece)) → Type 0
FilesNothing filed filed' pieces pieces' = (filed' ≡ filed) × (pieces' ≡ pieces)

-- the report is filed after all others, as the revision after the last one of its unit and half. The text is written in full, or in part
-- after a write error.
pub record IsFiledAs (report : Report) (status : Status) (filed filed' : Option (List Filed)) (pieces pieces' : Option (List Piece)) : Type 0 where
  pub revision : ℕ
  pub follows : Told filed (λ all. Follows report revision (latest_of report.unit report.half all))
  pub put : BothTold filed filed' (λ all more. more ≡ all ++ filed_as revision report ∷ [])
  pub says : TextEnds (filed_text report.unit report.half revision) status pieces pieces'

-- the end of filing a report, by its status
abbrev pub ReportEnds : Report → Status → (filed filed' : Option (List Filed)) (pieces pieces' : Option (List Piece)) → Type 0
ReportEnds report Done filed filed' pieces pieces' = IsFiledAs report Done filed filed' pieces pieces'
ReportEnds report WriteFault filed filed' pieces pieces' = IsFiledAs report WriteFault filed filed' pieces pieces'
ReportEnds report Memory filed filed' pieces pieces' = FilesNothing filed filed' pieces pieces'
ReportEnds report FilingFault filed filed' pieces pieces' = FilesNothing filed filed' pieces pieces'
ReportEnds report (SameReport revision) filed filed' pieces pieces' =
    FilesNothing filed filed' pieces pieces' × Told filed (λ all. HasSameCells report revision (latest_of report.unit report.half all))
ReportEnds report NoRevisionLeft filed filed' pieces pieces' =
    FilesNothing filed filed' pieces pieces' × Told filed (λ all. HasNoNumberLeft report (latest_of report.unit report.half all))
ReportEnds report _ filed filed' pieces pieces' = ⊥

-- the end of filing the requested report; or its unit or half does not exist
abbrev pub AskedEnds : Result Report What → Status → (filed filed' : Option (List Filed)) (pieces pieces' : Option (List Piece)) → Type 0
AskedEnds (Ok report) status filed filed' pieces pieces' = ReportEnds report status filed filed' pieces pieces'
AskedEnds (Err what) status filed filed' pieces pieces' = (status ≡ NoSuch what) × FilesNothing filed filed' pieces pieces'

-- ---- amended

-- month M column C from OLD to NEW
abbrev pub change_line : Amended → List ℕ
change_line change =
    codes "month " ++ decimal change.month ++ codes " column " ++ decimal change.column ++ codes " from " ++ decimal change.old
    ++ codes " to " ++ decimal change.new ++ end_of_line

-- amended UNIT HALF FROM TO
abbrev pub pair_line : RevisionPair → List ℕ
pair_line pair =
    codes "amended " ++ decimal pair.unit ++ codes " " ++ decimal pair.half ++ codes " " ++ decimal pair.from ++ codes " " ++ decimal pair.to ++ end_of_line

-- .. with a line for each number that differs, and how many they are
abbrev pub amended_text : RevisionPair → List Amended → List ℕ
amended_text pair changes = pair_line pair ++ flat_map change_line changes ++ end_line (length changes)

-- the two revisions, or the number of the first that is not on file
abbrev pub both_of : RevisionPair → List Filed → Result (Filed × Filed) ℕ
both_of pair all = elim (revision_of pair.unit pair.half pair.from all) [
  | None ↦ Err pair.from
  | Some earlier ↦ elim (revision_of pair.unit pair.half pair.to all) [ None ↦ Err pair.to | Some later ↦ Ok (earlier, later) ]
]

-- what differs between the two revisions is written: whole, or up to where a write failed
pub record IsAmended (pair : RevisionPair) (status : Status) (filed : Option (List Filed)) (pieces pieces' : Option (List Piece)) : Type 0 where
  pub earlier : Filed
  pub later : Filed
  pub found : Told filed (λ all. both_of pair all ≡ Ok (earlier, later))
  pub says : TextEnds (amended_text pair (amended earlier.cells later.cells)) status pieces pieces'

-- how the comparison of two revisions ends, by its status
abbrev pub AmendedEnds : RevisionPair → Status → Option (List Filed) → (pieces pieces' : Option (List Piece)) → Type 0
AmendedEnds pair Done filed pieces pieces' = IsAmended pair Done filed pieces pieces'
AmendedEnds pair WriteFault filed pieces pieces' = IsAmended pair WriteFault filed pieces pieces'
AmendedEnds pair Memory filed pieces pieces' = pieces' ≡ pieces
AmendedEnds pair FilingFault filed pieces pieces' = pieces' ≡ pieces
AmendedEnds pair (NoSuchRevision revision) filed pieces pieces' = Told filed (λ all. both_of pair all ≡ Err revision) × (pieces' ≡ pieces)
AmendedEnds pair _ filed pieces pieces' = ⊥

-- how the search for the two revisions ends without them
abbrev pub LacksOne : RevisionPair → Status → Option (List Filed) → Type 0
LacksOne pair Memory filed = Unit {0}
LacksOne pair FilingFault filed = Unit {0}
LacksOne pair (NoSuchRevision revision) filed = Told filed (λ all. both_of pair all ≡ Err revision)
LacksOne pair _ filed = ⊥

-- .. and for one revision
abbrev pub Lacks : (unit half revision : ℕ) → Status → Option (List Filed) → Type 0
Lacks unit half revision Memory filed = Unit {0}
Lacks unit half revision FilingFault filed = Unit {0}
Lacks unit half revision (NoSuchRevision missing) filed = (missing ≡ revision) × Told filed (λ all. revision_of unit half revision all ≡ None)
Lacks unit half revision _ filed = ⊥
