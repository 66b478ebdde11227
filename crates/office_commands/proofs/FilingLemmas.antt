-- The end of filing a report, from what was filed and written.
use Rattle.std.proofs.Common.{◌≡◌, ◌⊎◌, inl, inr, ℕ, Option, List, [], ◌∷◌, ◌++◌, subst, sym}
use Rattle.disk_model.specs.Told.{Told, BothTold}
use Rattle.ldar_law.specs.declared.report.Filed.{Filed}
use Rattle.ldar_law.specs.declared.report.Report.{Report}
use Rattle.ldar_ports.specs.Sink.{Piece}
use Rattle.report_filing.specs.Answers.{filed_as, Follows}
use Rattle.report_filing.specs.Revisions.{latest_of}
use Rattle.office_commands.specs.declared.status.Status.{Status}
use Rattle.office_commands.specs.declared.status.Status.TheVariants.{Done, WriteFault}
use Rattle.office_commands.specs.Filing.{ReportEnds, filed_text}
use Rattle.office_commands.specs.Statuses.{TextEnds}

-- a report that was put on file, by the status of the line that prints it
pub filed_ends : (report : Report) (revision : ℕ) (status : Status) (filed filed' : Option (List Filed)) (pieces pieces' : Option (List Piece))
    → (status ≡ Done) ⊎ (status ≡ WriteFault) → Told filed (λ all. Follows report revision (latest_of report.unit report.half all))
    → BothTold filed filed' (λ all more. more ≡ all ++ filed_as revision report ∷ [])
    → TextEnds (filed_text report.unit report.half revision) status pieces pieces' → ReportEnds report status filed filed' pieces pieces'
filed_ends report revision status filed filed' pieces pieces' only follows put says = elim only [
  | inl is ↦
      subst (λ (s : Status). ReportEnds report s filed filed' pieces pieces') (sym is) (record {
        revision = revision;
        follows = follows;
        put = put;
        says = subst (λ (s : Status). TextEnds (filed_text report.unit report.half revision) s pieces pieces') is says;
      })
  | inr is ↦
      subst (λ (s : Status). ReportEnds report s filed filed' pieces pieces') (sym is) (record {
        revision = revision;
        follows = follows;
        put = put;
        says = subst (λ (s : Status). TextEnds (filed_text report.unit report.half revision) s pieces pieces') is says;
      })
]
