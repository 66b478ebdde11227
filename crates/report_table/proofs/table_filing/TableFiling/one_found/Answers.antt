use Rattle.std.proofs.Common.{◌≡◌, subst}
use Rattle.std.specs.Prelude.{IfOk}
use Rattle.disk_model.specs.Told.{Told}
use Rattle.report_filing.specs.Revisions.{revision_of}
use Rattle.report_table.specs.Reports.{OnFile}
use Rattle.report_table.proofs.ReportLemmas.{one_told}
use Rattle.report_table.proofs.table_filing.TableFiling.one_found.Goals as goal

pub returns-clause-value : goal.returns-clause-value
returns-clause-value g c =
    subst (λ (f : OnFile). IfOk c.found_in.result (λ found. Told f.reports (λ old. found ≡ revision_of c.args.unit c.args.half c.args.revision old)))
    c.self.view_is
    (one_told c.args.unit c.args.half c.args.revision c.revision.result c.found_in.result (g.T.Table.rows c.self.inside.table) c.self.invariant
    c.revision.ensures.value c.found_in.ensures.value)
