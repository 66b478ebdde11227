use Rattle.std.proofs.Common.{◌≡◌, subst}
use Rattle.std.specs.Prelude.{IfOk}
use Rattle.disk_model.specs.Told.{Told}
use Rattle.report_filing.specs.Revisions.{latest_of}
use Rattle.report_table.specs.Reports.{OnFile}
use Rattle.report_table.proofs.ReportLemmas.{last_told}
use Rattle.report_table.proofs.table_filing.TableFiling.last_found.Goals as goal

pub returns-clause-value : goal.returns-clause-value
returns-clause-value g c =
    subst (λ (f : OnFile). IfOk c.found_in.result (λ found. Told f.reports (λ old. found ≡ latest_of c.args.unit c.args.half old))) c.self.view_is
    (last_told c.args.unit c.args.half c.latest.result c.found_in.result (g.T.Table.rows c.self.inside.table) c.self.invariant
    c.latest.ensures.value c.found_in.ensures.value)
