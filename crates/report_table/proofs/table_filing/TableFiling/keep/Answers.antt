use Rattle.std.proofs.Common.{◌≡◌, ◌++◌, ◌∷◌, [], sym, subst, OnOk}
use Rattle.std.specs.Prelude.{option_map}
use Rattle.disk_model.specs.Told.{Told, BothTold}
use Rattle.report_filing.specs.Revisions.{IsNext}
use Rattle.report_table.specs.Reports.{filed_of, OnFile}
use Rattle.report_table.proofs.ReportLemmas.{put_kept, put_told, on_ok_with}
use Rattle.report_table.proofs.table_filing.TableFiling.keep.Goals as goal

pub invariant_of-self : goal.invariant_of-self
invariant_of-self g c =
    let next = subst (λ (f : OnFile). Told f.reports (IsNext c.args.filed.now)) (sym c.self.view_is) c.requires.next in
    put_kept c.args.filed.now c.in_ok-row.row c.insert.result (g.T.Table.rows c.self.inside.table) (g.T.Table.rows c.insert.new.self)
    c.in_ok-row.ensures.day c.in_ok-row.ensures.kept c.in_ok-row.ensures.value next c.self.invariant c.insert.ensures.put c.insert.ensures.unchanged

pub returns-clause-put : goal.returns-clause-put
returns-clause-put g c =
    let new = option_map filed_of (g.T.Table.rows c.insert.new.self) in
    let next = subst (λ (f : OnFile). Told f.reports (IsNext c.args.filed.now)) (sym c.self.view_is) c.requires.next in
    subst (λ (f : OnFile). OnOk c.map_err.result (BothTold f.reports new (λ old new. new ≡ old ++ c.args.filed.now ∷ []))) c.self.view_is
    (on_ok_with _ c.insert.result c.map_err.result c.map_err.ensures.variant
    (put_told c.args.filed.now c.in_ok-row.row c.insert.result (g.T.Table.rows c.self.inside.table) (g.T.Table.rows c.insert.new.self)
    c.in_ok-row.ensures.day c.in_ok-row.ensures.kept c.in_ok-row.ensures.value next c.insert.ensures.put))
