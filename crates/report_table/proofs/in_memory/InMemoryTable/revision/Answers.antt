use Rattle.std.proofs.Common.{◌∙◌, Some, filter, subst, ap}
use Rattle.std.specs.Prelude.{IfOk}
use Rattle.report_table.specs.Given.{IsFoundOne}
use Rattle.report_table.specs.Rows.{rows_of}
use Rattle.report_table.specs.Statements.{is_at}
use Rattle.report_table.proofs.in_memory.InMemoryTable.revision.Goals as goal

pub returns-clause-value : goal.returns-clause-value
returns-clause-value c =
    subst (λ rows. IfOk c.first_of.result (IsFoundOne (filter (is_at c.args.unit c.args.half c.args.revision) rows)))
    (c.in_ok-conn.ensures.same ∙ (ap rows_of c.take.ensures.value ∙ c.self.view_is))
    (c.first_of.ensures.one (rows_of (Some c.in_ok-conn.conn)) c.args.revision (rw c.deref.ensures.value c.in_ok-ran.ensures.shows))
