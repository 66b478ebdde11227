use Rattle.sqlite.specs.Held.{state}
use Rattle.report_table.specs.Given.{kept_as}
use Rattle.report_table.proofs.Effects.{insert_put, insert_kept}
use Rattle.report_table.proofs.kept.insert.Goals as goal

pub returns-clause-put : goal.returns-clause-put
returns-clause-put g c = λ clean rows h.
    insert_put rows (kept_as c.args.row.now) (state g.S.Store c.args.conn.now) (state g.S.Store c.insert.new.conn) c.insert.result h (c.insert.ensures.runs clean)

pub returns-clause-kept : goal.returns-clause-kept
returns-clause-kept g c = λ clean rows h.
    insert_kept rows (kept_as c.args.row.now) (state g.S.Store c.args.conn.now) (state g.S.Store c.insert.new.conn) c.insert.result h (c.insert.ensures.runs clean)
