use Rattle.sqlite.specs.Held.{state}
use Rattle.report_table.proofs.Selects.{latest_told, latest_kept}
use Rattle.report_table.proofs.kept.latest.Goals as goal

pub returns-clause-shows : goal.returns-clause-shows
returns-clause-shows g c = λ clean rows h.
    latest_told rows c.args.unit c.args.half (state g.S.Store c.args.conn.now) (state g.S.Store c.latest.new.conn) c.latest.result h (c.latest.ensures.rows clean)

pub returns-clause-kept : goal.returns-clause-kept
returns-clause-kept g c = λ clean rows h.
    latest_kept rows c.args.unit c.args.half (state g.S.Store c.args.conn.now) (state g.S.Store c.latest.new.conn) c.latest.result h (c.latest.ensures.rows clean) (c.latest.ensures.refused clean)
