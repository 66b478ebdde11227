use Rattle.sqlite.specs.Held.{state}
use Rattle.report_table.proofs.Selects.{revision_told, revision_kept}
use Rattle.report_table.proofs.kept.revision.Goals as goal

pub returns-clause-shows : goal.returns-clause-shows
returns-clause-shows g c = λ clean rows h.
    revision_told rows c.args.unit c.args.half c.args.revision (state g.S.Store c.args.conn.now) (state g.S.Store c.revision.new.conn) c.revision.result h (c.revision.ensures.rows clean)

pub returns-clause-kept : goal.returns-clause-kept
returns-clause-kept g c = λ clean rows h.
    revision_kept rows c.args.unit c.args.half c.args.revision (state g.S.Store c.args.conn.now) (state g.S.Store c.revision.new.conn) c.revision.result h (c.revision.ensures.rows clean)
    (c.revision.ensures.refused clean)
