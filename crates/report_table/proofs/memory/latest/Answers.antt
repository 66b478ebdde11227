use Rattle.sqlite.proofs.Callers.{memory_is_clean}
use Rattle.std.proofs.Common.{Some, refl}
use Rattle.report_table.specs.Rows.{rows_of}
use Rattle.report_table.proofs.MemoryRows.{keeps, rows_are}
use Rattle.report_table.proofs.memory.latest.Goals as goal

pub returns-clause-kept : goal.returns-clause-kept
returns-clause-kept c =
    let rows = rows_of (Some c.args.conn.now) in
    keeps rows c.latest.new.conn (c.latest.ensures.kept (memory_is_clean c.latest.new.conn) rows c.requires.kept refl)

pub returns-clause-unchanged : goal.returns-clause-unchanged
returns-clause-unchanged c =
    let rows = rows_of (Some c.args.conn.now) in
    rows_are rows c.latest.new.conn (c.latest.ensures.kept (memory_is_clean c.latest.new.conn) rows c.requires.kept refl)

pub returns-clause-shows : goal.returns-clause-shows
returns-clause-shows c = c.latest.ensures.shows (memory_is_clean c.latest.new.conn) (rows_of (Some c.args.conn.now)) c.requires.kept
