use Rattle.sqlite.proofs.Callers.{memory_is_clean}
use Rattle.std.proofs.Common.{Some}
use Rattle.report_table.specs.Rows.{rows_of}
use Rattle.report_table.specs.Given.{kept_as}
use Rattle.report_table.proofs.MemoryRows.{inserted_keeps, inserted_put, inserted_unchanged}
use Rattle.report_table.proofs.memory.insert.Goals as goal

pub returns-clause-kept : goal.returns-clause-kept
returns-clause-kept c =
    let rows = rows_of (Some c.args.conn.now) in
    let clean = memory_is_clean c.insert.new.conn in
    inserted_keeps rows (kept_as c.args.row.now) c.insert.new.conn c.insert.result (c.insert.ensures.put clean rows c.requires.kept) (c.insert.ensures.kept clean rows c.requires.kept)

pub returns-clause-put : goal.returns-clause-put
returns-clause-put c =
    let rows = rows_of (Some c.args.conn.now) in
    inserted_put rows (kept_as c.args.row.now) c.insert.new.conn c.insert.result (c.insert.ensures.put (memory_is_clean c.insert.new.conn) rows c.requires.kept)

pub returns-clause-unchanged : goal.returns-clause-unchanged
returns-clause-unchanged c =
    let rows = rows_of (Some c.args.conn.now) in
    inserted_unchanged rows c.insert.new.conn c.insert.result (c.insert.ensures.kept (memory_is_clean c.insert.new.conn) rows c.requires.kept)
