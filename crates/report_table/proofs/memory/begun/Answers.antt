use Rattle.sqlite.proofs.Callers.{memory_is_clean}
use Rattle.report_table.proofs.MemoryRows.{bare}
use Rattle.report_table.proofs.memory.begun.Goals as goal

pub returns : goal.returns
returns c = record { empty = c.in_ok-make.ensures.made (memory_is_clean c.make.new.conn) (bare c.in_ok-conn.conn c.in_ok-conn.ensures.empty) }
