use Rattle.sqlite.specs.Held.{state}
use Rattle.report_table.proofs.Effects.{make_made}
use Rattle.report_table.proofs.kept.make.Goals as goal

pub returns : goal.returns
returns g c = record {
  made = λ clean bare. make_made (state g.S.Store c.args.conn.now) (state g.S.Store c.make.new.conn) c.make.result bare (c.make.ensures.runs clean);
}
