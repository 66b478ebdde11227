use Rattle.office_commands.proofs.FilingLemmas.{filed_ends}
use Rattle.office_commands.proofs.reports.file_one.Goals as goal

pub returns-in-Ok-clause-ends : goal.returns-in-Ok-clause-ends
returns-in-Ok-clause-ends g c =
    let filing = g.F.Filing.on_file in
    let pieces = g.K.Sink.pieces in
    filed_ends c.args.report.now c.in-Ok.revision c.tell_filed.result (filing c.args.filing.now) (filing c.file_report.new.filing)
    (pieces c.args.output.now) (pieces c.tell_filed.new.output) c.tell_filed.ensures.only c.in-Ok.ensures.value c.in-Ok.ensures.put
    c.tell_filed.ensures.ends
