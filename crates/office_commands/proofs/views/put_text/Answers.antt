use Rattle.office_commands.proofs.NoteLemmas.{said_whole, said_front}
use Rattle.office_commands.proofs.views.put_text.Goals as goal

pub returns-in-Ok-clause-ends : goal.returns-in-Ok-clause-ends
returns-in-Ok-clause-ends g c =
    let p = c.in-Ok.ensures.puts in
    said_whole c.args.text.now (g.K.Sink.pieces c.args.output.now) (g.K.Sink.pieces c.put_all.new.sink) p.0 p.1 p.2 p.3 p.4

pub returns-in-Err-clause-ends : goal.returns-in-Err-clause-ends
returns-in-Err-clause-ends g c =
    let p = c.in-Err.ensures.puts in
    said_front c.args.text.now (g.K.Sink.pieces c.args.output.now) (g.K.Sink.pieces c.put_all.new.sink) p.0 p.1 p.2 p.3
