use Rattle.std.proofs.lemmas.Result.{err_from_is_err_and}
use Rattle.office_mirror.proofs.LineLemmas.{put_more, put_part}
use Rattle.office_mirror.proofs.line.put_both.Goals as goal

pub returns-in_err-put_text-clause-said : goal.returns-in_err-put_text-clause-said
returns-in_err-put_text-clause-said g c =
    let one = c.in_err-put_text.ensures.said in
    let e = err_from_is_err_and c.from_residual.result c.from_residual.ensures.1 in
    put_part (g.D.Disk.clock c.args.beside.now) c.args.first.now c.args.second.now _ _ one.0 one.1 c.from_residual.result e.0 e.1 one.2 one.3 one.5

pub returns-clause-said : goal.returns-clause-said
returns-clause-said g c =
    let one = c.in_ok-put_text.ensures.said in
    put_more (g.D.Disk.clock c.args.beside.now) c.args.first.now c.args.second.now _ _ _ one.0 one.1 c.put_text-2.result one.2 one.3 one.4 one.5
    c.put_text-2.ensures.said
