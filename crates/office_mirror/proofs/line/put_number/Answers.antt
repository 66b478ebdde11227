use Rattle.std.proofs.Common.{◌++◌, List, ℕ, subst}
use Rattle.std.proofs.lemmas.Result.{err_from_is_err_and}
use Rattle.office_mirror.specs.Line.{IsPutAt}
use Rattle.office_mirror.proofs.LineLemmas.{put_more, put_part}
use Rattle.office_mirror.proofs.line.put_number.Goals as goal

pub returns-in_err-put_text-clause-said : goal.returns-in_err-put_text-clause-said
returns-in_err-put_text-clause-said g c =
    let one = c.in_err-put_text.ensures.said in
    let e = err_from_is_err_and c.from_residual.result c.from_residual.ensures.1 in
    put_part (g.D.Disk.clock c.args.beside.now) c.args.before.now _ _ _ one.0 one.1 c.from_residual.result e.0 e.1 one.2 one.3 one.5

pub returns-clause-said : goal.returns-clause-said
returns-clause-said g c =
    let one = c.in_ok-put_text.ensures.said in
    let clock = g.D.Disk.clock c.args.beside.now in
    let pieces = g.K.Sink.pieces in
    put_more clock c.args.before.now _ _ _ _ one.0 one.1 c.put_both.result one.2 one.3 one.4 one.5
    (subst (λ (digits : List ℕ). IsPutAt clock (digits ++ c.args.after.now) (pieces c.put_text.new.sink) (pieces c.put_both.new.sink) c.put_both.result)
    c.format.ensures.text c.put_both.ensures.said)
