use Rattle.std.proofs.Common.{◌++◌, List, ℕ, subst}
use Rattle.std.proofs.lemmas.Result.{err_from_is_err_and}
use Rattle.office_commands.specs.Statuses.{IsPut}
use Rattle.office_commands.proofs.NoteLemmas.{put_more, put_part}
use Rattle.office_commands.proofs.notes.put_number.Goals as goal

pub returns-in_err-put_text-clause-said : goal.returns-in_err-put_text-clause-said
returns-in_err-put_text-clause-said g c =
    let one = c.in_err-put_text.ensures.said in
    let e = err_from_is_err_and c.from_residual.result c.from_residual.ensures.1 in
    put_part c.args.before.now _ _ _ one.0 c.from_residual.result e.0 e.1 one.1

pub returns-clause-said : goal.returns-clause-said
returns-clause-said g c =
    let one = c.in_ok-put_text.ensures.said in
    let pieces = g.E.Sink.pieces in
    put_more c.args.before.now _ _ _ _ one.0 c.put_both.result one.2 one.1
    (subst (λ (digits : List ℕ). IsPut (digits ++ c.args.behind.now) (pieces c.put_text.new.notes) (pieces c.put_both.new.notes) c.put_both.result)
    c.format.ensures.text c.put_both.ensures.said)
