use Rattle.std.proofs.Common.{◌++◌, codes}
use Rattle.std.proofs.lemmas.Result.{err_from_is_err_and}
use Rattle.ldar_law.specs.Texts.{end_of_line}
use Rattle.office_commands.proofs.NoteLemmas.{put_more, put_part}
use Rattle.office_commands.proofs.notes.put_no_such.Goals as goal

pub returns-in_err-put_text-clause-said : goal.returns-in_err-put_text-clause-said
returns-in_err-put_text-clause-said g c =
    let one = c.in_err-put_text.ensures.said in
    let e = err_from_is_err_and c.from_residual.result c.from_residual.ensures.1 in
    put_part (codes "no such ") (c.args.word.now ++ end_of_line) _ _ one.0 c.from_residual.result e.0 e.1 one.1

pub returns-clause-said : goal.returns-clause-said
returns-clause-said g c =
    let one = c.in_ok-put_text.ensures.said in
    put_more (codes "no such ") (c.args.word.now ++ end_of_line) _ _ _ one.0 c.put_both.result one.2 one.1 c.put_both.ensures.said
