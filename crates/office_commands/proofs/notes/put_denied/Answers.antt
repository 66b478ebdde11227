use Rattle.std.proofs.Common.{◌++◌, codes}
use Rattle.std.specs.Fmt.{decimal}
use Rattle.std.proofs.lemmas.Result.{err_from_is_err_and}
use Rattle.ldar_law.specs.Texts.{end_of_line}
use Rattle.ldar_law.specs.Verdicts.{paragraph_of}
use Rattle.office_commands.proofs.NoteLemmas.{put_more, put_part}
use Rattle.office_commands.proofs.notes.put_denied.Goals as goal

pub returns-in_err-put_number-clause-said : goal.returns-in_err-put_number-clause-said
returns-in_err-put_number-clause-said g c =
    let one = c.in_err-put_number.ensures.said in
    let e = err_from_is_err_and c.from_residual.result c.from_residual.ensures.1 in
    put_part (codes "denied " ++ (decimal c.args.fact ++ codes " ")) (decimal c.args.rule ++ codes " " ++ (paragraph_of c.args.rule ++ end_of_line)) _ _ one.0
    c.from_residual.result e.0 e.1 one.1

pub returns-clause-said : goal.returns-clause-said
returns-clause-said g c =
    let one = c.in_ok-put_number.ensures.said in
    put_more (codes "denied " ++ (decimal c.args.fact ++ codes " ")) (decimal c.args.rule ++ codes " " ++ (paragraph_of c.args.rule ++ end_of_line)) _ _ _
    one.0 c.put_rule.result one.2 one.1 c.put_rule.ensures.said
