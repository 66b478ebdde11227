use Rattle.std.proofs.Common.{◌++◌, List, ℕ, codes, subst}
use Rattle.std.specs.Fmt.{decimal}
use Rattle.std.proofs.lemmas.Result.{err_from_is_err_and}
use Rattle.ldar_law.specs.Texts.{end_of_line}
use Rattle.ldar_law.specs.Verdicts.{paragraph_of}
use Rattle.office_commands.specs.Statuses.{IsPut}
use Rattle.office_commands.proofs.NoteLemmas.{put_more, put_part}
use Rattle.office_commands.proofs.notes.put_rule.Goals as goal

pub returns-in_err-put_number-clause-said : goal.returns-in_err-put_number-clause-said
returns-in_err-put_number-clause-said g c =
    let one = c.in_err-put_number.ensures.said in
    let e = err_from_is_err_and c.from_residual.result c.from_residual.ensures.1 in
    put_part (decimal c.args.rule ++ codes " ") (paragraph_of c.args.rule ++ end_of_line) _ _ one.0 c.from_residual.result e.0 e.1 one.1

pub returns-clause-said : goal.returns-clause-said
returns-clause-said g c =
    let one = c.in_ok-put_number.ensures.said in
    let pieces = g.E.Sink.pieces in
    put_more (decimal c.args.rule ++ codes " ") (paragraph_of c.args.rule ++ end_of_line) _ _ _ one.0 c.put_both.result one.2 one.1
    (subst (λ (name : List ℕ). IsPut (name ++ end_of_line) (pieces c.put_number.new.notes) (pieces c.put_both.new.notes) c.put_both.result)
    c.named_by.ensures.value c.put_both.ensures.said)
