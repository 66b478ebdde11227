use Rattle.std.proofs.Common.{◌∙◌, sym}
use Rattle.report_filing.proofs.SameCells.{lines_agree}
use Rattle.report_filing.proofs.cells.are_same_lines.Goals as goal

pub returns : goal.returns
returns c =
    let agree = lines_agree c.as_slice.result.now c.as_slice-2.result.now c.eq.result c.eq.ensures in
    let mine = c.as_slice.ensures.value in
    let theirs = c.as_slice-2.ensures.value in
    record { value = (λ same. sym mine ∙ agree.0 same ∙ theirs, λ same. agree.1 (mine ∙ same ∙ sym theirs)) }
