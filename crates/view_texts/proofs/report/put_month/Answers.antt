use Rattle.std.proofs.Common.{append_assoc}
use Rattle.ldar_law.specs.Texts.{month_line}
use Rattle.view_texts.proofs.report.put_month.Goals as goal

pub returns : goal.returns
unfolding month_line
returns c =
    let month = c.number.ensures.value in
    record { value = simp append_assoc (simp (append_assoc, month) at c.write.ensures.bytes) }
