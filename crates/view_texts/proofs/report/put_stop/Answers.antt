use Rattle.std.proofs.Common.{append_assoc}
use Rattle.ldar_law.specs.Texts.{stop_line}
use Rattle.view_texts.proofs.report.put_stop.Goals as goal

pub returns : goal.returns
unfolding stop_line
returns c = record { value = simp append_assoc (simp append_assoc at c.write.ensures.bytes) }
