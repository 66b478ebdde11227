use Rattle.std.proofs.Common.{append_assoc, rules}
use Rattle.ldar_law.specs.Texts.{due_line}
use Rattle.view_texts.proofs.due.put_duty.Goals as goal

pub returns : goal.returns
unfolding due_line
returns c = simp append_assoc (search rules)
