use Rattle.std.proofs.Common.{append_assoc, rules}
use Rattle.view_texts.proofs.lines.begun.Goals as goal

pub returns : goal.returns
returns c = simp append_assoc (search rules)
