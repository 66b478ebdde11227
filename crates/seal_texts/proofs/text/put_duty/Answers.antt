use Rattle.std.proofs.Common.{append_assoc, rules}
use Rattle.seal_texts.specs.SealTexts.{duty_line}
use Rattle.seal_texts.proofs.text.put_duty.Goals as goal

pub returns : goal.returns
unfolding duty_line
returns c = simp append_assoc (search rules)
