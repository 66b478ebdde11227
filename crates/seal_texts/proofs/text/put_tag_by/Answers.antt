use Rattle.std.proofs.Common.{append_assoc}
use Rattle.seal_texts.specs.SealTexts.{tag_line_by}
use Rattle.seal_texts.proofs.text.put_tag_by.Goals as goal

pub returns : goal.returns
unfolding tag_line_by
returns c = record { value = simp append_assoc (simp append_assoc at c.write.ensures.bytes) }
