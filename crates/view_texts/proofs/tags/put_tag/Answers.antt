use Rattle.std.proofs.Common.{append_assoc}
use Rattle.ldar_law.specs.Texts.{tag_line}
use Rattle.view_texts.proofs.tags.put_tag.Goals as goal

pub returns : goal.returns
unfolding tag_line
returns c = record { value = simp append_assoc (simp append_assoc at c.write.ensures.bytes) }
