use Rattle.std.proofs.Common.{append_assoc}
use Rattle.view_texts.proofs.delays.put_delay_words.Goals as goal

pub returns : goal.returns
returns c = record { value = simp append_assoc (simp append_assoc at c.write.ensures.bytes) }
