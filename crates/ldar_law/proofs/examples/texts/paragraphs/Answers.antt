use Rattle.std.proofs.Common.{refl}
use Rattle.list_words.specs.Ranges.{until}
use Rattle.ldar_law.proofs.examples.texts.paragraphs.Goals as goal

pub returns : goal.returns
unfolding until
returns c = refl
