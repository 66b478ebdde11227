use Rattle.list_words.proofs.WordLaws.{somewhere_decides}
use Rattle.list_words.proofs.laws.some_element.Goals as goal

pub returns : goal.returns
returns g c = record { law = somewhere_decides _ }
