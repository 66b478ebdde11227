use Rattle.std.proofs.Common.{arith}
use Rattle.ldar_facts.proofs.GrammarLaws.{spelling_length}
use Rattle.ldar_facts.proofs.laws.spelling_length.Goals as goal

pub returns-clause-facts : goal.returns-clause-facts
returns-clause-facts c = λ bytes batch is. let len = spelling_length bytes batch is in (len.0, len.1)

pub returns-clause-in_range : goal.returns-clause-in_range
returns-clause-in_range c = λ bytes batch is. let len = spelling_length bytes batch is in (omega (arith, len.0, len.2), omega (arith, len.1, len.3))
