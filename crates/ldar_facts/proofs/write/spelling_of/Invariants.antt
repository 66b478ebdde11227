use Rattle.ldar_facts.proofs.Spelling.{IsWritten}
use Rattle.ldar_facts.proofs.write.spelling_of.Given as goal

abbrev pub invariant-loop-fact : goal.invariant-loop-fact
invariant-loop-fact l = IsWritten l.batch l.fact-index l.out.items
