use Rattle.std.proofs.Common.{◌≡◌, ◌++◌, take, length}
use Rattle.ldar_facts.specs.Grammar.{spelled}
use Rattle.office_mirror.specs.AnswerGrammar.{head_fields}
use Rattle.office_mirror.proofs.AnswerLemmas.{payload, AreFilled}
use Rattle.office_mirror.proofs.write.spelling_of.Given as goal

abbrev pub invariant-loop-batch : goal.invariant-loop-batch
invariant-loop-batch l =
    (l.out.items ≡ spelled (head_fields l.answer.start (length l.answer.batches)) ++ payload (take l.batch-index l.answer.batches))
    × AreFilled (take l.batch-index l.answer.batches)
