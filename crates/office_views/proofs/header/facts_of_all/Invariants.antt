use Rattle.std.proofs.Common.{◌≡◌, take}
use Rattle.office_views.specs.Inside.{facts_stated}
use Rattle.office_views.proofs.header.facts_of_all.Given as goal

abbrev pub invariant-loop-batch : goal.invariant-loop-batch
invariant-loop-batch l = l.facts.items ≡ facts_stated (take l.batch-index l.batches)
