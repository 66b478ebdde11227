use Rattle.std.proofs.Common.{◌≡◌, ◌*◌, ◌≤◌, take}
use Rattle.ldar_journal.specs.Image.{fact_count}
use Rattle.office_book.proofs.replies.facts_in.Given as goal

abbrev pub invariant-loop-batch : goal.invariant-loop-batch
invariant-loop-batch l = record {
  counted : l.facts ≡ fact_count (take l.batch-index l.batches);
  few : l.facts ≤ 512 * l.batch-index;
}
