use Rattle.std.proofs.Common.{◌≡◌, ◌≤◌, List, length, take}
use Rattle.ldar_journal.specs.Image.{batches_of}
use Rattle.office_book.specs.Grouped.{IsSorted}
use Rattle.office_book.proofs.book.Book.sort.Given as goal

abbrev pub invariant-loop-place : goal.invariant-loop-place
invariant-loop-place g l = record {
  sorted : IsSorted (batches_of l.self.frames) (take l.place l.requests) (take l.place l.replies) l.batches.items l.first;
  few : length l.batches.items ≤ l.place;
  before : l.first ≤ l.place;
  each : length l.replies ≡ length l.fn.replies;
}
