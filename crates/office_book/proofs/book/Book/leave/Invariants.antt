use Rattle.std.proofs.Common.{◌≡◌, List, length, take}
use Rattle.ldar_journal.specs.Image.{batches_of}
use Rattle.office_book.specs.Grouped.{IsUnwritten}
use Rattle.office_book.proofs.book.Book.leave.Given as goal

abbrev pub invariant-loop-place : goal.invariant-loop-place
invariant-loop-place g l = record {
  unwritten : IsUnwritten (batches_of l.self.frames) (take l.place l.requests) (take l.place l.replies);
  each : length l.replies ≡ length l.fn.replies;
}
