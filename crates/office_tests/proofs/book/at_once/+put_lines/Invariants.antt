use Rattle.std.proofs.Common.{length}
use Rattle.office_tests.proofs.book.at_once.+put_lines.Given as goal

abbrev pub decreases-put_lines : goal.decreases-put_lines
decreases-put_lines l = length l.replies.now
