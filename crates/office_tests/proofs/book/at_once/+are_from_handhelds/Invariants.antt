use Rattle.std.proofs.Common.{length}
use Rattle.office_tests.proofs.book.at_once.+are_from_handhelds.Given as goal

abbrev pub decreases-are_from_handhelds : goal.decreases-are_from_handhelds
decreases-are_from_handhelds l = length l.requests.now
