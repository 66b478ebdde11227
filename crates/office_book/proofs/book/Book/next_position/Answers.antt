use Rattle.std.proofs.Common.{[], ap, subst, arith}
use Rattle.ldar_journal.specs.Image.{batches_of}
use Rattle.office_book.specs.Archive.{MayCome}
use Rattle.office_book.proofs.BookLemmas.{may_stay}
use Rattle.office_book.proofs.book.Book.next_position.Goals as goal

pub returns-clause-may_come : goal.returns-clause-may_come
returns-clause-may_come g c =
    subst (λ j. MayCome (batches_of j.frames) []) c.self.view_is
    (may_stay (batches_of c.self.inside.journal.frames) c.self.inside.journal.doubt c.self.invariant.may_come)
