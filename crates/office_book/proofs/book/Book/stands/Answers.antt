use Rattle.std.proofs.Common.{subst}
use Rattle.ldar_journal.specs.Crash.{OnDisk}
use Rattle.office_book.specs.Safe.{StandsIn, state_of}
use Rattle.office_book.proofs.book.Book.stands.Goals as goal

pub returns : goal.returns
returns g c = record {
  law = subst (λ j. OnDisk (g.D.Disk.content j.disk) (g.D.Disk.images j.disk) (StandsIn (state_of j))) c.self.view_is c.self.invariant.stands;
}
