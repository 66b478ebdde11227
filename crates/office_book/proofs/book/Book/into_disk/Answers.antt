use Rattle.std.proofs.Common.{sym, subst}
use Rattle.ldar_journal.specs.Crash.{OnDisk}
use Rattle.office_book.specs.Safe.{StandsIn, state_of}
use Rattle.office_book.proofs.book.Book.into_disk.Goals as goal

pub returns-clause-stands : goal.returns-clause-stands
returns-clause-stands g c =
    let d = g.D.Disk in
    let journal = c.self.inside.journal in
    subst (λ disk. OnDisk (d.content disk) (d.images disk) (StandsIn (state_of c.args.self))) (sym c.into_disk.ensures.value)
    (subst (λ shelf. OnDisk (d.content journal.disk) (d.images journal.disk) (StandsIn (state_of shelf))) c.self.view_is c.self.invariant.stands)
