use Rattle.ldar_journal.proofs.ShelfLemmas.{IsShelved-as, IsShelved-opens}
use Rattle.ldar_journal.proofs.journal.Journal.into_disk.Goals as goal

pub returns-clause-opens : goal.returns-clause-opens
returns-clause-opens g c =
    let j = c.self.inside in
    rw (← c.self.view_is) (IsShelved-opens (g.D.Disk.content j.disk) (g.D.Disk.images j.disk) j.end j.frames j.doubt j.torn c.self.invariant)

pub returns-clause-images : goal.returns-clause-images
returns-clause-images g c =
    let j = c.self.inside in
    rw (← c.self.view_is) (IsShelved-as (g.D.Disk.content j.disk) (g.D.Disk.images j.disk) j.end j.frames j.doubt j.torn c.self.invariant)
