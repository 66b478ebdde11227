use Rattle.std.proofs.Common.{arith}
use Rattle.ldar_journal.proofs.ReadingLemmas.{few_batches}
use Rattle.ldar_journal.proofs.ShelfLemmas.{IsShelved-as, IsShelved-opens}
use Rattle.ldar_journal.proofs.journal.Journal.disk.Goals as goal

pub returns-clause-opens : goal.returns-clause-opens
returns-clause-opens g c =
    let j = c.self.inside in
    rw (← c.self.view_is) (IsShelved-opens (g.D.Disk.content j.disk) (g.D.Disk.images j.disk) j.end j.frames j.doubt j.torn c.self.invariant)

pub returns-clause-images : goal.returns-clause-images
returns-clause-images g c =
    let j = c.self.inside in
    rw (← c.self.view_is) (IsShelved-as (g.D.Disk.content j.disk) (g.D.Disk.images j.disk) j.end j.frames j.doubt j.torn c.self.invariant)

pub returns-clause-few : goal.returns-clause-few
returns-clause-few g c =
    let counted = c.self.invariant.counted in
    let few = few_batches c.self.inside.frames counted.each in
    let fits = counted.kept.fits in
    rw (← c.self.view_is) (omega arith)
