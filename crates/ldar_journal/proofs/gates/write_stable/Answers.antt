use Rattle.std.proofs.Common.{length}
use Rattle.disk_model.specs.Disk.{Torn}
use Rattle.ldar_journal.specs.Crash.{ComesFrom}
use Rattle.ldar_journal.proofs.CrashLemmas.{torn_images, synced_images, LeavesOnly-call}
use Rattle.ldar_journal.proofs.gates.write_stable.Goals as goal

pub returns-in_err-write_at-clause-crash : goal.returns-in_err-write_at-clause-crash
returns-in_err-write_at-clause-crash g c =
    torn_images c.args.at (length c.args.bytes.now) (g.D.Disk.images c.args.disk.now) (g.D.Disk.images c.write_at.new.self) c.write_at.result
    c.write_at.ensures.crash

pub returns-in_err-write_at-clause-any_moment : goal.returns-in_err-write_at-clause-any_moment
returns-in_err-write_at-clause-any_moment g c =
    LeavesOnly-call g.D.Disk.clock g.D.Disk.left g.D.Disk.images c.args.disk.now c.write_at.new.self
    (ComesFrom (Torn c.args.at (length c.args.bytes.now)) (g.D.Disk.images c.args.disk.now)) c.write_at.ensures.any_moment
    (torn_images c.args.at (length c.args.bytes.now) (g.D.Disk.images c.args.disk.now) (g.D.Disk.images c.write_at.new.self) c.write_at.result
    c.write_at.ensures.crash)

pub returns-clause-crash : goal.returns-clause-crash
returns-clause-crash g c = λ image now.
    torn_images c.args.at (length c.args.bytes.now) (g.D.Disk.images c.args.disk.now) (g.D.Disk.images c.write_at.new.self) c.write_at.result
    c.write_at.ensures.crash image
    (synced_images (g.D.Disk.images c.write_at.new.self) (g.D.Disk.images c.sync.new.self) c.sync.result c.sync.ensures.crash image now)
