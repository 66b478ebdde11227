use Rattle.std.proofs.Common.{rules}
use Rattle.disk_model.proofs.ImageLemmas.{same_bytes_are_image}
use Rattle.disk_model.proofs.memory_disk.MemoryDiskDisk.TheImpl.Goals as goal

pub sync-tells : goal.sync-tells
sync-tells x c = let image = same_bytes_are_image c.args.self.now.start c.args.self.now.past in search rules
