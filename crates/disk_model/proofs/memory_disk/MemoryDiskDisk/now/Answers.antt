use Rattle.disk_model.proofs.ImageLemmas.{bytes_are_image}
use Rattle.disk_model.proofs.memory_disk.MemoryDiskDisk.now.Goals as goal

pub returns-clause-image : goal.returns-clause-image
returns-clause-image c = bytes_are_image c.args.self.now.start c.args.self.now.past
