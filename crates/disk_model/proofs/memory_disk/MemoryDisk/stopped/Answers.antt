use Rattle.std.proofs.Common.{◌∙◌}
use Rattle.disk_model.proofs.StopLemmas.{stopped_is_left}
use Rattle.disk_model.proofs.memory_disk.MemoryDisk.stopped.Goals as goal

pub returns-clause-any_moment : goal.returns-clause-any_moment
returns-clause-any_moment c =
    let bytes = c.deref.ensures.value ∙ c.in_ok-bytes.ensures.value in
    stopped_is_left c.args.self.now c.args.call c.args.left.now c.deref.result.now _ bytes c.new.ensures.value
