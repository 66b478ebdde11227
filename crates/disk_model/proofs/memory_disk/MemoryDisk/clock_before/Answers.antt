use Rattle.std.proofs.Common.{rules}
use Rattle.disk_model.proofs.StopLemmas.{clock_before_it, clock_before_other}
use Rattle.disk_model.proofs.memory_disk.MemoryDisk.clock_before.Goals as goal

pub returns-then-last-call : goal.returns-then-last-call
returns-then-last-call c =
    let disk = c.args.self.now in
    let earlier = c.in-Some.earlier.now in
    let last = c.in-Some.last.now in
    let calls = c.up_to-past.result.now in
    record { value = clock_before_it disk.start c.args.call disk.past calls earlier last (search rules) (search rules) (search rules) }

pub returns-else-last-call : goal.returns-else-last-call
returns-else-last-call c =
    let disk = c.args.self.now in
    let earlier = c.in-Some.earlier.now in
    let last = c.in-Some.last.now in
    let calls = c.up_to-past.result.now in
    record { value = clock_before_other disk.start c.args.call disk.past calls earlier last (search rules) (search rules) (search rules) }
