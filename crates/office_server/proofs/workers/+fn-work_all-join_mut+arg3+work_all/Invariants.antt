use Rattle.std.proofs.Common.{length}
use Rattle.office_server.proofs.workers.+fn-work_all-join_mut+arg3+work_all.Given as goal

abbrev pub decreases-join_mut+arg3 : goal.decreases-join_mut+arg3
decreases-join_mut+arg3 g l = length l.further.now

abbrev pub decreases-work_all : goal.decreases-work_all
decreases-work_all g l = length l.fronts.now
