use Rattle.std.proofs.Common.{◌≡◌}
use Rattle.room_tests.proofs.threads.send.Given as goal

abbrev pub invariant-loop-request : goal.invariant-loop-request
invariant-loop-request g l = l.pass.room ≡ l.room
