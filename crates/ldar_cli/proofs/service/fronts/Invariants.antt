use Rattle.std.proofs.Common.{◌≡◌, length}
use Rattle.ldar_cli.proofs.service.fronts.Given as goal

-- each round made a front
abbrev pub invariant-loop : goal.invariant-loop
invariant-loop g l = length l.fronts.items ≡ l.counter
