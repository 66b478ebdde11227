use Rattle.std.proofs.Common.{◌≡◌, ◌-◌}
use Rattle.ldar_facts.specs.Letters.{zeros}
use Rattle.ldar_facts.proofs.cursor.Cursor.zeros.Given as goal

abbrev pub invariant-loop : goal.invariant-loop
invariant-loop l = (zeros (l.count - l.counter)).read l.self ≡ (zeros l.count).read l.initial.self
