use Rattle.std.proofs.Common.{◌≡◌, drop}
use Rattle.batch_rules.specs.Among.{unit_among}
use Rattle.batch_rules.proofs.known_facts.first_unit.Given as goal

abbrev pub invariant-loop-fact : goal.invariant-loop-fact
invariant-loop-fact l = unit_among l.unit l.facts ≡ unit_among l.unit (drop l.fact-index l.facts)
