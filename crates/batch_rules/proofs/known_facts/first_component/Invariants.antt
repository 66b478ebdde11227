use Rattle.std.proofs.Common.{◌≡◌, drop}
use Rattle.batch_rules.specs.Among.{entered_among}
use Rattle.batch_rules.proofs.known_facts.first_component.Given as goal

abbrev pub invariant-loop-fact : goal.invariant-loop-fact
invariant-loop-fact l = entered_among l.component l.facts ≡ entered_among l.component (drop l.fact-index l.facts)
