use Rattle.std.proofs.Common.{sym}
use Rattle.batch_rules.proofs.known_facts.Known.first_component.Goals as goal

pub returns-then-is_beyond : goal.returns-then-is_beyond
returns-then-is_beyond c = record { value = sym (c.is_beyond.ensures.new c.if-is_beyond.true) }
