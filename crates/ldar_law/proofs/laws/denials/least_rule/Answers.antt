use Rattle.ldar_law.proofs.VerdictLemmas.{least_rule_is_told, no_rule_denies}
use Rattle.ldar_law.proofs.laws.denials.least_rule.Goals as goal

pub returns-clause-told : goal.returns-clause-told
returns-clause-told c = least_rule_is_told

pub returns-clause-none : goal.returns-clause-none
returns-clause-none c = no_rule_denies
