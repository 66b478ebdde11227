use Rattle.batch_rules.proofs.TableLemmas.{first_finding_is}
use Rattle.batch_rules.proofs.rules.findings.Goals as goal

pub returns : goal.returns
returns c = let known = first_finding_is c.args.case.now in record { value = cc }
