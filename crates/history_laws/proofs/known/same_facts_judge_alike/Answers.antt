use Rattle.history_laws.proofs.KnownLemmas.{same_facts_judge_alike}
use Rattle.history_laws.proofs.known.same_facts_judge_alike.Goals as goal

pub returns : goal.returns
returns c = record { law = same_facts_judge_alike }
