use Rattle.ldar_law.proofs.SpanLemmas.{spans_follow}
use Rattle.ldar_law.proofs.laws.repairs.spans_follow.Goals as goal

pub returns : goal.returns
returns c = record { law = spans_follow }
