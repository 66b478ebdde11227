use Rattle.history_laws.proofs.SpanLemmas.{spans_up_to_a_day, spans_by_facts_up_to_a_day}
use Rattle.history_laws.proofs.spans.spans_up_to_a_day.Goals as goal

pub returns : goal.returns
returns c = record { law = spans_up_to_a_day; facts = spans_by_facts_up_to_a_day }
