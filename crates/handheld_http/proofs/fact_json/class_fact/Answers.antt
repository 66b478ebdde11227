use Rattle.handheld_http.specs.FactJson.{class_fact}
use Rattle.handheld_http.proofs.KindLemmas.{known_keys, other_keys}
use Rattle.handheld_http.proofs.fact_json.class_fact.Goals as goal

pub returns-then-not-has_only-clause-value : goal.returns-then-not-has_only-clause-value
unfolding class_fact
returns-then-not-has_only-clause-value c = other_keys _ _ c.if-not-has_only.ensures

pub returns-clause-value : goal.returns-clause-value
unfolding class_fact
returns-clause-value c = known_keys _ _ _ c.if-not-has_only.ensures c.class_fact_members.ensures.value
