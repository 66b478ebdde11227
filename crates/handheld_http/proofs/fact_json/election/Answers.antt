use Rattle.handheld_http.specs.FactJson.{election}
use Rattle.handheld_http.proofs.KindLemmas.{known_keys, other_keys}
use Rattle.handheld_http.proofs.fact_json.election.Goals as goal

pub returns-then-not-has_only-clause-value : goal.returns-then-not-has_only-clause-value
unfolding election
returns-then-not-has_only-clause-value c = other_keys _ _ c.if-not-has_only.ensures

pub returns-clause-value : goal.returns-clause-value
unfolding election
returns-clause-value c = known_keys _ _ _ c.if-not-has_only.ensures c.election_members.ensures.value
