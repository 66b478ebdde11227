use Rattle.handheld_http.proofs.batch_json.kind_place.Goals as goal

pub returns-clause-value : goal.returns-clause-value
returns-clause-value c = c.word.ensures.value
