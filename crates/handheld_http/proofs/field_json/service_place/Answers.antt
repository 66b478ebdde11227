use Rattle.handheld_http.proofs.field_json.service_place.Goals as goal

pub returns : goal.returns
returns c = c.word.ensures.value
