use Rattle.std.proofs.lemmas.List.{get_or-replicate}
use Rattle.batch_rules.proofs.touched.no_places.Goals as goal

pub returns : goal.returns
returns c = record { value = λ number within. get_or-replicate 65_536 number 0 0 within }
