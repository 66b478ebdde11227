use Rattle.handheld_http.proofs.RouteLaws.{parts_are_parameters_with}
use Rattle.handheld_http.proofs.laws.parts_are_parameters.Goals as goal

pub returns : goal.returns
returns c = record { law = parts_are_parameters_with }
