use Rattle.drill_history.proofs.IdentityLemmas.{drill_identities_differ}
use Rattle.drill_history.proofs.laws.drill_identities_differ.Goals as goal

pub returns : goal.returns
returns c = record { law = drill_identities_differ }
