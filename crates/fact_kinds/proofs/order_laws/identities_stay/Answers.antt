use Rattle.fact_kinds.proofs.Identities.{identities_stay}
use Rattle.fact_kinds.proofs.order_laws.identities_stay.Goals as goal

pub returns : goal.returns
returns c = record { law = identities_stay }
