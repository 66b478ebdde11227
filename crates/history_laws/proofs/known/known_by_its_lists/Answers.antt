use Rattle.history_laws.proofs.KnownLemmas.{known_by_its_lists, components_by_their_lists}
use Rattle.history_laws.proofs.known.known_by_its_lists.Goals as goal

pub returns : goal.returns
returns c = record { law = known_by_its_lists; unit = components_by_their_lists }
