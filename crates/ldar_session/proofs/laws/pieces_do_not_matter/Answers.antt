use Rattle.ldar_session.proofs.StreamLemmas.{one_cut}
use Rattle.ldar_session.proofs.laws.pieces_do_not_matter.Goals as goal

pub returns : goal.returns
returns c = record { law = one_cut }
