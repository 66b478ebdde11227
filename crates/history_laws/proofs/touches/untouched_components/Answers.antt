use Rattle.history_laws.proofs.TouchLemmas.{not_touched_is_untouched, untouched_stays}
use Rattle.history_laws.proofs.touches.untouched_components.Goals as goal

pub returns : goal.returns
returns c = record { law = not_touched_is_untouched; stays = untouched_stays }
