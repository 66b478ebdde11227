use Rattle.history_laws.proofs.OnceLemmas.{each_is_entered_once, part_has_each_once}
use Rattle.history_laws.proofs.ruly.entered_once.Goals as goal

pub returns : goal.returns
returns c = record { law = each_is_entered_once; part = part_has_each_once }
