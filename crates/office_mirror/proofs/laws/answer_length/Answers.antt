use Rattle.office_mirror.proofs.LengthLemmas.{answer_fits, begun_fits}
use Rattle.office_mirror.proofs.laws.answer_length.Goals as goal

pub returns : goal.returns
returns c = record { whole = answer_fits; begun = begun_fits }
