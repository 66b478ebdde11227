use Rattle.office_mirror.proofs.WorldLemmas.{mirror_prefix}
use Rattle.office_mirror.proofs.laws.mirror_prefix.Goals as goal

pub returns : goal.returns
returns c = record { law = mirror_prefix }
