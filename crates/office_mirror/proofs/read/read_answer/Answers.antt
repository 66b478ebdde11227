use Rattle.office_mirror.proofs.ReadLemmas.{found_is_read}
use Rattle.office_mirror.proofs.read.read_answer.Goals as goal

pub returns-clause-found : goal.returns-clause-found
returns-clause-found c = λ answer used within is.
    found_is_read c.args.bytes.now c.read_pieces.result c.read_pieces.ensures answer used within is
