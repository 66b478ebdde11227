use Rattle.std.proofs.Common.{refl}
use Rattle.std.specs.Fmt.{digits}
use Rattle.ldar_law.proofs.examples.texts.replies.Goals as goal

pub returns-clause-receipt : goal.returns-clause-receipt
unfolding digits
returns-clause-receipt c = refl

pub returns-clause-conflict : goal.returns-clause-conflict
unfolding digits
returns-clause-conflict c = refl

pub returns-clause-denied : goal.returns-clause-denied
unfolding digits
returns-clause-denied c = refl

pub returns-clause-full : goal.returns-clause-full
unfolding digits
returns-clause-full c = refl

pub returns-clause-no_such : goal.returns-clause-no_such
unfolding digits
returns-clause-no_such c = refl

pub returns-clause-fault : goal.returns-clause-fault
unfolding digits
returns-clause-fault c = refl

pub returns-clause-memory : goal.returns-clause-memory
unfolding digits
returns-clause-memory c = refl
