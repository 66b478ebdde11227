use Rattle.std.proofs.Common.{refl}
use Rattle.std.specs.Fmt.{digits}
use Rattle.ldar_law.proofs.examples.texts.no_such_replies.Goals as goal

pub returns-clause-unit : goal.returns-clause-unit
unfolding digits
returns-clause-unit c = refl

pub returns-clause-quarter : goal.returns-clause-quarter
unfolding digits
returns-clause-quarter c = refl

pub returns-clause-half : goal.returns-clause-half
unfolding digits
returns-clause-half c = refl

pub returns-clause-day : goal.returns-clause-day
unfolding digits
returns-clause-day c = refl
