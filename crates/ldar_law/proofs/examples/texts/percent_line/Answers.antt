use Rattle.std.proofs.Common.{refl}
use Rattle.std.specs.Fmt.{digits}
use Rattle.ldar_law.proofs.examples.texts.percent_line.Goals as goal

pub returns-clause-no_valve : goal.returns-clause-no_valve
unfolding digits
returns-clause-no_valve c = refl

pub returns-clause-size : goal.returns-clause-size
unfolding digits
returns-clause-size c = refl

pub returns-clause-skipped : goal.returns-clause-skipped
unfolding digits
returns-clause-skipped c = refl
