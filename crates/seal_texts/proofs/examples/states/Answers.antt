use Rattle.std.proofs.Common.{refl}
use Rattle.std.specs.Fmt.{digits}
use Rattle.ldar_days.specs.Calendar.{first_day, month_of, month_length}
use Rattle.seal_texts.specs.SealTexts.{duty_line}
use Rattle.seal_texts.proofs.examples.states.Goals as goal

pub returns-clause-open : goal.returns-clause-open
unfolding digits first_day month_of month_length duty_line
returns-clause-open c = refl

pub returns-clause-missed : goal.returns-clause-missed
unfolding digits first_day month_of month_length duty_line
returns-clause-missed c = refl

pub returns-clause-done : goal.returns-clause-done
unfolding digits first_day month_of month_length duty_line
returns-clause-done c = refl
