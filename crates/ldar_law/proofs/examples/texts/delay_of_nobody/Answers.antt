use Rattle.std.proofs.Common.{refl}
use Rattle.std.specs.Fmt.{digits}
use Rattle.ldar_days.specs.Calendar.{first_day, month_of}
use Rattle.ldar_law.specs.Texts.{delayed_line}
use Rattle.ldar_law.proofs.examples.texts.delay_of_nobody.Goals as goal

pub returns-clause-signer : goal.returns-clause-signer
unfolding digits first_day month_of delayed_line
returns-clause-signer c = refl
