use Rattle.std.proofs.Common.{refl}
use Rattle.std.specs.Fmt.{digits}
use Rattle.ldar_days.specs.Calendar.{first_day, month_of}
use Rattle.ldar_law.specs.Texts.{tag_line}
use Rattle.ldar_law.proofs.examples.texts.tag_list.Goals as goal

pub returns-clause-none : goal.returns-clause-none
unfolding digits first_day month_of tag_line
returns-clause-none c = refl

pub returns-clause-open : goal.returns-clause-open
unfolding digits first_day month_of tag_line
returns-clause-open c = refl

pub returns-clause-closed : goal.returns-clause-closed
unfolding digits first_day month_of tag_line
returns-clause-closed c = refl
