use Rattle.std.proofs.Common.{refl}
use Rattle.std.specs.Fmt.{digits}
use Rattle.ldar_days.specs.Calendar.{first_day, month_of, month_length}
use Rattle.seal_texts.specs.SealTexts.{duty_line, tag_line_by}
use Rattle.seal_texts.proofs.examples.views.Goals as goal

pub returns-clause-nothing : goal.returns-clause-nothing
unfolding digits first_day month_of month_length duty_line tag_line_by
returns-clause-nothing c = refl

pub returns-clause-lines : goal.returns-clause-lines
unfolding digits first_day month_of month_length duty_line tag_line_by
returns-clause-lines c = refl
