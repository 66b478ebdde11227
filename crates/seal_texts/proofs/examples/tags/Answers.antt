use Rattle.std.proofs.Common.{refl}
use Rattle.std.specs.Fmt.{digits}
use Rattle.ldar_days.specs.Calendar.{first_day, month_of, month_length}
use Rattle.seal_texts.specs.SealTexts.{tag_line_by}
use Rattle.seal_texts.proofs.examples.tags.Goals as goal

pub returns-clause-reading : goal.returns-clause-reading
unfolding digits first_day month_of month_length tag_line_by
returns-clause-reading c = refl

pub returns-clause-drip : goal.returns-clause-drip
unfolding digits first_day month_of month_length tag_line_by
returns-clause-drip c = refl

pub returns-clause-sensor : goal.returns-clause-sensor
unfolding digits first_day month_of month_length tag_line_by
returns-clause-sensor c = refl

pub returns-clause-last_day : goal.returns-clause-last_day
unfolding digits first_day month_of month_length tag_line_by
returns-clause-last_day c = refl
