use Rattle.std.proofs.Common.{refl}
use Rattle.std.specs.Fmt.{digits}
use Rattle.ldar_days.specs.Calendar.{first_day, month_of}
use Rattle.list_words.specs.Ranges.{until}
use Rattle.ldar_law.specs.Texts.{month_line, delay_line, stop_line}
use Rattle.ldar_law.proofs.examples.texts.report_of_all_numbers.Goals as goal

pub returns : goal.returns
unfolding digits first_day month_of until month_line delay_line stop_line
returns c = refl
