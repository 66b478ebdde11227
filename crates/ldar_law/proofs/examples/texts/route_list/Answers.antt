use Rattle.std.proofs.Common.{refl}
use Rattle.std.specs.Fmt.{digits}
use Rattle.ldar_days.specs.Calendar.{first_day, month_of}
use Rattle.ldar_law.specs.Texts.{route_line}
use Rattle.ldar_law.proofs.examples.texts.route_list.Goals as goal

pub returns : goal.returns
unfolding digits first_day month_of route_line
returns c = refl
