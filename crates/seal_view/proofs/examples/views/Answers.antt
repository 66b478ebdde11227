use Rattle.std.proofs.Common.{refl}
use Rattle.std.specs.Fmt.{digits}
use Rattle.list_words.specs.Ranges.{until}
use Rattle.ldar_days.specs.Calendar.{first_day, month_of, month_length}
use Rattle.ldar_law.specs.Events.{events_in}
use Rattle.pump_seals.specs.Moments.{is_before}
use Rattle.pump_seals.specs.Repairs.{opens_tag, closing_of}
use Rattle.pump_seals.specs.Seals.{is_sealed, tags_of_sort, seal_tags, seal_duties}
use Rattle.pump_seals.specs.Signs.{marks_of}
use Rattle.seal_texts.specs.SealTexts.{duty_line, tag_line_by}
use Rattle.seal_view.proofs.examples.views.Goals as goal

pub returns-clause-nothing : goal.returns-clause-nothing
unfolding digits until first_day month_of month_length events_in is_before opens_tag closing_of is_sealed tags_of_sort seal_tags seal_duties marks_of duty_line tag_line_by
returns-clause-nothing c = refl

pub returns-clause-later : goal.returns-clause-later
unfolding digits until first_day month_of month_length events_in is_before opens_tag closing_of is_sealed tags_of_sort seal_tags seal_duties marks_of duty_line tag_line_by
returns-clause-later c = refl

pub returns-clause-two : goal.returns-clause-two
unfolding digits until first_day month_of month_length events_in is_before opens_tag closing_of is_sealed tags_of_sort seal_tags seal_duties marks_of duty_line tag_line_by
returns-clause-two c = refl
