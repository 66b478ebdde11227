use Rattle.std.proofs.Common.{refl}
use Rattle.std.specs.Fmt.{digits}
use Rattle.ldar_days.specs.Calendar.{first_day, month_of, month_length}
use Rattle.ldar_days.specs.Quarters.{first_quarter, last_whole}
use Rattle.list_words.specs.Ranges.{until}
use Rattle.ldar_law.specs.Duties.{first_monitoring, monthly, quarterly, yearly, planned, weekly, drip, release, evidence, duties_of}
use Rattle.ldar_law.specs.Events.{events_in}
use Rattle.ldar_law.specs.Months.{has_leak_in, is_clean, is_clean_twice_from, is_quarterly}
use Rattle.ldar_law.specs.Percent.{mark_of}
use Rattle.ldar_law.specs.Reports.{month_cells, delay_of}
use Rattle.ldar_law.specs.Routes.{routes_of}
use Rattle.ldar_law.specs.Shown.{shown}
use Rattle.ldar_law.specs.Skips.{good_streak, skips_run, quarters, is_skipped}
use Rattle.ldar_law.specs.Spans.{spans_of}
use Rattle.ldar_law.specs.Tags.{tag_of}
use Rattle.ldar_law.specs.Texts.{due_line, tag_line, delayed_line, route_line, month_line, delay_line, stop_line}
use Rattle.ldar_law.proofs.examples.views.delay_until_a_shutdown.Goals as goal

pub returns-clause-unknown : goal.returns-clause-unknown
unfolding digits first_day month_of month_length first_quarter last_whole until first_monitoring monthly quarterly yearly planned weekly drip release evidence
    duties_of events_in has_leak_in is_clean is_clean_twice_from is_quarterly mark_of month_cells delay_of routes_of shown good_streak skips_run quarters
    is_skipped spans_of tag_of due_line tag_line delayed_line route_line month_line delay_line stop_line
returns-clause-unknown c = refl

pub returns-clause-known : goal.returns-clause-known
unfolding digits first_day month_of month_length first_quarter last_whole until first_monitoring monthly quarterly yearly planned weekly drip release evidence
    duties_of events_in has_leak_in is_clean is_clean_twice_from is_quarterly mark_of month_cells delay_of routes_of shown good_streak skips_run quarters
    is_skipped spans_of tag_of due_line tag_line delayed_line route_line month_line delay_line stop_line
returns-clause-known c = refl

pub returns-clause-attempted : goal.returns-clause-attempted
unfolding digits first_day month_of month_length first_quarter last_whole until first_monitoring monthly quarterly yearly planned weekly drip release evidence
    duties_of events_in has_leak_in is_clean is_clean_twice_from is_quarterly mark_of month_cells delay_of routes_of shown good_streak skips_run quarters
    is_skipped spans_of tag_of due_line tag_line delayed_line route_line month_line delay_line stop_line
returns-clause-attempted c = refl

pub returns-clause-too_late : goal.returns-clause-too_late
unfolding digits first_day month_of month_length first_quarter last_whole until first_monitoring monthly quarterly yearly planned weekly drip release evidence
    duties_of events_in has_leak_in is_clean is_clean_twice_from is_quarterly mark_of month_cells delay_of routes_of shown good_streak skips_run quarters
    is_skipped spans_of tag_of due_line tag_line delayed_line route_line month_line delay_line stop_line
returns-clause-too_late c = refl
