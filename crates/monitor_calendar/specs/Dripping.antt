-- A summary of past events about drips.
use Rattle.std.specs.Prelude.{◌≡◌, Bool, not, ◌&&◌, List}
use Rattle.std.specs.List.{list_any}
use Rattle.list_words.specs.Words.{somewhere}
use Rattle.ldar_law.specs.declared.event.Event.{Event}
use Rattle.ldar_law.specs.Duties.{is_repeated}
use Rattle.ldar_law.specs.Happenings.{has_drips, is_dry}
use Rattle.monitor_calendar.specs.declared.drips.PastDrips.{PastDrips}

-- there were drips, and no dry visual inspection since
abbrev pub drips_wait : List Event → Bool
drips_wait events = somewhere (λ _ drips since. has_drips drips.what && not (list_any (λ e. is_dry e.what) since)) events

-- the summary of the drips among some events
pub record TellsOfDrips (past : PastDrips) (events : List Event) : Type 0 where
  pub wait : past.wait ≡ drips_wait events
  pub repeat : past.repeat ≡ is_repeated events
