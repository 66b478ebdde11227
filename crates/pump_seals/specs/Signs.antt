-- Signs: the kinds of events that decide on a pump's seal leaks and duties, and the marks that the rows of a file make.
use Rattle.std.specs.Prelude.{ℕ, Bool, true, false, not, ◌&&◌, ◌||◌, nat_lt, nat_le, nat_eq, if◌then◌else◌, Option, Some, None, List, filter_map}
use Rattle.ldar_law.specs.declared.event.Event.{Event}
use Rattle.ldar_law.specs.declared.event.Happening.{Happening}
use Rattle.ldar_law.specs.declared.event.Happening.TheVariants.{Read}
use Rattle.ldar_law.specs.Happenings.{is_leak, is_look, is_dry, is_attempt, has_drips, is_counting}
use Rattle.pump_seals.specs.declared.moment.Moment.{Moment}
use Rattle.pump_seals.specs.declared.numbers.TheConstants.{SEAL_LIMIT}
use Rattle.pump_seals.specs.declared.row.Mark.{Mark}
use Rattle.pump_seals.specs.declared.row.SealRow.{SealRow}
use Rattle.pump_seals.specs.declared.row.SealWhat.{SealWhat}
use Rattle.pump_seals.specs.declared.row.SealWhat.TheVariants.{On, Off, Present, Gone}
use Rattle.pump_seals.specs.declared.sign.Sign.{Sign}
use Rattle.pump_seals.specs.declared.sign.Sign.TheVariants.{HighReading, LowReading, DripLeak, SmallDrips, DryLook, Attempt, AnyLook, Answer}

-- ---- events

-- a counting reading of 2,000 ppm or more
abbrev pub is_high : Happening → Bool
is_high (Read ppm _ _ counts _ _) = counts && nat_le SEAL_LIMIT ppm
is_high _ = false

-- a counting reading below 2,000 ppm
abbrev pub is_low : Happening → Bool
is_low (Read ppm _ _ counts _ _) = counts && nat_lt ppm SEAL_LIMIT
is_low _ = false

-- a visual inspection that is a leak
abbrev pub is_drip_leak : Happening → Bool
is_drip_leak what = is_look what && is_leak what

-- the event is of this kind
abbrev pub is_sign : Sign → Happening → Bool
is_sign HighReading what = is_high what
is_sign LowReading what = is_low what
is_sign DripLeak what = is_drip_leak what
is_sign SmallDrips what = has_drips what && not (is_leak what)
is_sign DryLook what = is_dry what
is_sign Attempt what = is_attempt what
is_sign AnyLook what = is_look what
is_sign Answer what = is_counting what || is_drip_leak what

-- the moment of an event
abbrev pub moment_of : Event → Moment
moment_of e = record { day = e.key.day; minute = e.key.minute }

-- the moment of an event, if the event is of this kind
abbrev pub moment_if : Sign → Event → Option Moment
moment_if sign e = if is_sign sign e.what then Some (moment_of e) else None

-- the moments of the events of this kind, in order
abbrev pub moments_of : Sign → List Event → List Moment
moments_of sign events = filter_map (moment_if sign) events

-- ---- rows

-- the row seals a pump or unseals it
abbrev pub is_seal : SealWhat → Bool
is_seal On = true
is_seal Off = true
is_seal Present = false
is_seal Gone = false

abbrev pub is_on : SealWhat → Bool
is_on On = true
is_on Off = false
is_on Present = false
is_on Gone = false

-- the sensor indicates a failure, or the end of one
abbrev pub is_present : SealWhat → Bool
is_present On = false
is_present Off = false
is_present Present = true
is_present Gone = false

abbrev pub is_gone : SealWhat → Bool
is_gone On = false
is_gone Off = false
is_gone Present = false
is_gone Gone = true

-- the mark of a row: what it reports and when, without the component and the number of its record
abbrev pub mark_of : SealRow → Mark
mark_of row = record { what = row.what; at = record { day = row.day; minute = row.minute } }

-- the mark of a row, if the row is of the component and of a day up to `day`
abbrev pub mark_if : ℕ → ℕ → SealRow → Option Mark
mark_if component day row = if nat_eq row.component component && nat_le row.day day then Some (mark_of row) else None

-- the marks of a component up to a day, from the rows of a file
unfoldable pub marks_of : ℕ → ℕ → List SealRow → List Mark
marks_of component day rows = filter_map (mark_if component day) rows

-- the mark, if it seals the pump or unseals it
abbrev pub switch_if : Mark → Option Mark
switch_if m = if is_seal m.what then Some m else None

-- the marks that seal the pump or unseal it
abbrev pub switches_of : List Mark → List Mark
switches_of marks = filter_map switch_if marks

-- the moment at which a sensor indicates a failure, or the end of one
abbrev pub present_if : Mark → Option Moment
present_if m = if is_present m.what then Some m.at else None

abbrev pub gone_if : Mark → Option Moment
gone_if m = if is_gone m.what then Some m.at else None
