-- The due day of a leak's repair, and how a delay of repair changes it (40 CFR 60.482-9a).
use Rattle.std.specs.Prelude.{◌≡◌, ◌<◌, slice_get, take, ℕ, ◌+◌, Bool, true, false, ◌&&◌, nat_eq, nat_lt, nat_le, max}
use Rattle.std.specs.Prelude.{Option, Some, None, option_map, if◌then◌else◌, List, [], ◌∷◌, length, reverse, filter}
use Rattle.std.specs.List.{list_any}
use Rattle.ldar_days.specs.Calendar.{end_by, later_by}
use Rattle.fact_kinds.specs.declared.key.Key.{Key}
use Rattle.ldar_law.specs.declared.delay.DelayEntry.{DelayEntry}
use Rattle.ldar_law.specs.declared.delay.Stop.{Stop}
use Rattle.ldar_law.specs.declared.delay.Until.{Until}
use Rattle.ldar_law.specs.declared.delay.Until.TheVariants.{Date, Shutdown, WhileIsolated, NoDate}
use Rattle.ldar_law.specs.declared.grounds.TheConstants.{GROUND_WITHDRAWN, GROUND_SHUTDOWN, GROUND_ISOLATED, GROUND_PURGING, GROUND_DUAL_SEAL}
use Rattle.ldar_law.specs.declared.numbers.TheConstants.{ATTEMPT_DAYS, REPAIR_DAYS, VERIFICATION_DAYS}

-- a delay of repair, as it was entered
abbrev pub delay_entered : (key : Key) (ground : ℕ) (signer : ℕ) (expected : Option ℕ) → DelayEntry
delay_entered key why signer expected = record { key = key; «ground» = why; signer = signer; expected = expected }

-- 40 CFR 60.482-7a(d)(1): fifteen days after the detection
abbrev pub repair_by : ℕ → ℕ
repair_by detected = end_by (detected + REPAIR_DAYS)

-- 40 CFR 60.482-7a(d)(2): five days after the detection
abbrev pub attempt_by : ℕ → ℕ
attempt_by detected = end_by (detected + ATTEMPT_DAYS)

-- the day is past the due day; a due day that is no date never passes
abbrev pub is_past : ℕ → Until → Bool
is_past day (Date due) = nat_lt due day
is_past day _ = false

-- an attempt was made on a day of the shutdown
abbrev pub has_attempt_in : List ℕ → Stop → Bool
has_attempt_in attempts stop = list_any (λ day. nat_le stop.first day && nat_le day stop.last) attempts

-- the end of a shutdown: its last day, or fifteen days after the startup on the next day if an attempt was made in it (our own rule)
abbrev pub end_of : List ℕ → Stop → ℕ
end_of attempts stop = if has_attempt_in attempts stop then end_by (stop.last + VERIFICATION_DAYS) else stop.last

-- the shutdowns that begin after the detection, in order
abbrev pub stops_after : ℕ → List Stop → List Stop
stops_after detected stops = filter (λ stop. nat_lt detected stop.first) stops

-- the end of the first of these shutdowns, if there is one
abbrev pub end_of_first : List ℕ → List Stop → Until
end_of_first attempts [] = Shutdown
end_of_first attempts (first ∷ later) = Date (end_of attempts first)

-- 40 CFR 60.482-9a(e): the end of the second of these shutdowns, or of the third if the second begins less than six months after the first
-- began
abbrev pub end_of_second : List ℕ → List Stop → Until
end_of_second attempts [] = Shutdown
end_of_second attempts (first ∷ []) = Shutdown
end_of_second attempts (first ∷ second ∷ later) =
    if nat_lt second.first (later_by 6 first.first) then end_of_first attempts later else Date (end_of attempts second)

-- one detection, and the attempts and shutdowns entered so far
module _ (detected : ℕ) (attempts : List ℕ) (stops : List Stop) where
  -- the due day set by a delay of this ground that was entered on this day
  abbrev pub due_by : ℕ → ℕ → Until
  due_by why day =
      -- withdrawn: as without a delay, but not before the day of withdrawal (our own rule)
      if nat_eq why GROUND_WITHDRAWN then Date (max (repair_by detected) day)
      -- 40 CFR 60.482-9a(a): infeasible without a shutdown
      else if nat_eq why GROUND_SHUTDOWN then end_of_first attempts (stops_after detected stops)
      -- 40 CFR 60.482-9a(b): isolated, and not in VOC service
      else if nat_eq why GROUND_ISOLATED then WhileIsolated
      -- 40 CFR 60.482-9a(c): purging emits more than the leak
      else if nat_eq why GROUND_PURGING then NoDate
      -- 40 CFR 60.482-9a(d): a dual mechanical seal is needed
      else if nat_eq why GROUND_DUAL_SEAL then Date (later_by 6 detected)
      -- 40 CFR 60.482-9a(e): the stock of valve assemblies is depleted
      else end_of_second attempts (stops_after detected stops)

  -- the due day set by the last delay that is not ignored; if all are ignored, the fifteenth day
  abbrev pub due_given : Option DelayEntry → Until
  due_given None = Date (repair_by detected)
  due_given (Some delay) = due_by delay.«ground» delay.key.day

  -- the last delay that is not ignored, with its place from 0; the delays are given latest first. A delay is ignored if its day is past the
  -- due day set by those before it (our own rule).
  abbrev pub last_counted : List DelayEntry → Option (ℕ × DelayEntry)
  last_counted [] = None
  last_counted (latest ∷ earlier) =
      if is_past latest.key.day (due_given (option_map (λ c. c.1) (last_counted earlier)))
      then last_counted earlier
      else Some (length earlier, latest)

  -- the last delay that is not ignored, of delays in key order
  abbrev pub counted_delay : List DelayEntry → Option DelayEntry
  counted_delay delays = option_map (λ c. c.1) (last_counted (reverse delays))

  -- the place of that delay, from 0
  abbrev pub counted_place : List DelayEntry → Option ℕ
  counted_place delays = option_map (λ c. c.0) (last_counted (reverse delays))

  -- 40 CFR 60.482-9a: the due day of the repair
  abbrev pub repair_due : List DelayEntry → Until
  repair_due delays = due_given (counted_delay delays)

-- the delay is ignored: its day is past the due day set by the delays before it (our own rule)
abbrev pub is_ignored : ℕ → List ℕ → List Stop → List DelayEntry → DelayEntry → Bool
is_ignored detected attempts stops before delay = is_past delay.key.day (repair_due detected attempts stops before)

-- each of these delays, in key order, is ignored
abbrev pub AreIgnored : ℕ → List ℕ → List Stop → List DelayEntry → Type 0
AreIgnored detected attempts stops delays =
    (place : ℕ) (delay : DelayEntry) → slice_get delays place ≡ Some delay → is_ignored detected attempts stops (take place delays) delay ≡ true

-- the delay at this place is not ignored, and each one after it is ignored
pub record IsLastCounted (detected : ℕ) (attempts : List ℕ) (stops : List Stop) (delays : List DelayEntry) (place : ℕ) : Type 0 where
  pub delay : DelayEntry
  pub stands : slice_get delays place ≡ Some delay
  pub counts : is_ignored detected attempts stops (take place delays) delay ≡ false
  pub later : (after : ℕ) (other : DelayEntry) → place < after → slice_get delays after ≡ Some other
      → is_ignored detected attempts stops (take after delays) other ≡ true
