-- Tests of a component's event, one for each property that the rule asks about.
use Rattle.std.specs.Prelude.{ℕ, ◌-◌, Bool, true, false, not, ◌&&◌, ◌||◌, nat_eq, nat_lt, nat_le}
use Rattle.ldar_days.specs.Calendar.{month_of}
use Rattle.ldar_law.specs.declared.event.Event.{Event}
use Rattle.ldar_law.specs.declared.event.Happening.{Happening}
use Rattle.ldar_law.specs.declared.grounds.TheConstants.{GROUND_SHUTDOWN, GROUND_PURGING, GROUND_DUAL_SEAL, GROUND_STOCK}
use Rattle.ldar_law.specs.declared.event.Happening.TheVariants.{Read, Look, Attempt, Delay, Release, Sensor, Evidence, Retire}

-- ---- leaks

-- a leak of any kind
abbrev pub is_leak : Happening → Bool
is_leak (Read _ _ _ _ _ leak) = leak
is_leak (Look _ _ leak) = leak
is_leak (Sensor _ leak) = leak
is_leak _ = false

-- a reading or a drip
abbrev pub is_reading_or_drip : Happening → Bool
is_reading_or_drip (Read _ _ _ _ _ _) = true
is_reading_or_drip (Look _ _ _) = true
is_reading_or_drip _ = false

-- a visual inspection, whatever it found
abbrev pub is_look : Happening → Bool
is_look (Look _ _ _) = true
is_look _ = false

-- a sensor's indication
abbrev pub is_sensor : Happening → Bool
is_sensor (Sensor _ _) = true
is_sensor _ = false

-- ---- readings

-- a reading that counts
abbrev pub is_counting : Happening → Bool
is_counting (Read _ _ _ counts _ _) = counts
is_counting _ = false

-- a counting reading below the leak definition
abbrev pub is_below : Happening → Bool
is_below (Read _ _ _ _ below _) = below
is_below _ = false

-- a counting routine reading
abbrev pub is_routine : Happening → Bool
is_routine (Read _ _ routine counts _ _) = routine && counts
is_routine _ = false

-- a counting routine reading below the leak definition
abbrev pub is_routine_below : Happening → Bool
is_routine_below (Read _ _ routine _ below _) = routine && below
is_routine_below _ = false

-- a counting routine reading that is a leak
abbrev pub is_routine_leak : Happening → Bool
is_routine_leak (Read _ _ routine counts _ leak) = routine && counts && leak
is_routine_leak _ = false

-- a counting reading that is less than 500 above the background; below the background it is 0 above it (our own rule)
abbrev pub is_near_background : Happening → Bool
is_near_background (Read ppm background _ counts _ _) = counts && nat_lt (ppm - background) 500
is_near_background _ = false

-- ---- visual inspections, indications, attempts

-- a dry visual inspection
abbrev pub is_dry : Happening → Bool
is_dry (Look drips _ _) = not drips
is_dry _ = false

-- a visual inspection that found drips, whether designated as a leak or not
abbrev pub has_drips : Happening → Bool
has_drips (Look drips _ _) = drips
has_drips _ = false

-- drips designated as a leak
abbrev pub is_designating : Happening → Bool
is_designating (Look _ designated _) = designated
is_designating _ = false

-- drips not designated as a leak
abbrev pub has_undesignated_drips : Happening → Bool
has_undesignated_drips (Look drips designated _) = drips && not designated
has_undesignated_drips _ = false

-- a pressure release
abbrev pub is_release : Happening → Bool
is_release Release = true
is_release _ = false

-- evidence of a potential leak is present
abbrev pub has_evidence : Happening → Bool
has_evidence (Evidence present) = present
has_evidence _ = false

-- evidence of a potential leak is gone
abbrev pub is_evidence_gone : Happening → Bool
is_evidence_gone (Evidence present) = not present
is_evidence_gone _ = false

-- an attempt at a repair
abbrev pub is_attempt : Happening → Bool
is_attempt (Attempt _) = true
is_attempt _ = false

-- an attempt that is marked complete
abbrev pub is_complete : Happening → Bool
is_complete (Attempt complete) = complete
is_complete _ = false

-- a delay of ground (a), (c), (d) or (e)
abbrev pub delays_with_reading : Happening → Bool
delays_with_reading (Delay why _ _) = nat_eq why GROUND_SHUTDOWN || nat_eq why GROUND_PURGING || nat_eq why GROUND_DUAL_SEAL || nat_eq why GROUND_STOCK
delays_with_reading _ = false

-- the component goes out of service
abbrev pub is_retire : Happening → Bool
is_retire Retire = true
is_retire _ = false

-- ---- when

-- the event is on one of these days
abbrev pub is_from_to : ℕ → ℕ → Event → Bool
is_from_to first last e = nat_le first e.key.day && nat_le e.key.day last

-- the event is in the month
abbrev pub is_in_month : ℕ → Event → Bool
is_in_month month e = nat_eq (month_of e.key.day) month
