-- The next calibration after a reading, and the fitness and the events from a part of the facts.
use Rattle.std.specs.Prelude.{◌≡◌, ℕ, ◌<◌, Bool, true, false, not, ◌&&◌, nat_eq, nat_lt, if◌then◌else◌, Option, Some, None, List, length, get_or, filter_map}
use Rattle.std.specs.List.{AllWithin}
use Rattle.fact_kinds.specs.declared.body.FactBody.{FactBody}
use Rattle.fact_kinds.specs.declared.body.FactBody.TheVariants.{Reading}
use Rattle.fact_kinds.specs.declared.body.VisualState.{VisualState}
use Rattle.fact_kinds.specs.declared.class.Class.{Class}
use Rattle.fact_kinds.specs.declared.key.Key.{Key}
use Rattle.fact_kinds.specs.Facts.{Entry, is_earlier}
use Rattle.fact_kinds.specs.Named.{reading_instrument}
use Rattle.ldar_law.specs.declared.equipment.Equipment.{Equipment}
use Rattle.ldar_law.specs.declared.event.Event.{Event}
use Rattle.ldar_law.specs.declared.event.Happening.{Happening}
use Rattle.ldar_law.specs.declared.event.Happening.TheVariants.{Look}
use Rattle.ldar_law.specs.declared.fitness.Fitness.{Fitness}
use Rattle.ldar_law.specs.declared.fitness.Fitness.TheVariants.{NoCalibration}
use Rattle.ldar_law.specs.Events.{drips_in, designated_in, is_drip_leak, events_in, fitness_in}
use Rattle.ldar_law.specs.Fitness.{fitness_of, is_calibration, is_drift_past}
use Rattle.ldar_law.specs.Slices.{facts_of_component, facts_of_instrument}

-- the fitness of a reading with this key by a leak definition and facts in key order; `NoCalibration` if the fact is no reading
abbrev pub fitness_by : ℕ → List Entry → Key → FactBody → Fitness
fitness_by limit facts key (Reading _ instrument _ _ ppm _) = fitness_of facts limit key instrument ppm
fitness_by limit facts key _ = NoCalibration

-- if the facts are those of the reading's instrument among all facts, the fitness is the one from all facts
abbrev pub IsFitnessAmongAll : ℕ → List Entry → Key → FactBody → Fitness → Type 0
IsFitnessAmongAll limit facts key body fitness =
    (all : List Entry) (instrument : ℕ)
    → reading_instrument body ≡ Some instrument
    → facts ≡ facts_of_instrument instrument all
    → fitness ≡ fitness_by limit all key body

-- the key exists and is earlier than another one
abbrev pub is_before : Option Key → Key → Bool
is_before None later = false
is_before (Some key) later = is_earlier key later

-- the earlier of an optional key and another key
abbrev pub earlier_of : Option Key → Key → Option Key
earlier_of None key = Some key
earlier_of (Some nearest) key = if is_earlier key nearest then Some key else Some nearest

-- the next calibration after a reading, with one more fact
abbrev pub nearer : Key → ℕ → Option Key → Entry → Option Key
nearer key instrument next e =
    if is_calibration instrument e.1.body && is_earlier key e.0 then earlier_of next e.0 else next

-- the fact voids the reading, if this is the next calibration after the reading
abbrev pub is_voided_until : Option Key → Key → ℕ → ℕ → ℕ → Entry → Bool
is_voided_until next key instrument limit ppm e =
    nat_lt ppm limit && is_drift_past instrument limit ppm e.1.body && nat_eq e.0.day key.day && is_earlier key e.0
    && not (is_before next e.0)

-- the fact is after the reading, and by it such a reading may be a leak
abbrev pub is_past_after : Key → ℕ → ℕ → ℕ → Entry → Bool
is_past_after key instrument limit ppm e = is_drift_past instrument limit ppm e.1.body && is_earlier key e.0

-- the key of the first fact after the reading by which such a reading may be a leak
pub record IsFirstPast (facts : List Entry) (key : Key) (instrument limit ppm : ℕ) (drift : Key) : Type 0 where
  pub place : ℕ
  pub within : place < length facts
  pub stands : (d : Entry) → (get_or facts place d).0 ≡ drift
  pub passes : (d : Entry) → is_past_after key instrument limit ppm (get_or facts place d) ≡ true
  pub none_before : AllWithin (λ e. is_past_after key instrument limit ppm e ≡ false) facts 0 place

-- if the facts are those of the component among all facts, and each fitness is that of a reading from all facts, the events are those of
-- the component from all facts
abbrev pub AreEventsAmongAll : Equipment → List (Key × Class) → (ℕ → ℕ) → List Entry → List Fitness → List Event → Type 0
AreEventsAmongAll item classes limit facts fitness events =
    (all : List Entry)
    → facts ≡ facts_of_component item.component all
    → fitness ≡ filter_map (fitness_in limit all) facts
    → events ≡ events_in item classes limit all

-- a visual inspection of the day, judged
abbrev pub look_on : Equipment → List (Key × Class) → ℕ → VisualState → Happening
look_on item classes day state = Look (drips_in state) (designated_in state) (is_drip_leak item classes day state)
