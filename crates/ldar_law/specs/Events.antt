-- The events of a component: its facts in key order, each judged on its own day (40 CFR 60.482-2a(b), 60.482-3a(f), 60.482-7a(b), 60.482-8a(b)).
use Rattle.std.specs.Prelude.{ℕ, Bool, true, false, not, ◌&&◌, ◌||◌, nat_lt, nat_le, if◌then◌else◌}
use Rattle.std.specs.Prelude.{Option, Some, None, option_map, List, [], ◌∷◌, drop, filter_map}
use Rattle.std.specs.List.{cons_option}
use Rattle.fact_kinds.specs.declared.body.FactBody.{FactBody}
use Rattle.fact_kinds.specs.declared.body.FactBody.TheVariants.{Unit as UnitFact, Component as ComponentFact, Class as ClassFact, Retire as RetireFact}
use Rattle.fact_kinds.specs.declared.body.FactBody.TheVariants.{Election, Shutdown, Calibration, Precision, Drift, Reading, Visual}
use Rattle.fact_kinds.specs.declared.body.FactBody.TheVariants.{Attempt as AttemptFact, Delay as DelayFact, Release as ReleaseFact, Indication}
use Rattle.fact_kinds.specs.declared.body.Purpose.{Purpose}
use Rattle.fact_kinds.specs.declared.body.Purpose.TheVariants.{Routine, FollowUp}
use Rattle.fact_kinds.specs.declared.body.Sort.{Sort}
use Rattle.fact_kinds.specs.declared.body.Sort.TheVariants.{Sensor as SensorSort, Evidence as EvidenceSort}
use Rattle.fact_kinds.specs.declared.body.VisualState.{VisualState}
use Rattle.fact_kinds.specs.declared.body.VisualState.TheVariants.{Dry, Drips, Designated}
use Rattle.fact_kinds.specs.declared.class.Class.{Class}
use Rattle.fact_kinds.specs.declared.key.Key.{Key}
use Rattle.fact_kinds.specs.Facts.{Entry}
use Rattle.ldar_law.specs.declared.equipment.Equipment.{Equipment}
use Rattle.ldar_law.specs.declared.event.Event.{Event}
use Rattle.ldar_law.specs.declared.event.Happening.{Happening}
use Rattle.ldar_law.specs.declared.event.Happening.TheVariants.{Read, Look, Attempt, Delay, Release, Sensor, Evidence, Retire}
use Rattle.ldar_law.specs.declared.fitness.Fitness.{Fitness}
use Rattle.ldar_law.specs.declared.fitness.Fitness.TheVariants.{NoCalibration}
use Rattle.ldar_law.specs.Fitness.{fitness_of, is_fit}
use Rattle.ldar_law.specs.Force.{is_in_service}
use Rattle.ldar_law.specs.Slices.{facts_of_component}
use Rattle.ldar_law.specs.Standing.{is_under_valve_rules, is_under_pump_rules, is_under_compressor_rules, is_under_heavy_liquid_rules, is_left_out, is_nde}

-- a routine reading
abbrev pub is_routine_purpose : Purpose → Bool
is_routine_purpose Routine = true
is_routine_purpose FollowUp = false

-- the visual inspection found drips
abbrev pub drips_in : VisualState → Bool
drips_in Dry = false
drips_in Drips = true
drips_in Designated = true

-- the visual inspection designates the drips as a leak
abbrev pub designated_in : VisualState → Bool
designated_in Designated = true
designated_in _ = false

-- a component with its classes in key order
module _ (item : Equipment) (classes : List (Key × Class)) where
  -- a reading of the day counts: it is fit, and the component is in service and not in an excluded service
  abbrev pub counts_on : ℕ → Bool → Bool
  counts_on day fit = is_in_service item day && not (is_left_out item classes day) && fit

  -- a pump's drips that are designated as a leak (40 CFR 60.482-2a(b)(2)(ii))
  abbrev pub is_drip_leak : ℕ → VisualState → Bool
  is_drip_leak day state =
      designated_in state && is_in_service item day && is_under_pump_rules item classes day && not (is_nde item classes day)

  -- a compressor's sensor indicates a failure (40 CFR 60.482-3a(f))
  abbrev pub is_sensor_leak : ℕ → Bool → Bool
  is_sensor_leak day present = present && is_in_service item day && is_under_compressor_rules item classes day && not (is_nde item classes day)

  -- an indication of the day, judged
  abbrev pub indication_on : ℕ → Sort → Bool → Happening
  indication_on day SensorSort present = Sensor present (is_sensor_leak day present)
  indication_on day EvidenceSort present = Evidence present

-- a component with its classes in key order, and the leak definition of each day in parts per million
module _ (item : Equipment) (classes : List (Key × Class)) (limit : ℕ → ℕ) where
  -- a counting reading of at least the leak definition is a leak (40 CFR 60.482-2a(b)(1), 60.482-7a(b), 60.482-8a(b))
  abbrev pub is_reading_leak : ℕ → Bool → ℕ → Bool
  is_reading_leak day fit ppm =
      counts_on item classes day fit && nat_le (limit day) ppm && not (is_nde item classes day)
      && (is_under_valve_rules item classes day || is_under_pump_rules item classes day || is_under_heavy_liquid_rules item classes day)

  -- a reading of the day, judged
  abbrev pub reading_on : ℕ → Bool → Purpose → ℕ → ℕ → Happening
  reading_on day fit purpose ppm background =
      Read ppm background (is_routine_purpose purpose) (counts_on item classes day fit)
      (counts_on item classes day fit && nat_lt ppm (limit day)) (is_reading_leak day fit ppm)

  -- a fact of the component on a day, judged; a reading by its fitness. An entry in the register is no event.
  abbrev pub happening : ℕ → Fitness → FactBody → Option Happening
  happening day fitness (Reading _ _ _ purpose ppm background) = Some (reading_on day (is_fit fitness) purpose ppm background)
  happening day fitness (Visual _ state) = Some (Look (drips_in state) (designated_in state) (is_drip_leak item classes day state))
  happening day fitness (AttemptFact _ complete) = Some (Attempt complete)
  happening day fitness (DelayFact _ why signer expected) = Some (Delay why signer expected)
  happening day fitness (ReleaseFact _) = Some Release
  happening day fitness (Indication _ sort present) = Some (indication_on item classes day sort present)
  happening day fitness (RetireFact _) = Some Retire
  happening day fitness (UnitFact _ _ _) = None
  happening day fitness (ComponentFact _ _ _ _ _ _) = None
  happening day fitness (ClassFact _ _) = None
  happening day fitness (Election _ _ _) = None
  happening day fitness (Shutdown _ _) = None
  happening day fitness (Calibration _ _) = None
  happening day fitness (Precision _ _ _) = None
  happening day fitness (Drift _ _ _) = None

  -- a fact with its key, judged
  abbrev pub event_of : Entry → Fitness → Option Event
  event_of e fitness = option_map (λ what. record { key = e.0; what = what }) (happening e.0.day fitness e.1.body)

-- a reading
abbrev pub is_reading : FactBody → Bool
is_reading (Reading _ _ _ _ _ _) = true
is_reading _ = false

-- the next fitness in a list with one for each reading
abbrev pub next_fitness : List Fitness → Fitness
next_fitness [] = NoCalibration
next_fitness (fitness ∷ rest) = fitness

-- the list of fitnesses after a fact, which takes one if it is a reading
abbrev pub fitness_left : FactBody → List Fitness → List Fitness
fitness_left body fitness = if is_reading body then drop 1 fitness else fitness

-- the events of a component: its facts in key order, each judged; each reading by its fitness in this list, in the same order
abbrev pub events_with : Equipment → List (Key × Class) → (ℕ → ℕ) → List Entry → List Fitness → List Event
events_with item classes limit [] fitness = []
events_with item classes limit (e ∷ facts) fitness =
    cons_option (event_of item classes limit e (next_fitness fitness)) (events_with item classes limit facts (fitness_left e.1.body fitness))

-- the fitness of a reading with this key, by facts in key order and the leak definition of each day
abbrev pub fitness_at : (ℕ → ℕ) → List Entry → Key → FactBody → Fitness
fitness_at limit facts key (Reading _ instrument _ _ ppm _) = fitness_of facts (limit key.day) key instrument ppm
fitness_at limit facts key _ = NoCalibration

-- the fitness of a fact of the component, if it is a reading
abbrev pub fitness_among : (ℕ → ℕ) → List Entry → Entry → Fitness
fitness_among limit facts e = fitness_at limit facts e.0 e.1.body

-- the fitness of a reading, or `None` for another fact
abbrev pub fitness_in : (ℕ → ℕ) → List Entry → Entry → Option Fitness
fitness_in limit facts e = if is_reading e.1.body then Some (fitness_among limit facts e) else None

-- the events of a component, from facts in key order
unfoldable pub events_in : Equipment → List (Key × Class) → (ℕ → ℕ) → List Entry → List Event
events_in item classes limit facts =
    filter_map (λ e. event_of item classes limit e (fitness_among limit facts e)) (facts_of_component item.component facts)
