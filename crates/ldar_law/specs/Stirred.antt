-- Stirred facts: those that a view of a process unit may have to read again since it was last shown.
use Rattle.std.specs.Prelude.{ℕ, ◌+◌, Bool, false, not, ◌&&◌, ◌||◌, nat_eq, nat_le, if◌then◌else◌}
use Rattle.std.specs.Prelude.{List, [], ◌∷◌, length, filter, filter_map, flat_map, sum_by}
use Rattle.std.specs.List.{list_any}
use Rattle.std.specs.Option.{option_map_or}
use Rattle.ldar_days.specs.Calendar.{later_by}
use Rattle.fact_kinds.specs.declared.body.FactBody.{FactBody}
use Rattle.fact_kinds.specs.declared.body.FactBody.TheVariants.{Calibration, Precision, Drift}
use Rattle.fact_kinds.specs.Facts.{Entry}
use Rattle.fact_kinds.specs.Named.{component_of, unit_of, reading_instrument, is_numbered}
use Rattle.ldar_law.specs.Equipment.{members_of}
use Rattle.ldar_law.specs.Slices.{facts_of_component, facts_of_instrument, facts_of_unit}

-- a fact of the day `tested` matters to the readings of a day with an instrument: it is a calibration or a drift assessment of that
-- instrument on that day, or a precision test of it on that day or at most three months before (40 CFR 60.485a(b); EPA Method 21, section
-- 8.1.2)
abbrev pub is_of_matter : ℕ → ℕ → ℕ → FactBody → Bool
is_of_matter instrument day tested (Calibration of gas) = nat_eq of instrument && nat_eq tested day
is_of_matter instrument day tested (Drift of value readings) = nat_eq of instrument && nat_eq tested day
is_of_matter instrument day tested (Precision of value readings) = nat_eq of instrument && nat_le tested day && nat_le day (later_by 3 tested)
is_of_matter instrument day tested _ = false

-- a fact with its key matters to the readings of a day with an instrument
abbrev pub matters : ℕ → ℕ → Entry → Bool
matters instrument day e = is_of_matter instrument day e.0.day e.1.body

-- the fact matters to this other fact, if that is a reading
abbrev pub matters_to : Entry → Entry → Bool
matters_to reading e = option_map_or (λ instrument. matters instrument reading.0.day e) (reading_instrument reading.1.body) false

-- the numbers of a list, each once
abbrev pub each_once : List ℕ → List ℕ
each_once [] = []
each_once (number ∷ numbers) = number ∷ filter (λ other. not (nat_eq other number)) (each_once numbers)

-- all adopted facts, and those of them that were adopted since the unit was last shown
module _ (facts news : List Entry) where
  -- the fact names the component, or it matters to a reading of it
  abbrev pub touches : ℕ → Entry → Bool
  touches number e = is_numbered (component_of e.1.body) number || list_any (λ r. matters_to r e) (facts_of_component number facts)

  -- some new fact touches the component
  abbrev pub is_touched : ℕ → Bool
  is_touched number = list_any (touches number) news

  -- the components of the process unit that are touched
  abbrev pub touched : ℕ → List ℕ
  touched unit = filter is_touched (members_of unit facts)

  -- the instruments used for readings of these components, each once
  abbrev pub instruments_read : List ℕ → List ℕ
  instruments_read numbers = each_once (flat_map (λ number. filter_map (λ e. reading_instrument e.1.body) (facts_of_component number facts)) numbers)

  -- some new fact names the process unit
  abbrev pub is_unit_named : ℕ → Bool
  is_unit_named unit = list_any (λ e. is_numbered (unit_of e.1.body) unit) news

  -- the number of stirred facts: for each touched component, the facts that name it; for each instrument used for a reading of a touched
  -- component, its calibrations, precision tests and drift assessments; and, if a new fact names the unit, the facts that name the unit. A
  -- fact in two of these lists counts twice.
  unfoldable pub stirred : ℕ → ℕ
  stirred unit =
      sum_by (λ number. length (facts_of_component number facts)) (touched unit)
      + sum_by (λ instrument. length (facts_of_instrument instrument facts)) (instruments_read (touched unit))
      + (if is_unit_named unit then length (facts_of_unit unit facts) else 0)
