-- The batches of a drill, in the order in which they are sent.
use Rattle.std.specs.Prelude.{ℕ, zero, suc, ◌+◌, ◌-◌, ◌*◌, ◌%◌, false, List, [], ◌∷◌, ◌++◌, codes, reverse, take}
use Rattle.list_words.specs.Parts.{cut}
use Rattle.ldar_days.specs.Calendar.{later_by}
use Rattle.fact_kinds.specs.declared.batch.Batch.{Batch}
use Rattle.fact_kinds.specs.declared.body.FactBody.TheVariants.{Unit as UnitFact, Component as ComponentFact, Calibration, Precision, Reading}
use Rattle.fact_kinds.specs.declared.body.Purpose.TheVariants.{Routine}
use Rattle.fact_kinds.specs.declared.class.Class.{Class}
use Rattle.fact_kinds.specs.declared.class.Designation.TheVariants.{Plain}
use Rattle.fact_kinds.specs.declared.class.Kind.TheVariants.{Valve}
use Rattle.fact_kinds.specs.declared.class.Service.TheVariants.{Gas}
use Rattle.fact_kinds.specs.declared.limits.TheConstants.{BATCH_FACTS}
use Rattle.fact_kinds.specs.Stated.{Stated}
use Rattle.drill_history.specs.declared.numbers.TheConstants.{STARTUP, BEGIN, FIRST_READINGS, MONTHS}

-- ---- the register

-- the process unit
abbrev pub unit_fact : Stated
unit_fact = record { day = STARTUP; minute = 0; body = UnitFact 1 false (codes "DRILL") }

-- the class of the valves
abbrev pub valve_class : Class
valve_class = record { service = Gas; designation = Plain; plan = 0; month = 1 }

-- a valve
abbrev pub valve_fact : ℕ → Stated
valve_fact number = record { day = BEGIN; minute = 0; body = ComponentFact number 1 Valve false false valve_class }

-- this number of valves, from number 1 on
abbrev pub valves : ℕ → List Stated
valves zero = []
valves (suc count) = valves count ++ valve_fact (suc count) ∷ []

-- the unit and its valves
abbrev pub register_facts_of : ℕ → List Stated
register_facts_of size = unit_fact ∷ valves size

-- ---- a month, from 1 (March 2020) to 12 (February 2021)

-- the 10th of the month
abbrev pub day_in : ℕ → ℕ
day_in month = later_by (month - 1) FIRST_READINGS

-- the precision test
abbrev pub precision_in : ℕ → Stated
precision_in month = record { day = day_in month; minute = 1; body = Precision 1 500 (500, 500, 500) }

-- the calibration
abbrev pub calibration_in : ℕ → Stated
calibration_in month = record { day = day_in month; minute = 2; body = Calibration 1 500 }

-- what is read at a valve, in parts per million
abbrev pub ppm_of : ℕ → ℕ → ℕ → ℕ
ppm_of seed month valve = (31 * seed + 17 * valve + 29 * month) % 520

-- the reading at a valve
abbrev pub reading_of : ℕ → ℕ → ℕ → Stated
reading_of seed month valve =
    record { day = day_in month; minute = 60; body = Reading valve 1 1 Routine (ppm_of seed month valve) 0 }

-- the readings at this number of valves, from number 1 on
abbrev pub readings : ℕ → ℕ → ℕ → List Stated
readings seed month zero = []
readings seed month (suc count) = readings seed month count ++ reading_of seed month (suc count) ∷ []

-- the facts of a month
abbrev pub month_facts : ℕ → ℕ → ℕ → List Stated
month_facts seed size month = precision_in month ∷ calibration_in month ∷ readings seed month size

-- the facts of the first months, each month in parts of at most 512
unfoldable pub month_parts : ℕ → ℕ → ℕ → List (List Stated)
month_parts seed size zero = []
month_parts seed size (suc month) = month_parts seed size month ++ cut BATCH_FACTS (month_facts seed size (suc month))

-- ---- batches

-- one batch of the handheld for each part, numbered from this number on
abbrev pub numbered : ℕ → ℕ → List (List Stated) → List Batch
numbered handheld number [] = []
numbered handheld number (part ∷ parts) =
    record { handheld = handheld; number = number; facts = part } ∷ numbered handheld (number + 1) parts

-- the batches of the register, of the office's own handheld
unfoldable pub register_batches : ℕ → List Batch
register_batches size = numbered 0 1 (cut BATCH_FACTS (register_facts_of size))

-- the batches of all months, of handheld 1
unfoldable pub month_batches : ℕ → ℕ → List Batch
month_batches seed size = numbered 1 1 (month_parts seed size MONTHS)

-- the register, then the months from the last batch to the first
unfoldable pub drill_history : ℕ → ℕ → List Batch
drill_history seed size = register_batches size ++ reverse (month_batches seed size)

-- the batches that are sent: the history, and once more its last batch, which is the first one of the months
unfoldable pub drill_sent : ℕ → ℕ → List Batch
drill_sent seed size = drill_history seed size ++ take 1 (month_batches seed size)
