-- Values for the worked examples: a pump, its events, and the contents of rows.
use Rattle.std.specs.Prelude.{ℕ, Bool, true, false, Option, Some, None, List, [], ◌∷◌}
use Rattle.fact_kinds.specs.declared.class.Designation.TheVariants.{Plain}
use Rattle.fact_kinds.specs.declared.class.Kind.TheVariants.{Pump as PumpKind}
use Rattle.fact_kinds.specs.declared.class.Service.TheVariants.{Light}
use Rattle.fact_kinds.specs.declared.key.Key.{Key}
use Rattle.ldar_law.specs.declared.equipment.Equipment.{Equipment}
use Rattle.ldar_law.specs.declared.event.Event.{Event}
use Rattle.ldar_law.specs.declared.event.Happening.{Happening}
use Rattle.ldar_law.specs.declared.event.Happening.TheVariants.{Read, Look, Attempt}
use Rattle.pump_seals.specs.declared.row.Mark.{Mark}
use Rattle.pump_seals.specs.declared.row.SealWhat.{SealWhat}
use Rattle.pump_seals.specs.declared.row.SealWhat.TheVariants.{On, Off, Present, Gone}
use Rattle.pump_seals.specs.declared.seals.SealDuty.{SealDuty}
use Rattle.pump_seals.specs.declared.seals.SealTag.{SealTag}

-- pump 5 in light liquid service from 2020-01-15 on; it may be retired on a day
abbrev pub pump_until : Option ℕ → Equipment
pump_until retired = record {
  component = 5;
  unit = 1;
  kind = PumpKind;
  monomer = false;
  replaces = false;
  begin = 18_276;
  retired = retired;
  class = record { service = Light; designation = Plain; plan = 0; month = 1 };
}

abbrev pub pump : Equipment
pump = pump_until None

-- an event at a minute of a day
abbrev pub happened : ℕ → ℕ → Happening → Event
happened day minute what = record { key = record { day = day; minute = minute; handheld = 1; index = 0; number = 1 }; what = what }

-- events: a counting reading; visual inspections that designate drips as a leak, find other drips, or are dry; an attempt
abbrev pub read_at : ℕ → ℕ → ℕ → Event
read_at day minute ppm = happened day minute (Read ppm 0 true true false false)

abbrev pub leak_at : ℕ → ℕ → Event
leak_at day minute = happened day minute (Look true true true)

abbrev pub drips_at : ℕ → ℕ → Event
drips_at day minute = happened day minute (Look true false false)

abbrev pub dry_at : ℕ → ℕ → Event
dry_at day minute = happened day minute (Look false false false)

abbrev pub attempt_at : ℕ → ℕ → Event
attempt_at day minute = happened day minute (Attempt false)

-- the content of a row at a minute of a day
abbrev pub mark : SealWhat → ℕ → ℕ → Mark
mark what day minute = record { what = what; at = record { day = day; minute = minute } }

-- the pump is sealed from 2024-02-01 on
abbrev pub sealed : Mark
sealed = mark On 19_754 0

-- a tag of a kind of leak
abbrev pub tag : ℕ → ℕ → Option ℕ → Option ℕ → SealTag
tag sort detected attempted closed = record { sort = sort; detected = detected; attempted = attempted; closed = closed }

-- a duty of a cause
abbrev pub duty_of : ℕ → ℕ → Option ℕ → SealDuty
duty_of cause due met = record { cause = cause; due = due; met = met }
