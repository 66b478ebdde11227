-- Tags and sheets of the small office, for examples of reports.
use Rattle.std.specs.Prelude.{ℕ, ◌+◌, ◌*◌, Bool, false, Option, Some, None, List, [], ◌∷◌, ◌++◌, replicate}
use Rattle.fact_kinds.specs.declared.class.Kind.{Kind}
use Rattle.fact_kinds.specs.declared.key.Key.{Key}
use Rattle.ldar_law.specs.declared.delay.DelayEntry.{DelayEntry}
use Rattle.ldar_law.specs.declared.delay.DelayLine.{DelayLine}
use Rattle.ldar_law.specs.declared.delay.Stop.{Stop}
use Rattle.ldar_law.specs.declared.delay.Until.{Until}
use Rattle.ldar_law.specs.declared.delay.Until.TheVariants.{Date}
use Rattle.ldar_law.specs.declared.sheet.Sheet.{Sheet}
use Rattle.ldar_law.specs.declared.tag.Tag.{Tag}
use Rattle.ldar_law.specs.Short.{date}

-- the tag of a leak of valve 1 on 2024-02-20, with its first attempt, its closing, and whether its identification may be removed
abbrev pub small_tag : Option ℕ → Option ℕ → Bool → Tag
small_tag attempted closed removable = record {
  component = 1;
  detected = date 2024 2 20;
  attempt_due = date 2024 2 25;
  attempted = attempted;
  repair_due = Date (date 2024 3 6);
  closed = closed;
  delay = None;
  removable = removable;
}

-- this tag with an attempt on 2024-02-22, closed on a day or open
abbrev pub with_closing : Option ℕ → Tag
with_closing closed = small_tag (Some (date 2024 2 22)) closed false

-- this tag, closed one day after its due day
abbrev pub repaired_late : Tag
repaired_late = with_closing (Some (date 2024 3 7))

-- a delay that handheld 7 entered on 2024-03-01, signed by 9, with a repair expected on 2024-06-10
abbrev pub delay_entry : (ground : ℕ) → DelayEntry
delay_entry why = record {
  key = record { day = date 2024 3 1; minute = 600; handheld = 7; number = 2; index = 0 };
  ground = why;
  signer = 9;
  expected = Some (date 2024 6 10);
}

-- the tag with such a delay
abbrev pub delayed : ℕ → Until → Option ℕ → Tag
delayed why until closed = record {
  component = 1;
  detected = date 2024 2 20;
  attempt_due = date 2024 2 25;
  attempted = None;
  repair_due = until;
  closed = closed;
  delay = Some (delay_entry why);
  removable = false;
}

-- the sheet of a component with a leak in February 2024 and this tag
abbrev pub sheet_of : ℕ → Kind → Tag → Sheet
sheet_of component kind tag = record { component = component; kind = kind; leaks = (12 * 2024 + 1) ∷ []; tags = tag ∷ [] }

-- the numbers of a report with this many leaking valves in the fifth month and this many late ones in the sixth
abbrev pub filed_months : ℕ → ℕ → List ℕ
filed_months leaking late = replicate 24 0 ++ leaking ∷ replicate 6 0 ++ late ∷ replicate 4 0

-- the key of a reading of handheld 7 on a day
abbrev pub met_by : ℕ → Key
met_by day = record { day = day; minute = 600; handheld = 7; number = 1; index = 0 }

-- the line of the tag with such a delay
abbrev pub delayed_line : ℕ → Until → Option ℕ → DelayLine
delayed_line why until closed = record { component = 1; detected = date 2024 2 20; delay = delay_entry why; until = until; closed = closed }

-- two shutdowns
abbrev pub two_stops : List Stop
two_stops = record { first = date 2024 2 1; last = date 2024 2 9 } ∷ record { first = date 2024 6 1; last = date 2024 6 14 } ∷ []
