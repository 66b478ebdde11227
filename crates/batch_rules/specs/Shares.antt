-- The number of valves of a process unit in service on a day, and how many are difficult to monitor (40 CFR 60.482-7a(h)(2)(ii)).
use Rattle.std.specs.Prelude.{ℕ, if◌then◌else◌, Option, None}
use Rattle.fact_kinds.specs.declared.body.FactBody.{FactBody}
use Rattle.fact_kinds.specs.Named.{component_of}
use Rattle.ldar_law.specs.Judged.{Register, Case}
use Rattle.ldar_law.specs.ShareLaws.{counts_as_valve, counts_as_difficult, adds, count_in}
use Rattle.ldar_law.specs.Slices.{is_registered}
use Rattle.batch_rules.specs.declared.share.Share.{Share}

-- the share of a process unit on a day that a component adds
abbrev pub added : ℕ → ℕ → Register → ℕ → Share
added unit day register number =
    record { valves = adds (counts_as_valve unit day) register number; difficult = adds (counts_as_difficult unit day) register number }

-- the share of a process unit on a day
abbrev pub share_in : ℕ → ℕ → Register → Share
share_in unit day register =
    record { valves = count_in (counts_as_valve unit day) register; difficult = count_in (counts_as_difficult unit day) register }

-- a fact with its day, as a case over a register
abbrev pub judged_by : Register → ℕ → FactBody → Case
judged_by whole day body = record {
  entry = (record { day = day; minute = 0; handheld = 0; number = 0; index = 0 }, record { day = day; minute = 0; body = body });
  known = whole;
  whole = whole;
}

-- the component that a fact changes in the register
abbrev pub changed : FactBody → Option ℕ
changed body = if is_registered body then component_of body else None
