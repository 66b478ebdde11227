-- Internal: how the private readers are proved. It is in specs/ only because their clauses cite it.
-- The answer of `read_batch`, from the reading of the form of a batch.
use Rattle.std.specs.Prelude.{ℕ, ◌-◌, ◌≤◌, length, Ok, Err}
use Rattle.fact_kinds.specs.declared.batch.Batch.{Batch}
use Rattle.ldar_facts.specs.declared.read.Read.{Read}
use Rattle.ldar_facts.specs.declared.read.Read.TheVariants as reads
use Rattle.ldar_facts.specs.declared.read_end.ReadEnd.{ReadEnd}
use Rattle.ldar_facts.specs.declared.read_end.ReadEnd.TheVariants as stops
use Rattle.ldar_facts.specs.Form.{Outcome}

-- a wrong byte is among this many bytes
abbrev pub IsWithin : ℕ → ReadEnd → Type 0
IsWithin len stops.Short = Unit {0}
IsWithin len (stops.Wrong left) = left ≤ len

-- the answer if the reading of this many bytes ended without a value
abbrev pub read_of_stop : ℕ → ReadEnd → Read
read_of_stop len stops.Short = reads.Short
read_of_stop len (stops.Wrong left) = reads.Bad (len - left)

-- the answer for a reading of this many bytes
abbrev pub read_of : ℕ → Outcome Batch → Read
read_of len (Ok found) = reads.Whole found.0 (len - length found.1)
read_of len (Err stop) = read_of_stop len stop
