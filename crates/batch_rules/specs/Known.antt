-- What is known when a fact of a batch is judged.
use Rattle.std.specs.Prelude.{ℕ, List, take}
use Rattle.fact_kinds.specs.declared.batch.Batch.{Batch}
use Rattle.fact_kinds.specs.Facts.{Entry, entries_from, entries_of}
use Rattle.fact_store.specs.Kept.{facts_in}
use Rattle.ldar_law.specs.Judged.{Register, register_with}
use Rattle.batch_rules.specs.declared.known_facts.Known.{Known}

-- the first facts as a batch
abbrev pub batch_of : Known → Batch
batch_of known = record { handheld = known.handheld; number = known.number; facts = known.front.now }

-- the first facts with their keys
abbrev pub front_of : Known → List Entry
front_of known = entries_of (batch_of known)

-- the register with these facts
abbrev pub register_at : Known → Register
register_at known = register_with (facts_in known.register.now) (front_of known)

-- the register with only the first n of these facts
abbrev pub register_by : Known → ℕ → Register
register_by known count = register_with (facts_in known.register.now) (entries_from (batch_of known) 0 (take count known.front.now))
