-- The grammar of batches: which bytes are a batch, begin one, or go wrong, and where.
use Rattle.std.specs.Prelude.{◌≡◌, ℕ, ◌+◌, ◌<◌, List, ◌∷◌, ◌++◌, length, take}
use Rattle.std.specs.List.{flat_map, AllByRecursion}
use Rattle.fact_kinds.specs.declared.batch.Batch.{Batch}
use Rattle.ldar_facts.specs.declared.read.Read.{Read}
use Rattle.ldar_facts.specs.declared.read.Read.TheVariants.{Whole, Short, Bad}
use Rattle.fact_kinds.specs.Fields.{Field, number, IsFilled, bytes_of, first_letters, handhelds, batch_numbers, counts, fact_fields}

-- the fields of a batch, in order: the letter B, handheld, number, number of facts, and the facts
abbrev pub batch_fields : Batch → List Field
batch_fields batch =
    number 1 first_letters 66 ∷ number 2 handhelds batch.handheld ∷ number 4 batch_numbers batch.number
    ∷ number 2 counts (length batch.facts) ∷ flat_map fact_fields batch.facts

-- the bytes of some fields, in order
abbrev pub spelled : List Field → List ℕ
spelled fields = flat_map bytes_of fields

-- the bytes are exactly this batch, and each field is in its range
pub record Spells (bytes : List ℕ) (batch : Batch) : Type 0 where
  pub filled : AllByRecursion IsFilled (batch_fields batch)
  pub spells : bytes ≡ spelled (batch_fields batch)

-- the bytes, with some others after them, are a batch
abbrev pub Begins : List ℕ → Type 0
Begins bytes = (batch : Batch) × (more : List ℕ) × Spells (bytes ++ more) batch

-- no prefix of the bytes is a batch
abbrev pub HasNoBatch : List ℕ → Type 0
HasNoBatch bytes = (used : ℕ) (batch : Batch) → ¬ (Spells (take used bytes) batch)

-- the bytes before this place begin a batch, and with the byte at it they do not
pub record IsFirstWrongPlace (bytes : List ℕ) (at : ℕ) : Type 0 where
  pub within : at < length bytes
  pub before : Begins (take at bytes)
  pub after : ¬ (Begins (take (at + 1) bytes))

-- if a batch was read, this holds of it and of its length
abbrev pub IfWhole : Read → (Batch → ℕ → Type 0) → Type 0
IfWhole (Whole batch used) P = P batch used
IfWhole Short P = Unit {0}
IfWhole (Bad at) P = Unit {0}

-- if the bytes were cut short, this holds
abbrev pub OnShort : Read → Type 0 → Type 0
OnShort (Whole batch used) P = Unit {0}
OnShort Short P = P
OnShort (Bad at) P = Unit {0}

-- if a wrong place was found, this holds of it
abbrev pub IfBad : Read → (ℕ → Type 0) → Type 0
IfBad (Whole batch used) P = Unit {0}
IfBad Short P = Unit {0}
IfBad (Bad at) P = P at
