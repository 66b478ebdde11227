-- The batches of an import.
use Rattle.std.specs.Prelude.{ℕ, ◌+◌, List, [], ◌∷◌, Result, Ok, Err}
use Rattle.list_words.specs.Parts.{cut}
use Rattle.fact_kinds.specs.declared.batch.Batch.{Batch}
use Rattle.fact_kinds.specs.Stated.{Stated}
use Rattle.register_import.specs.Rows.{Rows}
use Rattle.fact_kinds.specs.declared.limits.TheConstants.{BATCH_FACTS}

-- one batch for each part, of handheld 0, numbered from this number on
abbrev pub numbered : ℕ → List (List Stated) → List Batch
numbered number [] = []
numbered number (part ∷ parts) = record { handheld = 0; number = number; facts = part } ∷ numbered (number + 1) parts

-- the facts in batches of 512, the last one possibly shorter
abbrev pub batches_of : ℕ → List Stated → List Batch
batches_of number facts = numbered number (cut BATCH_FACTS facts)

-- the batches of rows, or the first bad row
abbrev pub batches_said : ℕ → Rows → Result (List Batch) ℕ
batches_said number (Ok facts) = Ok (batches_of number facts)
batches_said number (Err at) = Err at
