-- The bytes of a journal, and the history that they open to.
use Rattle.std.specs.Prelude.{◌≡◌, ◌≢◌, ℕ, ◌+◌, ◌<◌, ◌≤◌, List, ◌∷◌, ◌++◌, length, take, codes, replicate, sum_by, slice_index, IsTrue}
use Rattle.std.specs.List.{flat_map, AllByRecursion}
use Rattle.fact_kinds.specs.declared.limits.TheConstants.{MOST_FACTS, FRAME_BATCHES}
use Rattle.fact_kinds.specs.declared.batch.Batch.{Batch}
use Rattle.fact_kinds.specs.Fields.{IsFilled, big_endian}
use Rattle.ldar_facts.specs.Grammar.{batch_fields, spelled}
use Rattle.fact_kinds.specs.Identity.{identities_differ}

-- the first bytes of a journal: its name and version in letters, and eight zero bytes
abbrev pub header : List ℕ
header = codes "LDARJNL1" ++ replicate 8 0

-- each field of the batch has its width and range
unfoldable pub IsBatch : Batch → Type 0
IsBatch batch = AllByRecursion IsFilled (batch_fields batch)

-- the bytes of a batch
unfoldable pub spelling : Batch → List ℕ
spelling batch = spelled (batch_fields batch)

-- batches one after the other
abbrev pub payload : List Batch → List ℕ
payload batches = flat_map spelling batches

-- an open frame: the gate 1, the length of the payload in four bytes, and the payload
abbrev pub frame : List Batch → List ℕ
frame batches = 1 ∷ (big_endian 4 (length (payload batches)) ++ payload batches)

-- the batches that a frame may contain: 1 to 16
pub record IsFrame (batches : List Batch) : Type 0 where
  pub some : 0 < length batches
  pub fits : length batches ≤ FRAME_BATCHES
  pub each : AllByRecursion IsBatch batches

-- the batches of frames, one frame after the other
abbrev pub batches_of : List (List Batch) → List Batch
batches_of frames = flat_map (λ batches. batches) frames

-- the place of the gate after these frames; each frame takes its gate, four bytes of length, and its payload
abbrev pub end_of : List (List Batch) → ℕ
end_of frames = 16 + sum_by (λ batches. 5 + length (payload batches)) frames

-- these bytes are the header and these frames, complete and open, one after the other
pub record IsFront (front : List ℕ) (frames : List (List Batch)) : Type 0 where
  pub each : AllByRecursion IsFrame frames
  pub spells : front ≡ header ++ flat_map frame frames

-- the number of facts in the batches
abbrev pub fact_count : List Batch → ℕ
fact_count history = sum_by (λ batch. length batch.facts) history

-- a history that a journal may keep: each identity only once, and at most 8,000,000 facts
pub record IsKept (history : List Batch) : Type 0 where
  pub differ : IsTrue (identities_differ history)
  pub fits : fact_count history ≤ MOST_FACTS

-- the image opens to these frames, and a closed gate follows at this place; the bytes after it are free
pub record EndsAt (image : List ℕ) (place : ℕ) (frames : List (List Batch)) : Type 0 where
  pub within : place < length image
  pub front : IsFront (take place image) frames
  pub closed : slice_index image place ≢ 1
  pub kept : IsKept (batches_of frames)

-- the image opens to these frames
abbrev pub OpensTo : List ℕ → List (List Batch) → Type 0
OpensTo image frames = (place : ℕ) × EndsAt image place frames

-- the image opens to this history: frames with these batches in order
abbrev pub Opens : List ℕ → List Batch → Type 0
Opens image history = (frames : List (List Batch)) × (batches_of frames ≡ history) × OpensTo image frames
