-- A mirror of a history: what it is, and what asking it the batches of an answer may leave.
use Rattle.std.specs.Prelude.{◌≡◌, ◌≤◌, ◌+◌, ◌⊎◌, ℕ, List, [], ◌∷◌, ◌++◌, length, take, drop, slice_get, Some}
use Rattle.fact_kinds.specs.declared.batch.Batch.{Batch}
use Rattle.ldar_journal.specs.Image.{Opens}
use Rattle.ldar_law.specs.declared.reply.Reply.{Reply}
use Rattle.ldar_law.specs.declared.reply.Reply.TheVariants.{Receipt}
use Rattle.ldar_law.specs.declared.request.Request.TheVariants.{Sync}
use Rattle.ldar_law.specs.Machine.{State, Turn, Steps}
use Rattle.office_mirror.specs.declared.answer.Answer.{Answer}

-- the batches are the first ones of the others, up to some number
pub record IsFrontOf (all front : List Batch) : Type 0 where
  pub count : ℕ
  pub within : count ≤ length all
  pub is : front ≡ take count all

-- the history of the state is a front, also with the batches in doubt
pub record IsMirrorOf (all : List Batch) (state : State) : Type 0 where
  pub history : IsFrontOf all state.history
  pub doubt : IsFrontOf all (state.history ++ state.doubt)

-- the image opens to a front of at least this many batches
pub record HoldsFront (all : List Batch) (least : ℕ) (image : List ℕ) : Type 0 where
  pub count : ℕ
  pub low : least ≤ count
  pub within : count ≤ length all
  pub opens : Opens image (take count all)

-- the batches of the answer are those of the history at the positions after its start
abbrev pub From : List Batch → Answer → Type 0
From all answer = take (length answer.batches) (drop answer.start all) ≡ answer.batches

-- these batches are in the history one after another, from a place on
abbrev pub StandFrom : List Batch → ℕ → List Batch → Type 0
StandFrom all place [] = Unit {0}
StandFrom all place (batch ∷ batches) = (slice_get all place ≡ Some batch) × StandFrom all (place + 1) batches

-- the reply is a receipt of this position
abbrev pub IsReceiptAt : Reply → ℕ → Type 0
IsReceiptAt reply position = (handheld : ℕ) × (number : ℕ) × (reply ≡ Receipt handheld number position)

-- batches are asked one a turn from a position on, as long as each is receipted there; it may be stopped between two turns
abbrev pub Asked : State → ℕ → List Batch → State → Type 0
Asked state position [] next = next ≡ state
Asked state position (batch ∷ batches) next =
    (next ≡ state) ⊎ ((turn : Turn) × (between : State) × (turn.request ≡ Sync batch) × Steps state (turn ∷ []) between
    × ((next ≡ between) ⊎ (IsReceiptAt turn.reply position × Asked between (position + 1) batches next)))
