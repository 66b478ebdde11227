-- What an office promises on a disk with a known room.
use Rattle.std.specs.Prelude.{◌≡◌, ◌≢◌, ℕ, ◌+◌, ◌≤◌, ◌⊎◌, List, [], ◌∷◌, ◌++◌}
use Rattle.std.specs.List.{AllByRecursion}
use Rattle.fact_kinds.specs.declared.batch.Batch.{Batch}
use Rattle.ldar_journal.specs.Image.{batches_of, end_of}
use Rattle.ldar_journal.specs.Shelf.{Shelf}
use Rattle.ldar_law.specs.declared.reply.Reply.{Reply}
use Rattle.ldar_law.specs.declared.reply.Reply.TheVariants.{Fault, Memory}
use Rattle.ldar_law.specs.declared.request.Request.{Request}
use Rattle.office_book.specs.Serving.{added}

-- the room is enough for the header, these frames, one more with these batches, and a closed gate
abbrev pub HasRoom : List (List Batch) → List Batch → ℕ → Type 0
HasRoom frames batches room = end_of (frames ++ batches ∷ []) + 1 ≤ room

-- the room is enough for what these requests add, whether or not the batches in doubt, if any, are kept
abbrev pub HasRoomFor : {D : Type 0} → Shelf D → List Request → ℕ → Type 0
HasRoomFor shelf requests room = HasRoom shelf.frames (added (batches_of shelf.frames) requests) room
    × (shelf.doubt ≢ [] → HasRoom (shelf.frames ++ shelf.doubt ∷ []) (added (batches_of shelf.frames ++ shelf.doubt) requests) room)

-- the reply is no disk error
abbrev pub IsNoFault : Reply → Type 0
IsNoFault reply = reply ≢ Fault

-- the replies are the earlier ones, followed by others without a disk error
abbrev pub PutsNoFault : List Reply → List Reply → Type 0
PutsNoFault front replies = (said : List Reply) × (replies ≡ front ++ said) × AllByRecursion IsNoFault said

-- requests that leave a history unchanged, with these replies: none adds a batch, or each ran out of memory, or there is no disk error
-- among the replies
abbrev pub AddsNothing : List Batch → List Batch → List Request → List Reply → Type 0
AddsNothing history after requests replies =
    (added history requests ≡ []) ⊎ (AllByRecursion (λ reply. reply ≡ Memory) replies ⊎ (AllByRecursion IsNoFault replies × (after ≡ history)))
