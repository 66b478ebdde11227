-- The pieces written to a sink.
use Rattle.std.specs.Prelude.{◌≡◌, ◌<◌, ℕ, List, ◌++◌, length, replicate, Option, Some, None}
use Rattle.std.specs.List.{flat_map}

-- bytes that were written in one call, with the clock of the given disk
pub record Piece : Type 0 where
  pub bytes : List ℕ
  pub stamp : ℕ

-- a piece with these bytes and this stamp
abbrev pub piece_of : List ℕ → ℕ → Piece
piece_of bytes stamp = record { bytes = bytes; stamp = stamp }

-- a piece with at least one byte and this stamp
abbrev pub IsStamped : ℕ → Piece → Type 0
IsStamped stamp piece = (0 < length piece.bytes) × (piece.stamp ≡ stamp)

-- these pieces were added to the old ones; nothing is stated if the sink does not expose its pieces
abbrev pub Puts : Option (List Piece) → List Piece → Option (List Piece) → Type 0
Puts None put new = Unit {0}
Puts (Some old) put None = ⊥
Puts (Some old) put (Some new) = new ≡ old ++ put

-- the bytes of all pieces
abbrev pub bytes_of : List Piece → List ℕ
bytes_of pieces = flat_map (λ piece. piece.bytes) pieces

-- the stamp of each byte of all pieces
abbrev pub stamps_of : List Piece → List ℕ
stamps_of pieces = flat_map (λ piece. replicate (length piece.bytes) piece.stamp) pieces
