-- A source in memory, and the effects of its calls.
use Rattle.std.specs.Prelude.{ℕ, List, [], ◌∷◌, drop}
use Rattle.std.specs.List.{flat_map}
use Rattle.disk_model.specs.Calls.{CallCounts, after_pass, after_fault}

-- the unread pieces, and the calls
pub record SourceState : Type 0 where
  pub pieces : List (List ℕ)
  pub calls : CallCounts

-- the bytes of pieces, one after the other
abbrev pub joined : List (List ℕ) → List ℕ
joined pieces = flat_map (λ piece. piece) pieces

-- the pieces from the first non-empty one on
abbrev pub from_first : List (List ℕ) → List (List ℕ)
from_first [] = []
from_first ([] ∷ pieces) = from_first pieces
from_first ((byte ∷ bytes) ∷ pieces) = (byte ∷ bytes) ∷ pieces

-- the first of some pieces, or no bytes
abbrev pub first_piece : List (List ℕ) → List ℕ
first_piece [] = []
first_piece (piece ∷ pieces) = piece

-- the pieces without this many bytes of the first one
abbrev pub cut : ℕ → List (List ℕ) → List (List ℕ)
cut n [] = []
cut n (piece ∷ pieces) = drop n piece ∷ pieces

-- a failed call is counted and changes nothing else
abbrev pub after_failing : SourceState → SourceState
after_failing source = record source { calls = after_fault source.calls }

-- a call that read this many bytes took them from the first non-empty piece
abbrev pub after_take : SourceState → ℕ → SourceState
after_take source n = record source { pieces = cut n (from_first source.pieces); calls = after_pass source.calls }
