-- Successful writes and their effect on bytes.
use Rattle.std.specs.Prelude.{◌+◌, ◌-◌, ℕ, List, [], ◌∷◌, ◌++◌, length, take, drop, replicate}

-- the place and the bytes of a write
pub record Write : Type 0 where
  pub at : ℕ
  pub bytes : List ℕ

-- these bytes, with zeros appended up to this place
abbrev pub filled_to : ℕ → List ℕ → List ℕ
filled_to end bytes = bytes ++ replicate (end - length bytes) 0

-- the bytes after a complete write; zeros fill the gap between the old end and the place
abbrev pub written : ℕ → List ℕ → List ℕ → List ℕ
written at [] old = old
written at (byte ∷ bytes) old = take at (filled_to at old) ++ (byte ∷ bytes) ++ drop (at + length (byte ∷ bytes)) old
