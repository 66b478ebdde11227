-- Bytes read from a source.
use Rattle.std.specs.Prelude.{◌≡◌, ℕ, List, [], ◌++◌, Option, Some, None}

-- these bytes were read from the unread ones; nothing is stated if the source does not expose them
abbrev pub Takes : Option (List ℕ) → List ℕ → Option (List ℕ) → Type 0
Takes None taken new = Unit {0}
Takes (Some old) taken None = ⊥
Takes (Some old) taken (Some new) = old ≡ taken ++ new

-- no bytes are unread, if the source exposes them
abbrev pub HasEnded : Option (List ℕ) → Type 0
HasEnded None = Unit {0}
HasEnded (Some left) = left ≡ []
