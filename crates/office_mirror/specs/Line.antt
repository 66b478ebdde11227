-- A text that is written while a disk's clock does not move.
use Rattle.std.specs.Prelude.{◌≡◌, ℕ, Option, List, [], ◌++◌, Result, OnOk, All}
use Rattle.ldar_ports.specs.Sink.{Piece, Puts, IsStamped, bytes_of}

-- the text was written, and completely if the call succeeded; each piece has this stamp
abbrev pub IsPutAt : {T E : Type 0} → ℕ → List ℕ → Option (List Piece) → Option (List Piece) → Result T E → Type 0
IsPutAt clock text old new result =
    (put : List Piece) × (unsaid : List ℕ) × Puts old put new × (text ≡ bytes_of put ++ unsaid) × OnOk result (unsaid ≡ [])
    × All (IsStamped clock) put
