-- The connections of a front.
use Rattle.std.specs.Prelude.{◌≡◌, ℕ, List, [], ◌++◌, Option, Some, None}
use Rattle.ldar_ports.specs.declared.ended.Ended.{Ended}
use Rattle.ldar_ports.specs.Sink.{Piece}

-- a connection: the unread bytes of its source and the pieces written to its sink, if these expose them, and their counts of errors
pub record Connection : Type 0 where
  pub left : Option (List ℕ)
  pub pieces : Option (List Piece)
  pub read_faults : ℕ
  pub write_faults : ℕ

-- a connection from its four parts
abbrev pub connection_of : Option (List ℕ) → Option (List Piece) → ℕ → ℕ → Connection
connection_of left pieces read_faults write_faults =
    record { left = left; pieces = pieces; read_faults = read_faults; write_faults = write_faults }

-- a connection as it was handed back, and how it ended
pub record Finished : Type 0 where
  pub connection : Connection
  pub ended : Ended

-- a connection that was handed back with this end
abbrev pub finished_of : Connection → Ended → Finished
finished_of connection ended = record { connection = connection; ended = ended }

-- these connections were accepted, the first of those that were left; nothing is stated if the front does not expose its connections
abbrev pub Accepts : Option (List Connection) → List Connection → Option (List Connection) → Type 0
Accepts None accepted new = Unit {0}
Accepts (Some old) accepted None = ⊥
Accepts (Some old) accepted (Some new) = old ≡ accepted ++ new

-- these connections were handed back, after the ones before; nothing is stated if the front does not expose them
abbrev pub Finishes : Option (List Finished) → List Finished → Option (List Finished) → Type 0
Finishes None finished new = Unit {0}
Finishes (Some old) finished None = ⊥
Finishes (Some old) finished (Some new) = new ≡ old ++ finished

-- no connections are left, if the front exposes them
abbrev pub HasNoneLeft : Option (List Connection) → Type 0
HasNoneLeft None = Unit {0}
HasNoneLeft (Some left) = left ≡ []
