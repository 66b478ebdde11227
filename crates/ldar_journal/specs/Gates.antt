-- What the writes of an append change.
use Rattle.std.specs.Prelude.{◌≡◌, ℕ, ◌+◌, ◌<◌, List, ◌++◌, length, take, drop}

-- the bytes up to and including the gate are unchanged
pub record PutsBehind (gate : ℕ) (old new : List ℕ) : Type 0 where
  pub within : gate < length new
  pub front : take (gate + 1) new ≡ take (gate + 1) old

-- these bytes are after the gate
pub record HoldsBehind (gate : ℕ) (bytes new : List ℕ) : Type 0 where
  pub rest : List ℕ
  pub stands : drop (gate + 1) new ≡ bytes ++ rest

-- all bytes except the gate are unchanged
pub record SameButGate (gate : ℕ) (old new : List ℕ) : Type 0 where
  pub within : gate < length new
  pub front : take gate new ≡ take gate old
  pub behind : drop (gate + 1) new ≡ drop (gate + 1) old

-- a step that writes after a gate, if the bytes include the gate
abbrev pub WritesBehind : ℕ → List ℕ → List ℕ → Type 0
WritesBehind gate old new = gate < length old → PutsBehind gate old new

-- a step that writes a gate, if the bytes include it
abbrev pub WritesGate : ℕ → List ℕ → List ℕ → Type 0
WritesGate gate old new = gate < length old → SameButGate gate old new
