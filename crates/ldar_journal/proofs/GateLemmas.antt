-- What writes after a gate, and writes of a gate, do to bytes that include the gate.
use Rattle.std.proofs.Common.{◌≡◌, ℕ, ◌+◌, ◌<◌, ◌≤◌, List, [], ◌∷◌, ◌++◌, length, take, min, subst, arith}
use Rattle.disk_model.specs.Disk.{Torn}
use Rattle.ldar_journal.specs.Gates.{PutsBehind, SameButGate, WritesBehind, WritesGate}

-- the bytes before a torn write are unchanged
before_torn : (at n : ℕ) (old new : List ℕ) → Torn at n old new → at ≤ length old → take at new ≡ take at old
before_torn at n old new torn within =
    let all : min at (length old) ≡ at = omega arith in
    subst (λ (k : ℕ). take k new ≡ take at old) all torn.before

-- a torn write after a gate leaves the bytes up to and including the gate unchanged
pub Torn-behind : (gate n : ℕ) (old new : List ℕ) → Torn (gate + 1) n old new → WritesBehind gate old new
Torn-behind gate n old new torn within = record {
  within = omega (arith, torn.no_shorter);
  front = before_torn (gate + 1) n old new torn (omega arith);
}

-- a torn write of a gate leaves all other bytes unchanged
pub Torn-gate : (gate : ℕ) (old new : List ℕ) → Torn gate 1 old new → WritesGate gate old new
Torn-gate gate old new torn within = record {
  within = omega (arith, torn.no_shorter);
  front = before_torn gate 1 old new torn (omega arith);
  behind = torn.after;
}
