-- What a crash may leave after changes, and may have left since one of them.
use Rattle.std.specs.Prelude.{◌≡◌, ◌≤◌, ◌⊎◌, ℕ, List, [], ◌∷◌, length}
use Rattle.disk_model.specs.Disk.{Torn}

-- a change of what a crash may leave: a write of some bytes at a place, or a sync of this content
pub data Change : Type 0 where
  WroteAt : ℕ → ℕ → Change
  SyncedAs : List ℕ → Change

-- what a crash may leave after these changes, latest first, if the initial bytes were stable
abbrev pub Images : List ℕ → List Change → List ℕ → Type 0
Images start [] c = c ≡ start
Images start (WroteAt at n ∷ past) c = (d : List ℕ) × Images start past d × Torn at n d c
Images start (SyncedAs bytes ∷ past) c = c ≡ bytes

-- what a crash may have left since the first `t` of these changes, latest first
abbrev pub Left : List ℕ → List Change → ℕ → List ℕ → Type 0
Left start [] t c = (t ≤ 0) × Images start [] c
Left start (change ∷ past) t c = ((t ≤ length (change ∷ past)) × Images start (change ∷ past) c) ⊎ Left start past t c
