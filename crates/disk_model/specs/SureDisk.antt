-- A disk in memory that cannot fail within its room.
use Rattle.std.specs.Prelude.{◌≡◌, ◌<◌, ◌+◌, ◌-◌, ◌^◌, ◌⊎◌, ℕ, List, ◌∷◌, length}
use Rattle.disk_model.specs.Faults.{count_after}
use Rattle.disk_model.specs.Moments.{Change, WroteAt, SyncedAs}
use Rattle.disk_model.specs.Writes.{written}

-- a disk's bytes, its initial bytes, how its calls changed what a crash may leave, latest first, its room, and its count of errors
pub record SureState : Type 0 where
  pub bytes : List ℕ
  pub start : List ℕ
  pub past : List Change
  pub room : ℕ
  pub faults : ℕ

-- the clock is the number of successful writes and syncs
abbrev pub sure_clock : SureState → ℕ
sure_clock disk = length disk.past

-- the clock is at its maximum
abbrev pub IsAtLastClock : SureState → Type 0
IsAtLastClock disk = sure_clock disk ≡ 2 ^ 64 - 1

-- a write of these bytes would end past the room, or the clock is at its maximum
abbrev pub RefusesWrite : SureState → ℕ → List ℕ → Type 0
RefusesWrite disk at bytes = (disk.room < at + length bytes) ⊎ IsAtLastClock disk

-- a failed call is counted and changes nothing else
abbrev pub after_refusal : SureState → SureState
after_refusal disk = record disk { faults = count_after disk.faults }

-- a successful write
abbrev pub after_sure_write : SureState → ℕ → List ℕ → SureState
after_sure_write disk at bytes = record disk { bytes = written at bytes disk.bytes; past = WroteAt at (length bytes) ∷ disk.past }

-- a successful sync
abbrev pub after_sure_sync : SureState → SureState
after_sure_sync disk = record disk { past = SyncedAs disk.bytes ∷ disk.past }
