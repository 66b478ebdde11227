-- A disk in memory, the effects of its calls, and what a stop leaves.
use Rattle.std.specs.Prelude.{ℕ, List, [], ◌∷◌, length}
use Rattle.disk_model.specs.Calls.{CallCounts, after_pass, after_fault}
use Rattle.disk_model.specs.Moments.{Change, WroteAt, SyncedAs, Images, Left}
use Rattle.disk_model.specs.Writes.{written}
use Rattle.disk_model.specs.declared.noted.Event.{Event}
use Rattle.disk_model.specs.declared.noted.Event.TheVariants.{Wrote, Synced}
use Rattle.disk_model.specs.declared.noted.Noted.{Noted}

-- the initial bytes, the successful writes and syncs, latest first, and the counts of calls
pub record DiskState : Type 0 where
  pub start : List ℕ
  pub past : List Noted
  pub calls : CallCounts

-- the bytes after a call
abbrev pub after_event : Event → List ℕ → List ℕ
after_event (Wrote write) bytes = written write.at write.bytes bytes
after_event Synced bytes = bytes

-- the bytes after these calls, latest first
abbrev pub bytes_after : List ℕ → List Noted → List ℕ
bytes_after start [] = start
bytes_after start (noted ∷ past) = after_event noted.event (bytes_after start past)

-- how a call on these bytes changes what a crash may leave
abbrev pub change_of : Event → List ℕ → Change
change_of (Wrote write) bytes = WroteAt write.at (length write.bytes)
change_of Synced bytes = SyncedAs bytes

-- how these calls change what a crash may leave, latest first
abbrev pub changes : List ℕ → List Noted → List Change
changes start [] = []
changes start (noted ∷ past) = change_of noted.event (bytes_after start past) ∷ changes start past

-- the bytes that a read returns
abbrev pub bytes_of : DiskState → List ℕ
bytes_of disk = bytes_after disk.start disk.past

-- the clock is the number of successful writes and syncs
abbrev pub clock_of : DiskState → ℕ
clock_of disk = length (changes disk.start disk.past)

-- the images that a crash now may leave
abbrev pub images_of : DiskState → List ℕ → Type 0
images_of disk = Images disk.start (changes disk.start disk.past)

-- the images that a crash since a clock may have left
abbrev pub left_of : DiskState → ℕ → List ℕ → Type 0
left_of disk = Left disk.start (changes disk.start disk.past)

-- a disk with these bytes, all stable, on which the calls with these numbers will fail
abbrev pub new_disk : List ℕ → List ℕ → DiskState
new_disk bytes failing = record { start = bytes; past = []; calls = record { failing = failing; made = 0; faults = 0 } }

-- a failed call is counted and changes nothing else
abbrev pub after_failing : DiskState → DiskState
after_failing disk = record disk { calls = after_fault disk.calls }

-- a read is counted, and changes nothing else
abbrev pub after_read : DiskState → DiskState
after_read disk = record disk { calls = after_pass disk.calls }

-- a write by the call of this number
abbrev pub noted_write : ℕ → ℕ → List ℕ → Noted
noted_write call at bytes = record { call = call; event = Wrote (record { at = at; bytes = bytes }) }

-- a sync by the call of this number
abbrev pub noted_sync : ℕ → Noted
noted_sync call = record { call = call; event = Synced }

-- a successful write is counted and noted
abbrev pub after_write : DiskState → ℕ → List ℕ → DiskState
after_write disk at bytes = record disk { past = noted_write disk.calls.made at bytes ∷ disk.past; calls = after_pass disk.calls }

-- a successful sync is counted and noted
abbrev pub after_sync : DiskState → DiskState
after_sync disk = record disk { past = noted_sync disk.calls.made ∷ disk.past; calls = after_pass disk.calls }
