-- A disk in memory after a stop inside one of its calls.
use Rattle.std.specs.Prelude.{ℕ, List, [], ◌∷◌, length, take, ltb, eqb, if◌then◌else◌}
use Rattle.disk_model.specs.Writes.{written}
use Rattle.disk_model.specs.MemoryDisk.{DiskState, bytes_after, clock_of, left_of}
use Rattle.disk_model.specs.declared.noted.Event.{Event}
use Rattle.disk_model.specs.declared.noted.Event.TheVariants.{Wrote, Synced}
use Rattle.disk_model.specs.declared.noted.Noted.{Noted}

-- the calls with numbers up to this one
abbrev pub up_to : ℕ → List Noted → List Noted
up_to call [] = []
up_to call (noted ∷ past) = if ltb call noted.call then up_to call past else (noted ∷ past)

-- the calls up to this one, but not this one
abbrev pub without : ℕ → List Noted → List Noted
without call [] = []
without call (noted ∷ past) = if eqb noted.call call then past else (noted ∷ past)

-- the disk after a call
abbrev pub disk_after : ℕ → DiskState → DiskState
disk_after call disk = record disk { past = up_to call disk.past }

-- the disk before a call
abbrev pub disk_before : ℕ → DiskState → DiskState
disk_before call disk = record disk { past = without call (up_to call disk.past) }

-- the bytes after a partial call; if it is a write, the first bytes of its range are `left`, as far as the range goes
abbrev pub after_part : Event → List ℕ → List ℕ → List ℕ
after_part (Wrote write) left bytes = written write.at (take (length write.bytes) left) bytes
after_part Synced left bytes = bytes

-- the bytes after the calls up to this one, the last of them partial
abbrev pub stopped_in : ℕ → List ℕ → List Noted → List ℕ → List ℕ
stopped_in call start [] left = start
stopped_in call start (noted ∷ past) left =
    if eqb noted.call call then after_part noted.event left (bytes_after start past) else bytes_after start (noted ∷ past)

-- the bytes after a stop inside a call
abbrev pub stopped_bytes : DiskState → ℕ → List ℕ → List ℕ
stopped_bytes disk call left = stopped_in call disk.start (up_to call disk.past) left

-- a crash inside this call may have left these bytes: they were possible between the clock at its start and its end
abbrev pub IsLeftIn : DiskState → ℕ → List ℕ → Type 0
IsLeftIn disk call bytes = left_of (disk_after call disk) (clock_of (disk_before call disk)) bytes
