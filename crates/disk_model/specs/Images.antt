-- What a crash may leave of a disk, and how a call changes it.
use Rattle.std.specs.Prelude.{◌≡◌, ◌≤◌, ◌+◌, ◌⊎◌, ◌↔◌, ℕ, List, Option, Some}
use Rattle.disk_model.specs.Disk.{Torn}

-- a crash may leave the same images before and after
abbrev pub Same : (List ℕ → Type 0) → (List ℕ → Type 0) → Type 0
Same old new = (c : List ℕ) → old c ↔ new c

-- a crash leaves exactly these bytes
pub record Only (bytes : List ℕ) (images : List ℕ → Type 0) : Type 0 where
  pub itself : images bytes
  pub no_other : (c : List ℕ) → images c → c ≡ bytes

-- a write of n bytes at this place is under way: a crash leaves exactly the results of a torn write on what a crash left before
pub record Tears (at n : ℕ) (old new : List ℕ → Type 0) : Type 0 where
  pub only : (c : List ℕ) → new c → (d : List ℕ) × old d × Torn at n d c
  pub all : (c d : List ℕ) → old d → Torn at n d c → new c

-- for each clock up to this one, a crash since then may have left the same images before and after
abbrev pub SameSince : ℕ → (ℕ → List ℕ → Type 0) → (ℕ → List ℕ → Type 0) → Type 0
SameSince clock old new = (t : ℕ) → t ≤ clock → Same (old t) (new t)

-- How a call changes what a crash may have left since an earlier clock: it adds exactly what a crash may leave now. A call that changes
-- what a crash may leave raises the clock.
pub record Elapses {D : Type 0} (clock_of : D → ℕ) (images_of : D → List ℕ → Type 0) (left_of : D → ℕ → List ℕ → Type 0) (old new : D) : Type 0 where
  pub only : (t : ℕ) (c : List ℕ) → t ≤ clock_of old → left_of new t c → left_of old t c ⊎ images_of new c
  pub before : (t : ℕ) (c : List ℕ) → t ≤ clock_of old → left_of old t c → left_of new t c
  pub still : clock_of new ≡ clock_of old → Same (images_of old) (images_of new)

-- A call of a disk that may have a known room: the room does not change. If it is known, the clock rises by at most one, and the call keeps
-- its promise for this room.
pub record Roomy {D : Type 0} (room_of : D → Option ℕ) (clock_of : D → ℕ) (old new : D) (promise : ℕ → Type 0) : Type 0 where
  pub stays : room_of new ≡ room_of old
  pub step : (end : ℕ) → room_of old ≡ Some end → clock_of new ≤ clock_of old + 1
  pub answers : (end : ℕ) → room_of old ≡ Some end → promise end
