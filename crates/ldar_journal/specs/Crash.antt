-- What a crash may leave of a journal's disk, now and over several calls.
use Rattle.std.specs.Prelude.{◌≡◌, ◌≤◌, ◌<◌, ◌+◌, ◌^◌, ◌⊎◌, ℕ, List, Option, Some}
use Rattle.disk_model.specs.Told.{Told}

-- if the disk exposes its bytes, they and each image that a crash now may leave have P
abbrev pub OnDisk : Option (List ℕ) → (List ℕ → Type 0) → (List ℕ → Type 0) → Type 0
OnDisk content images P = Told content (λ bytes. P bytes × ((image : List ℕ) → images image → P image))

-- the image is the result of this step on one of these images
abbrev pub ComesFrom : (List ℕ → List ℕ → Type 0) → (List ℕ → Type 0) → List ℕ → Type 0
ComesFrom step images image = (earlier : List ℕ) × images earlier × step earlier image

-- Over calls from one value of a disk to another, for any clock to count from: each image that a crash may have left was possible before
-- them, or is one that the calls may leave. So several stretches of calls, and a whole run, are one stretch.
pub record LeavesOnly {D : Type 0} (clock_of : D → ℕ) (left_of : D → ℕ → List ℕ → Type 0) (old new : D) (may_leave : List ℕ → Type 0) : Type 0 where
  pub since : (t : ℕ) (image : List ℕ) → t ≤ clock_of old → left_of new t image → left_of old t image ⊎ may_leave image

-- Over at most this many calls of a disk that may have a known room: the room does not change. If it is known, each call raises the clock
-- by at most one, and the calls keep their promise for this room, unless the clock could reach its maximum.
pub record AnswersInRoom {D : Type 0} (room_of : D → Option ℕ) (clock_of : D → ℕ) (calls : ℕ) (old new : D) (promise : ℕ → Type 0) : Type 0 where
  pub stays : room_of new ≡ room_of old
  pub steps : (room : ℕ) → room_of old ≡ Some room → clock_of new ≤ clock_of old + calls
  pub answers : (room : ℕ) → room_of old ≡ Some room → clock_of old + calls < 2 ^ 64 → promise room

-- Over any number of calls that write nothing, of a disk that may have a known room: the room does not change, and if it is known, the
-- calls keep their promise.
pub record AnswersOverRoom {D : Type 0} (room_of : D → Option ℕ) (old new : D) (promise : Type 0) : Type 0 where
  pub stays : room_of new ≡ room_of old
  pub answers : (room : ℕ) → room_of old ≡ Some room → promise
