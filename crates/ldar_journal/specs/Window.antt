-- Bytes of a disk in a buffer, and calls that only read.
use Rattle.std.specs.Prelude.{◌≡◌, ℕ, Option, List, length, take, drop}
use Rattle.disk_model.specs.Images.{Same, SameSince}
use Rattle.disk_model.specs.Told.{BothTold}

-- the bytes in a window, and the size of its buffer
pub record WindowState : Type 0 where
  pub bytes : List ℕ
  pub size : ℕ

-- these bytes are at a place of the disk's bytes
abbrev pub IsAhead : ℕ → List ℕ → List ℕ → Type 0
IsAhead place bytes all = bytes ≡ take (length bytes) (drop place all)

-- calls that only read: the bytes do not change, nor what a crash may leave, now or since an earlier clock
pub record OnlyReads {D : Type 0} (content_of : D → Option (List ℕ)) (images_of : D → List ℕ → Type 0) (left_of : D → ℕ → List ℕ → Type 0)
    (clock_of : D → ℕ) (old new : D) : Type 0 where
  pub content : BothTold (content_of old) (content_of new) (λ old new. new ≡ old)
  pub images : Same (images_of old) (images_of new)
  pub left : SameSince (clock_of old) (left_of old) (left_of new)
