-- What a crash may leave of a disk in memory.
use Rattle.std.proofs.Common.{◌≡◌, ◌≤◌, ℕ, List, [], ◌∷◌, length, refl, sym, subst, arith}
use Rattle.disk_model.specs.MemoryDisk.{bytes_after, changes, change_of, after_event}
use Rattle.disk_model.specs.Moments.{Images}
use Rattle.disk_model.specs.declared.noted.Event.{Event}
use Rattle.disk_model.specs.declared.noted.Event.TheVariants.{Wrote, Synced}
use Rattle.disk_model.specs.declared.noted.Noted.{Noted}
use Rattle.disk_model.proofs.WriteLemmas.{written_torn}

-- the bytes after one more call, if those before it were an image
image_after : (start : List ℕ) (past : List Noted) (event : Event) → Images start (changes start past) (bytes_after start past)
    → Images start (change_of event (bytes_after start past) ∷ changes start past) (after_event event (bytes_after start past))
image_after start past (Wrote write) image =
    let all : length write.bytes ≤ length write.bytes = omega arith in
    (bytes_after start past, image, written_torn write.at (length write.bytes) write.bytes (bytes_after start past) all)
image_after start past Synced image = refl

-- the bytes that a read returns are one of the images
pub bytes_are_image : (start : List ℕ) (past : List Noted) → Images start (changes start past) (bytes_after start past)
bytes_are_image start [] = refl
bytes_are_image start (noted ∷ past) = image_after start past noted.event (bytes_are_image start past)

-- bytes equal to those that a read returns are an image
pub same_bytes_are_image : (start : List ℕ) (past : List Noted) (bytes : List ℕ) → bytes ≡ bytes_after start past → Images start (changes start past) bytes
same_bytes_are_image start past bytes is_content =
    let P : List ℕ → Type 0 = λ c. Images start (changes start past) c in
    subst P (sym is_content) (bytes_are_image start past)
