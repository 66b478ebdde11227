-- A view, at one moment, of what a command works on: its streams, the filed reports, and the disk.
use Rattle.std.specs.Prelude.{◌≡◌, ◌≤◌, ◌⊎◌, ℕ, Option, List}
use Rattle.disk_model.specs.Told.{BothTold}
use Rattle.ldar_law.specs.declared.report.Filed.{Filed}
use Rattle.ldar_ports.specs.Sink.{Piece}

-- the unread bytes, the written pieces with the output's count of errors, and the filed reports
pub record Streams : Type 0 where
  pub unread : Option (List ℕ)
  pub pieces : Option (List Piece)
  pub output_faults : ℕ
  pub filed : Option (List Filed)

-- the streams of an input, an output and a filing
abbrev pub streams : {S K F : Type 0} (unread_of : S → Option (List ℕ)) (pieces_of : K → Option (List Piece)) (output_faults_of : K → ℕ)
    (filed_of : F → Option (List Filed)) → S → K → F → Streams
streams unread_of pieces_of output_faults_of filed_of input output filing =
    record { unread = unread_of input; pieces = pieces_of output; output_faults = output_faults_of output; filed = filed_of filing }

-- the content of a disk, what a crash now may leave, what a crash since a clock may have left, its clock, and its count of errors
pub record SeenDisk : Type 1 where
  pub content : Option (List ℕ)
  pub images : List ℕ → Type 0
  pub left : ℕ → List ℕ → Type 0
  pub clock : ℕ
  pub faults : ℕ

-- the view of a disk
abbrev pub seen : {D : Type 0} (content_of : D → Option (List ℕ)) (images_of : D → List ℕ → Type 0) (left_of : D → ℕ → List ℕ → Type 0)
    (clock_of faults_of : D → ℕ) → D → SeenDisk
seen content_of images_of left_of clock_of faults_of disk = record {
  content = content_of disk;
  images = images_of disk;
  left = left_of disk;
  clock = clock_of disk;
  faults = faults_of disk;
}

-- nothing was read, and nothing was written
abbrev pub IsSilent : Streams → Streams → Type 0
IsSilent old new = (new.unread ≡ old.unread) × (new.pieces ≡ old.pieces)

-- for any clock to count from, an image that a crash may have left by the second moment was possible by the first, or is one of these
pub record MayLeave (old new : SeenDisk) (others : List ℕ → Type 0) : Type 0 where
  pub since : (t : ℕ) (image : List ℕ) → t ≤ old.clock → new.left t image → old.left t image ⊎ others image

-- the content is unchanged, and each image left is one that a crash could have left before
pub record LeavesAlone (old new : SeenDisk) : Type 0 where
  pub unchanged : BothTold old.content new.content (λ old new. new ≡ old)
  pub leaves : MayLeave old new old.images
