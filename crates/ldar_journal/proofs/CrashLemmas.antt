-- What a crash may leave over several calls of a disk.
use Rattle.std.proofs.Common.{◌≡◌, ◌⊎◌, inl, inr, ℕ, ◌+◌, ◌<◌, ◌≤◌, ◌^◌, ◌-◌, Option, Some, None, Result, Ok, Err, is_err, is_ok, true, false, IsOk}
use Rattle.std.proofs.Common.{MatchResult, List, length, refl, sym, ◌∙◌, ap, subst, arith}
use Rattle.std.proofs.lemmas.Bool.{false≢true}
use Rattle.disk_model.specs.Disk.{Torn}
use Rattle.disk_model.specs.Images.{Same, Only, Tears, Elapses, Roomy}
use Rattle.disk_model.specs.Told.{Told, BothTold}
use Rattle.disk_model.proofs.WriteLemmas.{torn_none}
use Rattle.ldar_journal.specs.Crash.{OnDisk, ComesFrom, LeavesOnly, AnswersInRoom, AnswersOverRoom}

-- after a write, whether it succeeded or not, a crash leaves what it left before, possibly torn in the range
pub torn_images : {T E : Type 0} (at n : ℕ) (old new : List ℕ → Type 0) (r : Result T E)
    → MatchResult r (λ _. Tears at n old new) (λ _. Tears at n old new ⊎ Same old new)
    → (image : List ℕ) → new image → ComesFrom (Torn at n) old image
torn_images at n old new (Ok v) tears image now = tears.only image now
torn_images at n old new (Err e) (inl tears) image now = tears.only image now
torn_images at n old new (Err e) (inr same) image now = (image, (same image).1 now, torn_none at n image)

-- after a sync, a crash leaves nothing that it could not leave before
pub synced_images : {T E : Type 0} (old new : List ℕ → Type 0) (r : Result T E)
    → MatchResult r (λ _. (c : List ℕ) → new c → old c) (λ _. Same old new) → (image : List ℕ) → new image → old image
synced_images old new (Ok v) fewer image now = fewer image now
synced_images old new (Err e) same image now = (same image).1 now

-- the images after a step are images after a weaker step
pub ComesFrom-weaker : (P Q : List ℕ → List ℕ → Type 0) (images : List ℕ → Type 0) → ((a b : List ℕ) → P a b → Q a b)
    → (image : List ℕ) → ComesFrom P images image → ComesFrom Q images image
ComesFrom-weaker P Q images weaker image from = (from.0, from.1, weaker from.0 image from.2)

-- fewer images before a step give fewer after it
pub ComesFrom-fewer : (P : List ℕ → List ℕ → Type 0) (some all : List ℕ → Type 0) → ((c : List ℕ) → some c → all c)
    → (image : List ℕ) → ComesFrom P some image → ComesFrom P all image
ComesFrom-fewer P some all fewer image from = (from.0, fewer from.0 from.1, from.2)

module _ {D : Type 0} (clock_of : D → ℕ) (left_of : D → ℕ → List ℕ → Type 0) where
  -- without a call, nothing is left
  pub LeavesOnly-stays : (d : D) (P : List ℕ → Type 0) → LeavesOnly clock_of left_of d d P
  LeavesOnly-stays d P = record { since = λ t image le left. inl left }

  pub LeavesOnly-weaker : (old new : D) (P Q : List ℕ → Type 0) → ((image : List ℕ) → P image → Q image)
      → LeavesOnly clock_of left_of old new P → LeavesOnly clock_of left_of old new Q
  LeavesOnly-weaker old new P Q weaker leaves = record {
    since = λ t image le left. elim (leaves.since t image le left) [ inl before ↦ inl before | inr may ↦ inr (weaker image may) ];
  }

  -- two stretches of calls are one
  pub LeavesOnly-joins : (a b c : D) (P : List ℕ → Type 0) → clock_of a ≤ clock_of b
      → LeavesOnly clock_of left_of a b P → LeavesOnly clock_of left_of b c P → LeavesOnly clock_of left_of a c P
  LeavesOnly-joins a b c P time first second = record {
    since = λ t image le left.
        elim (second.since t image (omega arith) left) [ inl before ↦ first.since t image le before | inr may ↦ inr may ];
  }

  -- a call of the disk leaves what a crash may leave at its end
  pub LeavesOnly-call : (images_of : D → List ℕ → Type 0) (old new : D) (P : List ℕ → Type 0)
      → Elapses clock_of images_of left_of old new → ((image : List ℕ) → images_of new image → P image)
      → LeavesOnly clock_of left_of old new P
  LeavesOnly-call images_of old new P elapses is = record {
    since = λ t image le left. elim (elapses.only t image le left) [ inl before ↦ inl before | inr now ↦ inr (is image now) ];
  }

  -- a read leaves nothing
  pub LeavesOnly-read : (old new : D) (P : List ℕ → Type 0)
      → ((t : ℕ) → t ≤ clock_of old → Same (left_of old t) (left_of new t)) → LeavesOnly clock_of left_of old new P
  LeavesOnly-read old new P same = record { since = λ t image le left. inl ((same t le image).1 left) }

module _ {D : Type 0} (room_of : D → Option ℕ) (clock_of : D → ℕ) where
  -- one call
  pub AnswersInRoom-call : (old new : D) (P Q : ℕ → Type 0) → ((room : ℕ) → clock_of old + 1 < 2 ^ 64 → P room → Q room)
      → Roomy room_of clock_of old new P → AnswersInRoom room_of clock_of 1 old new Q
  AnswersInRoom-call old new P Q keeps roomy = record {
    stays = roomy.stays;
    steps = roomy.step;
    answers = λ room told below. keeps room below (roomy.answers room told);
  }

  -- several calls
  pub AnswersInRoom-joins : (m n : ℕ) (a b c : D) (P Q R : ℕ → Type 0) → ((room : ℕ) → P room → Q room → R room)
      → AnswersInRoom room_of clock_of m a b P → AnswersInRoom room_of clock_of n b c Q → AnswersInRoom room_of clock_of (m + n) a c R
  AnswersInRoom-joins m n a b c P Q R both first second = record {
    stays = second.stays ∙ first.stays;
    steps = λ room told.
        let one = first.steps room told in
        let two = second.steps room (first.stays ∙ told) in
        omega arith;
    answers = λ room told below.
        let one = first.steps room told in
        both room (first.answers room told (omega arith)) (second.answers room (first.stays ∙ told) (omega arith));
  }

  -- fewer calls, and a weaker promise
  pub AnswersInRoom-weaker : (m n : ℕ) (old new : D) (P Q : ℕ → Type 0) → m ≤ n → ((room : ℕ) → P room → Q room)
      → AnswersInRoom room_of clock_of m old new P → AnswersInRoom room_of clock_of n old new Q
  AnswersInRoom-weaker m n old new P Q le weaker answers = record {
    stays = answers.stays;
    steps = λ room told. let steps = answers.steps room told in omega arith;
    answers = λ room told below. weaker room (answers.answers room told (omega arith));
  }

module _ {D : Type 0} (room_of : D → Option ℕ) where
  -- without a call
  pub AnswersOverRoom-stays : (d : D) (P : Type 0) → P → AnswersOverRoom room_of d d P
  AnswersOverRoom-stays d P kept = record { stays = refl; answers = λ room told. kept }

  -- one call
  pub AnswersOverRoom-call : (clock_of : D → ℕ) (old new : D) (P : ℕ → Type 0) (Q : Type 0) → ((room : ℕ) → P room → Q)
      → Roomy room_of clock_of old new P → AnswersOverRoom room_of old new Q
  AnswersOverRoom-call clock_of old new P Q keeps roomy =
      record { stays = roomy.stays; answers = λ room told. keeps room (roomy.answers room told) }

  -- several calls
  pub AnswersOverRoom-joins : (a b c : D) (P Q R : Type 0) → (P → Q → R)
      → AnswersOverRoom room_of a b P → AnswersOverRoom room_of b c Q → AnswersOverRoom room_of a c R
  AnswersOverRoom-joins a b c P Q R both first second = record {
    stays = second.stays ∙ first.stays;
    answers = λ room told. both (first.answers room told) (second.answers room (first.stays ∙ told));
  }

  -- a weaker promise
  pub AnswersOverRoom-weaker : (old new : D) (P Q : Type 0) → (P → Q) → AnswersOverRoom room_of old new P → AnswersOverRoom room_of old new Q
  AnswersOverRoom-weaker old new P Q weaker answers =
      record { stays = answers.stays; answers = λ room told. weaker (answers.answers room told) }

-- a result that is `Ok` is no error
pub not_err : {T E : Type 0} (r : Result T E) → is_err r ≡ true → IsOk r → ⊥
not_err (Ok v) err ok = absurd (false≢true err)
not_err (Err e) err ok = absurd (false≢true ok)

-- ---- properties of a disk's bytes and images

-- a weaker property
pub OnDisk-weaker : (P Q : List ℕ → Type 0) → ((image : List ℕ) → P image → Q image)
    → (content : Option (List ℕ)) (images : List ℕ → Type 0) → OnDisk content images P → OnDisk content images Q
OnDisk-weaker P Q weaker None images stands = tt
OnDisk-weaker P Q weaker (Some bytes) images stands = (weaker bytes stands.0, λ image now. weaker image (stands.1 image now))

-- if the bytes are stable, a property of the bytes holds on the disk
pub OnDisk-stable : (P : List ℕ → Type 0) → (content : Option (List ℕ)) (images : List ℕ → Type 0)
    → Told content P → Told content (λ bytes. Only bytes images) → OnDisk content images P
OnDisk-stable P None images told stable = tt
OnDisk-stable P (Some bytes) images told stable = (told, λ image now. subst P (sym (stable.no_other image now)) told)

-- a property on the disk holds for the bytes
pub OnDisk-content : (P : List ℕ → Type 0) → (content : Option (List ℕ)) (images : List ℕ → Type 0) → OnDisk content images P → Told content P
OnDisk-content P None images stands = tt
OnDisk-content P (Some bytes) images stands = stands.0

-- a property after a step of the bytes and of each image
pub OnDisk-after : (P Q : List ℕ → Type 0) (step : List ℕ → List ℕ → Type 0) → ((a b : List ℕ) → P a → step a b → Q b)
    → (old new : Option (List ℕ)) (images images' : List ℕ → Type 0) → OnDisk old images P → BothTold old new step
    → ((image : List ℕ) → images' image → ComesFrom step images image) → OnDisk new images' Q
OnDisk-after P Q step after None None images images' stands steps from = tt
OnDisk-after P Q step after None (Some new) images images' stands steps from = absurd steps
OnDisk-after P Q step after (Some old) None images images' stands steps from = absurd steps
OnDisk-after P Q step after (Some old) (Some new) images images' stands steps from = (
  after old new stands.0 steps,
  λ image now. let source = from image now in after source.0 image (stands.1 source.0 source.1) source.2,
)

-- a property still holds if the bytes do not change and a crash leaves no more
pub OnDisk-fewer : (P : List ℕ → Type 0) → (old new : Option (List ℕ)) (images images' : List ℕ → Type 0) → OnDisk old images P
    → BothTold old new (λ old new. new ≡ old) → ((image : List ℕ) → images' image → images image) → OnDisk new images' P
OnDisk-fewer P None None images images' stands same fewer = tt
OnDisk-fewer P None (Some new) images images' stands same fewer = absurd same
OnDisk-fewer P (Some old) None images images' stands same fewer = absurd same
OnDisk-fewer P (Some old) (Some new) images images' stands same fewer =
    (subst P (sym same) stands.0, λ image now. stands.1 image (fewer image now))

-- an image after a step from one on a disk whose images have P, if the disk exposes its bytes
pub told_image : (P Q : List ℕ → Type 0) (step : List ℕ → List ℕ → Type 0) → ((a b : List ℕ) → P a → step a b → Q b)
    → (content : Option (List ℕ)) (images : List ℕ → Type 0) → OnDisk content images P
    → (image : List ℕ) → ComesFrom step images image → Told content (λ _. Q image)
told_image P Q step after None images stands image from = tt
told_image P Q step after (Some bytes) images stands image from = after from.0 image (stands.1 from.0 from.1) from.2

-- a property under the condition that the disk exposes its bytes, before and after a step
pub told_before : (P : Type 0) (step : List ℕ → List ℕ → Type 0) (old new : Option (List ℕ)) → BothTold old new step → Told new (λ _. P) → Told old (λ _. P)
told_before P step None new steps told = tt
told_before P step (Some old) None steps told = absurd steps
told_before P step (Some old) (Some new) steps told = told

-- stable bytes are still stable after reads
pub Only-stays : (old new : Option (List ℕ)) (images images' : List ℕ → Type 0) → BothTold old new (λ old new. new ≡ old) → Same images images'
    → Told old (λ bytes. Only bytes images) → Told new (λ bytes. Only bytes images')
Only-stays None None images images' same_bytes same stable = tt
Only-stays None (Some new) images images' same_bytes same stable = absurd same_bytes
Only-stays (Some old) None images images' same_bytes same stable = absurd same_bytes
Only-stays (Some old) (Some new) images images' same_bytes same stable = record {
  itself = (same new).0 (subst images (sym same_bytes) stable.itself);
  no_other = λ image now. stable.no_other image ((same image).1 now) ∙ sym same_bytes;
}
