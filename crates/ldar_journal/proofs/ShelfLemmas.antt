-- What an append does to the bytes of a journal, step by step.
use Rattle.std.proofs.Common.{◌≡◌, ◌≢◌, ◌⊎◌, inl, inr, ℕ, ◌+◌, ◌*◌, ◌-◌, ◌<◌, ◌≤◌, Option, Result, Ok, Err, OnOk, is_err, false, List, [], ◌∷◌, ◌++◌, length}
use Rattle.std.proofs.Common.{take, drop, get_or, slice_index, refl, sym, ◌∙◌, ap, ap₂, subst, arith, append_assoc, length-append, length-drop}
use Rattle.std.proofs.lemmas.Bool.{cases_eq, false≢true}
use Rattle.std.proofs.lemmas.List.Sums.{sum_by-append}
use Rattle.std.proofs.Math.Seq.{drop-append_seam}
use Rattle.std.proofs.lemmas.List.{drop-drop, get_or-take, take-take}
use Rattle.disk_model.specs.Disk.{Torn}
use Rattle.disk_model.specs.Images.{Only}
use Rattle.disk_model.specs.Told.{Told, BothTold}
use Rattle.disk_model.proofs.ToldLemmas.{Told-after, Told-weaker, Told-both}
use Rattle.fact_kinds.specs.declared.batch.Batch.{Batch}
use Rattle.fact_kinds.specs.Fields.{big_endian}
use Rattle.ldar_journal.specs.Image.{payload, frame, batches_of, end_of, IsFrame, IsFront, IsKept, EndsAt, OpensTo}
use Rattle.ldar_journal.specs.Damage.{IsDamagedAt}
use Rattle.ldar_journal.specs.FrameAt.{IsFrameOf}
use Rattle.ldar_journal.specs.Crash.{OnDisk, ComesFrom, LeavesOnly}
use Rattle.ldar_journal.specs.Gates.{HoldsBehind, WritesBehind, WritesGate}
use Rattle.ldar_journal.specs.Shelf.{Shelf, behind_gate, IsInDoubt, Stands, IsCounted, IsTorn, IsDoubt, IsShelved, OpensAs, OpensToEither, OpensEither}
use Rattle.ldar_journal.proofs.CrashLemmas.{ComesFrom-weaker, LeavesOnly-weaker, LeavesOnly-joins, OnDisk-weaker, OnDisk-stable, OnDisk-content, OnDisk-after}
use Rattle.ldar_journal.proofs.CrashLemmas.{OnDisk-fewer, told_image, told_before}
use Rattle.ldar_journal.proofs.FrameLemmas.{AllByRecursion-push}
use Rattle.ldar_journal.proofs.GateLemmas.{Torn-behind, Torn-gate}
use Rattle.ldar_journal.proofs.Frames.{length-payload}
use Rattle.ldar_journal.proofs.Histories.{at_place, batches_of-push, front_grows, IsKept-front, damaged_opens_to_none, end_of-push, end_of-fits}

-- the length of the bytes after a frame's gate
length-behind_gate : (batches : List Batch) → length (behind_gate batches) ≡ length (frame batches)
length-behind_gate batches = omega (arith, length-append (payload batches) (0 ∷ []))

-- once the gate is open, the frame is kept, and a closed gate is after it
pub opened : (bytes : List ℕ) (place : ℕ) (frames : List (List Batch)) (batches : List Batch) → IsInDoubt bytes place frames batches → get_or bytes place 0 ≡ 1
    → EndsAt bytes (place + length (behind_gate batches)) (frames ++ batches ∷ [])
opened bytes place frames batches stands open_gate =
    let used = length (frame batches) in
    let whole : drop place bytes ≡ frame batches ++ 0 ∷ stands.rest =
    at_place bytes place stands.within ∙ ap₂ (λ (gate : ℕ) (l : List ℕ). gate ∷ l) open_gate stands.stands
    ∙ ap (λ (l : List ℕ). 1 ∷ (big_endian 4 (length (payload batches)) ++ l)) (append_assoc (payload batches) (0 ∷ []) stands.rest) in
    let after : drop used (drop place bytes) ≡ 0 ∷ stands.rest = ap (drop used) whole ∙ drop-append_seam (frame batches) (0 ∷ stands.rest) in
    let long : length bytes - place ≡ used + length (0 ∷ stands.rest) = sym (length-drop place bytes) ∙ ap length whole
    ∙ length-append (frame batches) (0 ∷ stands.rest) in
    let is_frame : IsFrameOf (drop place bytes) batches used = record {
      is = stands.is;
      used_is = refl;
      within = omega (arith, length-drop place bytes);
      stands = whole ∙ ap (λ (l : List ℕ). frame batches ++ l) (sym after);
    } in
    let within : place + used < length bytes = omega (arith, stands.within) in
    let gate : get_or bytes (place + used) 0 ≡ 0 = shut_gate (sym (at_place bytes (place + used) within) ∙ drop_twice ∙ after) in
    rw (length-behind_gate batches) (record {
      within = within;
      front = front_grows bytes place used frames batches stands.front is_frame;
      closed = zero_is_not_one (get_or bytes (place + used) 0) gate;
      kept = subst IsKept (sym (batches_of-push frames batches)) stands.kept;
    })
  where
    drop_twice : drop (place + length (frame batches)) bytes ≡ drop (length (frame batches)) (drop place bytes)
    drop_twice = sym (drop-drop (length (frame batches)) place bytes)

    shut_gate : {a b : ℕ} {x y : List ℕ} → a ∷ x ≡ b ∷ y → a ≡ b
    shut_gate e = cc

    zero_is_not_one : (n : ℕ) → n ≡ 0 → n ≡ 1 → ⊥
    zero_is_not_one n zero one = omega arith

-- bytes that open to frames, or have a frame in doubt after them, open to one of the two
pub Stands-opens : (bytes : List ℕ) (place : ℕ) (frames : List (List Batch)) (doubt : List Batch) → Stands bytes place frames doubt
    → OpensToEither bytes frames doubt
Stands-opens bytes place frames [] ends = inl (place, ends)
Stands-opens bytes place frames (b ∷ doubt) stands = in_doubt (cases_eq (get_or bytes place 0) 1)
  where
    in_doubt : (get_or bytes place 0 ≡ 1) ⊎ (get_or bytes place 0 ≢ 1) → OpensToEither bytes frames (b ∷ doubt)
    in_doubt (inl open_gate) = inr (place + length (behind_gate (b ∷ doubt)), opened bytes place frames (b ∷ doubt) stands open_gate)
    in_doubt (inr shut) = inl (
      place,
      record {
        within = stands.within;
        front = stands.front;
        closed = shut;
        kept =
            IsKept-front (batches_of frames) (b ∷ doubt) stands.kept;
      },
    )

-- bytes after the gate that ends a journal do not change its frames
pub put_behind_stays : (gate : ℕ) (frames : List (List Batch)) (old new : List ℕ) → EndsAt old gate frames → WritesBehind gate old new → EndsAt new gate frames
put_behind_stays gate frames old new ends puts =
    let put = puts ends.within in
    let front : take gate new ≡ take gate old = take_gate new ∙ ap (take gate) put.front ∙ sym (take_gate old) in
    let byte : get_or new gate 0 ≡ get_or old gate 0 = sym (get_or-take (gate + 1) new gate 0 (omega arith)) ∙ ap (λ (l : List ℕ). get_or l gate 0) put.front
    ∙ get_or-take (gate + 1) old gate 0 (omega arith) in
    record {
      within = put.within;
      front = subst (λ (l : List ℕ). IsFront l frames) (sym front) ends.front;
      closed = λ e. ends.closed (sym byte ∙ e);
      kept = ends.kept;
    }
  where
    take_gate : (l : List ℕ) → take gate l ≡ take gate (take (gate + 1) l)
    take_gate l = sym (take-take gate (gate + 1) l (omega arith))

-- a frame whose gate is being opened is in doubt
pub put_in_doubt : (gate : ℕ) (frames : List (List Batch)) (batches : List Batch) → IsFrame batches → IsKept (batches_of frames ++ batches) → (old new : List ℕ)
    → EndsAt old gate frames × HoldsBehind gate (behind_gate batches) old → WritesGate gate old new → IsInDoubt new gate frames batches
put_in_doubt gate frames batches is kept old new both sames =
    let ends = both.0 in
    let holds = both.1 in
    let same = sames ends.within in
    record {
      within = same.within;
      front = subst (λ (l : List ℕ). IsFront l frames) (sym same.front) ends.front;
      is = is;
      kept = kept;
      rest = holds.rest;
      stands = same.behind ∙ holds.stands;
    }

-- a frame in doubt has a batch
pub Stands-doubt : (bytes : List ℕ) (place : ℕ) (frames : List (List Batch)) (batches : List Batch) → 0 < length batches
    → IsInDoubt bytes place frames batches → Stands bytes place frames batches
Stands-doubt bytes place frames [] some stands = absurd (omega arith)
Stands-doubt bytes place frames (b ∷ batches) some stands = stands

-- bytes in a journal's state open as the journal describes
pub Stands-as : (bytes : List ℕ) (place : ℕ) (frames : List (List Batch)) (doubt : List Batch) → Stands bytes place frames doubt → OpensAs bytes frames doubt
Stands-as bytes place frames [] ends = (place, ends)
Stands-as bytes place frames (b ∷ doubt) stands = Stands-opens bytes place frames (b ∷ doubt) stands

-- bytes that end at a closed gate have nothing in doubt
pub Stands-none : (bytes : List ℕ) (place : ℕ) (frames : List (List Batch)) (doubt : List Batch) → doubt ≡ [] → Stands bytes place frames doubt
    → EndsAt bytes place frames
Stands-none bytes place frames doubt none stands = subst (λ (d : List Batch). Stands bytes place frames d) none stands

-- with nothing in doubt, the bytes open only to the frames
pub OpensAs-none : (bytes : List ℕ) (frames : List (List Batch)) (doubt : List Batch) → doubt ≡ [] → OpensAs bytes frames doubt → OpensTo bytes frames
OpensAs-none bytes frames doubt none opens = subst (λ (d : List Batch). OpensAs bytes frames d) none opens

-- the place of the next gate, after one more frame
pub IsCounted-push : (place : ℕ) (frames : List (List Batch)) (batches : List Batch) → IsFrame batches → IsKept (batches_of frames ++ batches)
    → IsCounted place frames
    → IsCounted (place + length (behind_gate batches)) (frames ++ batches ∷ [])
IsCounted-push place frames batches is kept counted = record {
  each = AllByRecursion-push IsFrame frames batches counted.each is;
  kept = subst IsKept (sym (batches_of-push frames batches)) kept;
  at_end = omega (arith, counted.at_end, end_of-push frames batches, length-behind_gate batches);
}

-- a gate, and what an append writes after it, is far below 2^63
pub IsCounted-fits : (place : ℕ) (frames : List (List Batch)) → IsCounted place frames → place ≤ 16 + 188_565 * 8_000_000
IsCounted-fits place frames counted = let fits = end_of-fits frames counted.each in omega (arith, counted.at_end, counted.kept.fits)

pub behind_gate-fits : (batches : List Batch) → IsFrame batches → length (behind_gate batches) ≤ 188_565
behind_gate-fits batches is = let long = length-payload batches is.each in omega (arith, is.fits, length-append (payload batches) (0 ∷ []))

-- no frame is in doubt exactly if `torn` is 0
pub IsDoubt-none : (frames : List (List Batch)) (doubt : List Batch) (torn : ℕ) → IsDoubt frames doubt torn → torn ≡ 0 → doubt ≡ []
IsDoubt-none frames [] torn is none = refl
IsDoubt-none frames (b ∷ doubt) torn is none = absurd (omega (arith, is.long, length-append (payload (b ∷ doubt)) (0 ∷ [])))

pub IsDoubt-some : (frames : List (List Batch)) (doubt : List Batch) (torn : ℕ) → IsDoubt frames doubt torn → 0 < torn → doubt ≢ []
IsDoubt-some frames [] torn is some = absurd (omega (arith, is))
IsDoubt-some frames (b ∷ doubt) torn is some = λ e. cc

-- the frame in doubt
pub IsDoubt-is : (frames : List (List Batch)) (doubt : List Batch) (torn : ℕ) → IsDoubt frames doubt torn → doubt ≢ [] → IsTorn frames doubt torn
IsDoubt-is frames [] torn is some = absurd (some refl)
IsDoubt-is frames (b ∷ doubt) torn is some = is

-- a frame that may be kept is in doubt
pub IsDoubt-of : (frames : List (List Batch)) (batches : List Batch) (torn : ℕ) → IsTorn frames batches torn → IsDoubt frames batches torn
IsDoubt-of frames [] torn is = let some = is.is.some in absurd (omega arith)
IsDoubt-of frames (b ∷ batches) torn is = is

-- nothing is in doubt after any frames
pub IsDoubt-anywhere : (frames others : List (List Batch)) (doubt : List Batch) (torn : ℕ) → doubt ≡ [] → IsDoubt frames doubt torn → IsDoubt others doubt torn
IsDoubt-anywhere frames others [] torn none is = is
IsDoubt-anywhere frames others (b ∷ doubt) torn none is = absurd cc

-- stable bytes that end at a closed gate are a journal
pub IsShelved-opened : (content : Option (List ℕ)) (images : List ℕ → Type 0) (place : ℕ) (frames : List (List Batch))
    → Told content (λ bytes. EndsAt bytes place frames) → Told content (λ bytes. Only bytes images) → IsCounted place frames
    → IsShelved content images place frames [] 0
IsShelved-opened content images place frames ends stable counted = record {
  stands = OnDisk-stable (λ image. EndsAt image place frames) content images ends stable;
  counted = counted;
  in_doubt = refl;
}

-- the bytes and the images of a journal open as the journal describes
pub IsShelved-as : (content : Option (List ℕ)) (images : List ℕ → Type 0) (place : ℕ) (frames : List (List Batch)) (doubt : List Batch) (torn : ℕ)
    → IsShelved content images place frames doubt torn → OnDisk content images (λ image. OpensAs image frames doubt)
IsShelved-as content images place frames doubt torn shelved =
    OnDisk-weaker (λ image. Stands image place frames doubt) (λ image. OpensAs image frames doubt) (λ image. Stands-as image place frames doubt) content
    images shelved.stands

-- the bytes of a journal open to its frames, with or without the one in doubt
pub IsShelved-opens : (content : Option (List ℕ)) (images : List ℕ → Type 0) (place : ℕ) (frames : List (List Batch)) (doubt : List Batch) (torn : ℕ)
    → IsShelved content images place frames doubt torn → Told content (λ bytes. OpensToEither bytes frames doubt)
IsShelved-opens content images place frames doubt torn shelved =
    OnDisk-content (λ image. OpensToEither image frames doubt) content images
    (OnDisk-weaker (λ image. Stands image place frames doubt) (λ image. OpensToEither image frames doubt) (λ image. Stands-opens image place frames doubt)
    content images shelved.stands)

-- a settled journal with a frame to append
pub record IsReady (content : Option (List ℕ)) (images : List ℕ → Type 0) (gate : ℕ) (frames : List (List Batch)) (doubt batches : List Batch)
    (torn : ℕ) : Type 0 where
  pub ends : OnDisk content images (λ image. EndsAt image gate frames)
  pub none : doubt ≡ []
  pub in_doubt : IsDoubt frames doubt torn
  pub is : IsFrame batches
  pub kept : IsKept (batches_of frames ++ batches)
  pub counted : IsCounted gate frames

-- a journal in contracts
abbrev seen : {D : Type 0} → D → List (List Batch) → List Batch → Shelf D
seen disk frames doubt = record { disk = disk; frames = frames; doubt = doubt }

-- a settled journal in contracts, with a frame that may be kept
pub ready : {D : Type 0} (content_of : D → Option (List ℕ)) (images_of : D → List ℕ → Type 0) (disk : D) (gate : ℕ) (frames : List (List Batch))
    (doubt batches : List Batch) (torn : ℕ) (as_seen : Shelf D)
    → seen disk frames doubt ≡ as_seen → IsShelved (content_of disk) (images_of disk) gate frames doubt torn → as_seen.doubt ≡ [] → IsFrame batches
    → IsKept (batches_of as_seen.frames ++ batches)
    → IsReady (content_of disk) (images_of disk) gate frames doubt batches torn
ready content_of images_of disk gate frames doubt batches torn as_seen is_seen shelved settled is kept =
    let none : doubt ≡ [] = ap (λ shelf. shelf.doubt) is_seen ∙ settled in
    record {
      ends =
          OnDisk-weaker (λ image. Stands image gate frames doubt) (λ image. EndsAt image gate frames) (λ image. Stands-none image gate frames doubt none)
          (content_of disk) (images_of disk) shelved.stands;
      none = none;
      in_doubt = shelved.in_doubt;
      is = is;
      kept = subst (λ (l : List (List Batch)). IsKept (batches_of l ++ batches)) (sym (ap (λ shelf. shelf.frames) is_seen)) kept;
      counted = shelved.counted;
    }

-- the bytes after the frame is written after the gate, and while its gate is opened
abbrev IsPut : ℕ → List (List Batch) → List Batch → List ℕ → Type 0
IsPut gate frames batches image = EndsAt image gate frames × HoldsBehind gate (behind_gate batches) image

-- bytes that end at a closed gate open to its frames, whatever may be appended
ends_either : (gate : ℕ) (frames : List (List Batch)) (batches : List Batch) (image : List ℕ) → EndsAt image gate frames → OpensToEither image frames batches
ends_either gate frames batches image ends = inl (gate, ends)

module _ {D : Type 0} (clock_of : D → ℕ) (left_of : D → ℕ → List ℕ → Type 0) (images_of : D → List ℕ → Type 0) (content_of : D → Option (List ℕ))
    (old : D) (gate : ℕ) (frames : List (List Batch)) (doubt batches : List Batch) (torn : ℕ)
    (is_ready : IsReady (content_of old) (images_of old) gate frames doubt batches torn) where
  -- what a crash may leave at any moment of the append
  abbrev May : List ℕ → Type 0
  May image = Told (content_of old) (λ _. OpensToEither image frames batches)

  module _ (middle : D) (n : ℕ)
      (puts : BothTold (content_of old) (content_of middle) (WritesBehind gate))
      (from_old : (image : List ℕ) → images_of middle image → ComesFrom (Torn (gate + 1) n) (images_of old) image)
      (put_leaves : LeavesOnly clock_of left_of old middle (ComesFrom (Torn (gate + 1) n) (images_of old))) where
    -- the frames are unchanged, whatever was written after their gate
    stays : OnDisk (content_of middle) (images_of middle) (λ image. EndsAt image gate frames)
    stays =
        OnDisk-after (λ image. EndsAt image gate frames) (λ image. EndsAt image gate frames) (WritesBehind gate) (put_behind_stays gate frames)
        (content_of old) (content_of middle) (images_of old) (images_of middle) is_ready.ends puts
        (λ image now. ComesFrom-weaker (Torn (gate + 1) n) (WritesBehind gate) (images_of old) (Torn-behind gate n) image (from_old image now))

    -- an error after the gate leaves the journal as it was
    pub IsShelved-shut : IsShelved (content_of middle) (images_of middle) gate frames doubt torn
    IsShelved-shut = record {
      stands =
          OnDisk-weaker (λ image. EndsAt image gate frames) (λ image. Stands image gate frames doubt)
          (λ image ends. subst (λ (d : List Batch). Stands image gate frames d) (sym is_ready.none) ends) (content_of middle) (images_of middle) stays;
      counted = is_ready.counted;
      in_doubt = is_ready.in_doubt;
    }

    -- until then a crash leaves only the frames
    pub put_leaves_frames : LeavesOnly clock_of left_of old middle (λ image. Told (content_of old) (λ _. OpensTo image frames))
    put_leaves_frames =
        LeavesOnly-weaker clock_of left_of old middle (ComesFrom (Torn (gate + 1) n) (images_of old))
        (λ image. Told (content_of old) (λ _. OpensTo image frames))
        (told_image (λ image. EndsAt image gate frames) (λ image. OpensTo image frames) (Torn (gate + 1) n)
        (λ a b ends torn. (gate, put_behind_stays gate frames a b ends (Torn-behind gate n a b torn)))
        (content_of old) (images_of old) is_ready.ends) put_leaves

    -- until then a crash leaves the frames
    pub put_moments : LeavesOnly clock_of left_of old middle May
    put_moments =
        LeavesOnly-weaker clock_of left_of old middle (ComesFrom (Torn (gate + 1) n) (images_of old)) May
        (told_image (λ image. EndsAt image gate frames) (λ image. OpensToEither image frames batches) (Torn (gate + 1) n)
        (λ a b ends torn. ends_either gate frames batches b (put_behind_stays gate frames a b ends (Torn-behind gate n a b torn)))
        (content_of old) (images_of old) is_ready.ends) put_leaves

    module _ (new : D)
        (holds : BothTold (content_of old) (content_of middle) (λ old new. gate < length old → HoldsBehind gate (behind_gate batches) new))
        (stable : Told (content_of middle) (λ bytes. Only bytes (images_of middle)))
        (opens : BothTold (content_of middle) (content_of new) (WritesGate gate))
        (from_middle : (image : List ℕ) → images_of new image → ComesFrom (Torn gate 1) (images_of middle) image) where
      -- the frame is after the gate in everything that a crash may leave
      put : OnDisk (content_of middle) (images_of middle) (IsPut gate frames batches)
      put =
          OnDisk-stable (IsPut gate frames batches) (content_of middle) (images_of middle)
          (Told-both (λ bytes. EndsAt bytes gate frames) (λ bytes. HoldsBehind gate (behind_gate batches) bytes) (content_of middle)
          (OnDisk-content (λ image. EndsAt image gate frames) (content_of middle) (images_of middle) stays)
          (Told-after (λ bytes. EndsAt bytes gate frames) (λ bytes. HoldsBehind gate (behind_gate batches) bytes)
          (λ old new. gate < length old → HoldsBehind gate (behind_gate batches) new)
          (λ old new ends holds. holds ends.within) (content_of old) (content_of middle)
          (OnDisk-content (λ image. EndsAt image gate frames) (content_of old) (images_of old) is_ready.ends) holds))
          stable

      -- the frame is in doubt while its gate is opened
      in_doubt : OnDisk (content_of new) (images_of new) (λ image. IsInDoubt image gate frames batches)
      in_doubt =
          OnDisk-after (IsPut gate frames batches) (λ image. IsInDoubt image gate frames batches) (WritesGate gate)
          (put_in_doubt gate frames batches is_ready.is is_ready.kept) (content_of middle) (content_of new) (images_of middle) (images_of new) put opens
          (λ image now. ComesFrom-weaker (Torn gate 1) (WritesGate gate) (images_of middle) (Torn-gate gate) image (from_middle image now))

      -- an error at the gate leaves the frame in doubt
      pub IsShelved-torn : IsShelved (content_of new) (images_of new) gate frames batches (length (behind_gate batches))
      IsShelved-torn = record {
        stands =
            OnDisk-weaker (λ image. IsInDoubt image gate frames batches) (λ image. Stands image gate frames batches)
            (λ image. Stands-doubt image gate frames batches is_ready.is.some) (content_of new) (images_of new) in_doubt;
        counted = is_ready.counted;
        in_doubt = IsDoubt-of frames batches (length (behind_gate batches)) (record { is = is_ready.is; kept = is_ready.kept; long = refl });
      }

      -- the frame in doubt is at the end of the frames
      pub doubt_at_end : OnDisk (content_of new) (images_of new) (λ image. IsInDoubt image (end_of frames) frames batches)
      doubt_at_end = subst (λ (n : ℕ). OnDisk (content_of new) (images_of new) (λ image. IsInDoubt image n frames batches)) is_ready.counted.at_end in_doubt

      -- once the open gate is stable, the frame is kept
      pub IsShelved-appended : BothTold (content_of middle) (content_of new) (λ old new. gate < length old → slice_index new gate ≡ 1)
          → Told (content_of new) (λ bytes. Only bytes (images_of new))
          → IsShelved (content_of new) (images_of new) (gate + length (behind_gate batches)) (frames ++ batches ∷ []) doubt torn
      IsShelved-appended gates stable_new =
          let gate_is = Told-after (IsPut gate frames batches) (λ bytes. slice_index bytes gate ≡ 1) (λ old new. gate < length old → slice_index new gate ≡ 1)
          (λ old new is_put is_open. is_open is_put.0.within) (content_of middle) (content_of new)
          (OnDisk-content (IsPut gate frames batches) (content_of middle) (images_of middle) put) gates in
          let stands = Told-weaker (λ bytes. IsInDoubt bytes gate frames batches × (slice_index bytes gate ≡ 1))
          (λ bytes. Stands bytes (gate + length (behind_gate batches)) (frames ++ batches ∷ []) doubt)
          (λ bytes both. subst (λ (d : List Batch). Stands bytes (gate + length (behind_gate batches)) (frames ++ batches ∷ []) d) (sym is_ready.none)
          (opened bytes gate frames batches both.0 both.1))
          (content_of new) (Told-both (λ bytes. IsInDoubt bytes gate frames batches) (λ bytes. slice_index bytes gate ≡ 1) (content_of new)
          (OnDisk-content (λ image. IsInDoubt image gate frames batches) (content_of new) (images_of new) in_doubt) gate_is) in
          record {
            stands = OnDisk-stable (λ image. Stands image (gate + length (behind_gate batches)) (frames ++ batches ∷ []) doubt) (content_of new)
                (images_of new) stands stable_new;
            counted = IsCounted-push gate frames batches is_ready.is is_ready.kept is_ready.counted;
            in_doubt = IsDoubt-anywhere frames (frames ++ batches ∷ []) doubt torn is_ready.none is_ready.in_doubt;
          }

      -- at any moment of the whole call a crash leaves the frames, or the frames and the new one
      pub append_moments : clock_of old ≤ clock_of middle → LeavesOnly clock_of left_of middle new (ComesFrom (Torn gate 1) (images_of middle))
          → LeavesOnly clock_of left_of old new May
      append_moments time open_leaves =
          LeavesOnly-joins clock_of left_of old middle new May time put_moments
          (LeavesOnly-weaker clock_of left_of middle new (ComesFrom (Torn gate 1) (images_of middle)) May
          (λ image from. told_before (OpensToEither image frames batches) (WritesBehind gate) (content_of old) (content_of middle) puts
          (told_image (IsPut gate frames batches) (λ image. OpensToEither image frames batches) (Torn gate 1)
          (λ a b is_put torn. Stands-opens b gate frames batches
          (Stands-doubt b gate frames batches is_ready.is.some
          (put_in_doubt gate frames batches is_ready.is is_ready.kept a b is_put (Torn-gate gate a b torn))))
          (content_of middle) (images_of middle) put image from)) open_leaves)

-- if the frame fits into the room, so do its parts
pub room_of_parts : (gate : ℕ) (frames : List (List Batch)) (batches : List Batch) → IsCounted gate frames
    → gate + 1 + length (behind_gate batches) ≡ end_of (frames ++ batches ∷ []) + 1
room_of_parts gate frames batches counted = omega (arith, counted.at_end, end_of-push frames batches, length-behind_gate batches)

-- ---- settling

-- a journal is unchanged if its bytes are and a crash leaves no more
pub IsShelved-fewer : (old new : Option (List ℕ)) (images images' : List ℕ → Type 0) (place : ℕ) (frames : List (List Batch)) (doubt : List Batch) (torn : ℕ)
    → IsShelved old images place frames doubt torn → BothTold old new (λ old new. new ≡ old) → ((image : List ℕ) → images' image → images image)
    → IsShelved new images' place frames doubt torn
IsShelved-fewer old new images images' place frames doubt torn shelved same fewer = record {
  stands = OnDisk-fewer (λ image. Stands image place frames doubt) old new images images' shelved.stands same fewer;
  counted = shelved.counted;
  in_doubt = shelved.in_doubt;
}

-- the frame in doubt, if there is one
Stands-some : (bytes : List ℕ) (place : ℕ) (frames : List (List Batch)) (doubt : List Batch) → doubt ≢ [] → Stands bytes place frames doubt
    → IsInDoubt bytes place frames doubt
Stands-some bytes place frames [] some stands = absurd (some refl)
Stands-some bytes place frames (b ∷ doubt) some stands = stands

module _ (content : Option (List ℕ)) (images : List ℕ → Type 0) (place : ℕ) (frames : List (List Batch)) (doubt : List Batch) (torn : ℕ)
    (shelved : IsShelved content images place frames doubt torn) (some : doubt ≢ []) (stable : Told content (λ bytes. Only bytes images)) where
  is_torn : IsTorn frames doubt torn
  is_torn = IsDoubt-is frames doubt torn shelved.in_doubt some

  doubted : Told content (λ bytes. IsInDoubt bytes place frames doubt)
  doubted = Told-weaker (λ bytes. Stands bytes place frames doubt) (λ bytes. IsInDoubt bytes place frames doubt)
      (λ bytes. Stands-some bytes place frames doubt some) content
      (OnDisk-content (λ image. Stands image place frames doubt) content images shelved.stands)

  -- the frame is kept if the gate is open
  pub IsShelved-stands : Told content (λ bytes. place < length bytes → slice_index bytes place ≡ 1)
      → IsShelved content images (place + torn) (frames ++ doubt ∷ []) [] 0
  IsShelved-stands open_gate = rw (is_torn.long) (record {
    stands =
        OnDisk-stable (λ image. EndsAt image (place + length (behind_gate doubt)) (frames ++ doubt ∷ [])) content images
        (Told-weaker (λ bytes. IsInDoubt bytes place frames doubt × (place < length bytes → slice_index bytes place ≡ 1))
        (λ bytes. EndsAt bytes (place + length (behind_gate doubt)) (frames ++ doubt ∷ []))
        (λ bytes both. opened bytes place frames doubt both.0 (both.1 both.0.within)) content
        (Told-both (λ bytes. IsInDoubt bytes place frames doubt) (λ bytes. place < length bytes → slice_index bytes place ≡ 1) content doubted open_gate))
        stable;
    counted = IsCounted-push place frames doubt is_torn.is is_torn.kept shelved.counted;
    in_doubt = refl;
  })

  -- the frame is gone if the gate is closed
  pub IsShelved-gone : Told content (λ bytes. place < length bytes → slice_index bytes place ≢ 1) → IsShelved content images place frames [] 0
  IsShelved-gone shut = record {
    stands =
        OnDisk-stable (λ image. EndsAt image place frames) content images
        (Told-weaker (λ bytes. IsInDoubt bytes place frames doubt × (place < length bytes → slice_index bytes place ≢ 1)) (λ bytes. EndsAt bytes place frames)
        (λ bytes both. let stands = both.0 in record {
          within = stands.within;
          front = stands.front;
          closed = both.1 stands.within;
          kept = IsKept-front (batches_of frames) doubt stands.kept;
        }) content
        (Told-both (λ bytes. IsInDoubt bytes place frames doubt) (λ bytes. place < length bytes → slice_index bytes place ≢ 1) content doubted shut)) stable;
    counted = shelved.counted;
    in_doubt = refl;
  }

-- what a crash leaves of a journal opens to its frames, or to the frames and the one in doubt
pub settle_moments : {D : Type 0} (clock_of : D → ℕ) (left_of : D → ℕ → List ℕ → Type 0) (old new : D) (content : Option (List ℕ)) (images : List ℕ → Type 0)
    (place : ℕ) (frames : List (List Batch)) (doubt : List Batch) (torn : ℕ) → IsShelved content images place frames doubt torn
    → LeavesOnly clock_of left_of old new images → LeavesOnly clock_of left_of old new (λ image. Told content (λ _. OpensToEither image frames doubt))
settle_moments clock_of left_of old new content images place frames doubt torn shelved leaves =
    LeavesOnly-weaker clock_of left_of old new images (λ image. Told content (λ _. OpensToEither image frames doubt))
    (λ image now. told_image (λ image. Stands image place frames doubt) (λ image. OpensToEither image frames doubt) (λ a b. a ≡ b)
    (λ a b stands same. Stands-opens b place frames doubt (subst (λ (l : List ℕ). Stands l place frames doubt) same stands)) content images shelved.stands
    image (image, now, refl)) leaves

-- bytes that open to frames, or to one more, open to their batches, with or without those of the last one
pub either_history : (bytes : List ℕ) (frames : List (List Batch)) (history doubt : List Batch) → batches_of frames ≡ history
    → OpensToEither bytes frames doubt → OpensEither bytes history doubt
either_history bytes frames history doubt are (inl opens) = inl (frames, are, opens)
either_history bytes frames history doubt are (inr opens) =
    inr (frames ++ doubt ∷ [], batches_of-push frames doubt ∙ ap (λ (l : List Batch). l ++ doubt) are, opens)

-- bytes that open to frames, or to one more, are not damaged
pub either_not_damaged : (image : List ℕ) (place : ℕ) (frames : List (List Batch)) (batches : List Batch) → OpensToEither image frames batches
    → ¬ (IsDamagedAt image place)
either_not_damaged image place frames batches (inl opens) damaged = damaged_opens_to_none image place (batches_of frames) damaged (frames, refl, opens)
either_not_damaged image place frames batches (inr opens) damaged =
    damaged_opens_to_none image place (batches_of (frames ++ batches ∷ [])) damaged (frames ++ batches ∷ [], refl, opens)

-- the promise of a call that returned `Ok`
pub from_ok : {T E : Type 0} (r : Result T E) {P : Type 0} → is_err r ≡ false → OnOk r P → P
from_ok (Ok v) ok promised = promised
from_ok (Err e) ok promised = absurd (false≢true (sym ok))
