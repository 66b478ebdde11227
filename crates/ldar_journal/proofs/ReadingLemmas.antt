-- A journal read frame by frame.
use Rattle.std.proofs.Common.{◌≡◌, ◌≢◌, ◌⊎◌, inl, inr, ℕ, ◌+◌, ◌-◌, ◌<◌, ◌≤◌, Bool, true, false, List, [], ◌∷◌, ◌++◌, length, take, drop, Option, Some, None}
use Rattle.std.proofs.Common.{refl, sym, ◌∙◌, ap, subst, arith, length-append, length-drop, length-take, slice_index}
use Rattle.std.specs.List.{AllByRecursion}
use Rattle.std.proofs.lemmas.List.{drop-drop, drop-take, take-take, length-take-le, append-nil}
use Rattle.std.proofs.lemmas.List.Sums.{sum_by-append}
use Rattle.std.proofs.lemmas.Bool.{cases_Bool}
use Rattle.disk_model.specs.Images.{Same, Only}
use Rattle.disk_model.specs.Told.{Told, BothTold}
use Rattle.disk_model.proofs.ToldLemmas.{BothTold-weaker, BothTold-joins, Told-after, Told-weaker}
use Rattle.fact_kinds.specs.declared.batch.Batch.{Batch}
use Rattle.fact_kinds.specs.declared.identity.Identity.{Identity}
use Rattle.ldar_journal.specs.Damage.{IsNextFrame, IsDamagedAt}
use Rattle.ldar_journal.specs.FrameAt.{IsFrameOf}
use Rattle.ldar_journal.specs.Image.{header, payload, frame, batches_of, end_of, IsFrame, IsFront, fact_count, IsKept}
use Rattle.ldar_journal.specs.Known.{IsKnown}
use Rattle.ldar_journal.specs.Opening.{IsBehind, IsReading}
use Rattle.ldar_journal.specs.Shelf.{IsCounted}
use Rattle.ldar_journal.specs.Window.{IsAhead}
use Rattle.ldar_journal.proofs.FrameLemmas.{AllByRecursion-push}
use Rattle.ldar_journal.proofs.Frames.{length-payload, fact_count-some}
use Rattle.ldar_journal.proofs.Histories.{at_place, batches_of-push, bad_frame, end_of-push, front_grows}

-- a window is at the place after a frame
ahead_behind : (place used : ℕ) (window bytes : List ℕ) → used ≤ length window → IsAhead place window bytes → IsAhead (place + used) (drop used window) bytes
ahead_behind place used window bytes within ahead =
    let rest = length window - used in
    let whole : length window ≡ used + rest = omega arith in
    let long : length (drop used window) ≡ rest = length-drop used window in
    ap (drop used) ahead ∙ ap (λ n. drop used (take n (drop place bytes))) whole ∙ drop-take used rest (drop place bytes)
    ∙ ap (take rest) (drop-drop used place bytes)
    ∙ ap (λ n. take n (drop (place + used) bytes)) (sym long)

-- the frames read so far, with one more
behind_more : (place used : ℕ) (frames : List (List Batch)) (batches : List Batch) (window window' bytes : List ℕ) → IsBehind bytes place frames window
    → (IsAhead place window bytes → IsAhead place window' bytes)
    → (IsAhead place window bytes → place ≤ length bytes → IsFrameOf (drop place bytes) batches used) → used ≤ length window'
    → IsBehind bytes (place + used) (frames ++ batches ∷ []) (drop used window')
behind_more place used frames batches window window' bytes behind ahead found within =
    let stands = found behind.ahead behind.within in
    let long = stands.within in
    record {
      within = omega (arith, behind.within, length-drop place bytes);
      front = front_grows bytes place used frames batches behind.front stands;
      ahead = ahead_behind place used window' bytes within (ahead behind.ahead);
    }

-- a property of a disk's content holds as long as the content does not change
told_same : (a b : Option (List ℕ)) (P : List ℕ → Type 0) → Told a P → BothTold a b (λ old new. new ≡ old) → Told b P
told_same a b P = Told-after P P (λ old new. new ≡ old) (λ x y is same. subst P (sym same) is) a b

-- a crash still leaves only these bytes if it leaves the same images
only_same : (images images' : List ℕ → Type 0) (bytes : List ℕ) → Same images images' → Only bytes images → Only bytes images'
only_same images images' bytes same only = record {
  itself = (same bytes).0 only.itself;
  no_other = λ c is. only.no_other c ((same c).1 is);
}

-- the disk is still stable if neither its bytes nor its images change
pub durable_same : (a b : Option (List ℕ)) (images images' : List ℕ → Type 0) → Told a (λ bytes. Only bytes images) → BothTold a b (λ old new. new ≡ old)
    → Same images images' → Told b (λ bytes. Only bytes images')
durable_same a b images images' durable same images_same =
    Told-weaker (λ bytes. Only bytes images) (λ bytes. Only bytes images') (λ bytes only. only_same images images' bytes images_same only) b
    (told_same a b (λ bytes. Only bytes images) durable same)

-- three properties of a disk's content
told_three : (a b : Option (List ℕ)) (P Q : List ℕ → Type 0) (R : List ℕ → List ℕ → Type 0) (S : List ℕ → List ℕ → Type 0)
    → ((x y : List ℕ) → P x → R x y → S x y → y ≡ x → Q y)
    → Told a P → BothTold a b R → BothTold a b S → BothTold a b (λ old new. new ≡ old) → Told b Q
told_three None None P Q R S gives p r s same = tt
told_three None (Some y) P Q R S gives p r s same = absurd r
told_three (Some x) None P Q R S gives p r s same = absurd r
told_three (Some x) (Some y) P Q R S gives p r s same = gives x y p r s same

-- a journal that is being read, with one more frame
pub reading_on : (content content' : Option (List ℕ)) (images images' : List ℕ → Type 0) (place used : ℕ) (frames : List (List Batch)) (batches : List Batch)
    (window window' : List ℕ)
    → IsReading content images place frames window → BothTold content content' (λ old new. new ≡ old) → Same images images'
    → BothTold content content' (λ old new. IsAhead place window old → IsAhead place window' old)
    → BothTold content content' (λ old new. IsAhead place window old → place ≤ length old → IsFrameOf (drop place old) batches used)
    → IsFrame batches → used ≡ length (frame batches) → used ≤ length window' → IsKept (batches_of frames ++ batches)
    → IsReading content' images' (place + used) (frames ++ batches ∷ []) (drop used window')
reading_on content content' images images' place used frames batches window window' reading same images_same ahead found is used_is within kept = record {
  behind =
      told_three content content' (λ bytes. IsBehind bytes place frames window)
      (λ bytes. IsBehind bytes (place + used) (frames ++ batches ∷ []) (drop used window'))
      (λ old new. IsAhead place window old → IsAhead place window' old)
      (λ old new. IsAhead place window old → place ≤ length old → IsFrameOf (drop place old) batches used)
      (λ x y behind goes stands equal. subst (λ (l : List ℕ). IsBehind l (place + used) (frames ++ batches ∷ []) (drop used window')) (sym equal)
      (behind_more place used frames batches window window' x behind goes stands within))
      reading.behind ahead found same;
  durable = durable_same content content' images images' reading.durable same images_same;
  counted = record {
    each = AllByRecursion-push IsFrame frames batches reading.counted.each is;
    kept = subst IsKept (sym (batches_of-push frames batches)) kept;
    at_end = let size : length (frame batches) ≡ 5 + length (payload batches) =
        omega arith in omega (arith, reading.counted.at_end, end_of-push frames batches);
  };
}

-- the gate of a frame is open
gate_of_frame : (bytes : List ℕ) (place used : ℕ) (batches : List Batch) → place ≤ length bytes → IsFrameOf (drop place bytes) batches used
    → slice_index bytes place ≡ 1
gate_of_frame bytes place used batches inside stands =
    let long = stands.within in
    let size = stands.used_is in
    let place_in : place < length bytes = omega (arith, length-drop place bytes) in
    let same = sym (at_place bytes place place_in) ∙ stands.stands in
    cc

-- a frame that cannot be kept is damage at its place
pub not_kept_damaged : (a b : Option (List ℕ)) (place used : ℕ) (frames : List (List Batch)) (batches : List Batch) (window : List ℕ)
    → Told a (λ bytes. IsBehind bytes place frames window)
    → BothTold a b (λ old new. IsAhead place window old → place ≤ length old → IsFrameOf (drop place old) batches used) → IsKept (batches_of frames)
    → ¬ (IsKept (batches_of frames ++ batches))
    → Told a (λ bytes. IsDamagedAt bytes place)
not_kept_damaged None b place used frames batches window behind found kept not_kept = tt
not_kept_damaged (Some bytes) None place used frames batches window behind found kept not_kept = absurd found
not_kept_damaged (Some bytes) (Some other) place used frames batches window behind found kept not_kept =
    let stands = found behind.ahead behind.within in
    record {
      frames = frames;
      within = behind.within;
      front = behind.front;
      kept = kept;
      open_gate = inr (gate_of_frame bytes place used batches behind.within stands);
      bad = bad_frame bytes place used (batches_of frames) batches stands not_kept;
    }

-- a frame has a bounded length
pub frame_fits : (batches : List Batch) → IsFrame batches → length (frame batches) ≤ 188_565
frame_fits batches is = let long = length-payload batches is.each in omega (arith, is.fits)

-- a frame has facts
pub facts_grow : (frames : List (List Batch)) (batches : List Batch) → IsFrame batches
    → fact_count (batches_of frames) < fact_count (batches_of (frames ++ batches ∷ []))
facts_grow frames batches is =
    omega (
      arith,
      ap fact_count (batches_of-push frames batches),
      sum_by-append (λ (b : Batch). length b.facts) (batches_of frames) batches,
      fact_count-some batches is.each,
      is.some,
    )

-- there are at most as many batches as facts
pub few_batches : (frames : List (List Batch)) → AllByRecursion IsFrame frames → length (batches_of frames) ≤ fact_count (batches_of frames)
few_batches [] each = omega arith
few_batches (f ∷ frames) each =
    omega (
      arith,
      length-append f (batches_of frames),
      sum_by-append (λ (b : Batch). length b.facts) f (batches_of frames),
      fact_count-some f each.0.each,
      few_batches frames each.1,
    )

-- with one more frame that may be kept, too
pub few_more : (frames : List (List Batch)) (batches : List Batch) → AllByRecursion IsFrame frames → IsFrame batches → IsKept (batches_of frames ++ batches)
    → length (batches_of (frames ++ batches ∷ [])) ≤ 8_000_000
few_more frames batches each is kept =
    let together = ap fact_count (batches_of-push frames batches) in
    omega (arith, few_batches (frames ++ batches ∷ []) (AllByRecursion-push IsFrame frames batches each is), together, kept.fits)

-- what is known about the batches of one more frame
pub known_frames : (frames : List (List Batch)) (batches : List Batch) (identities : List Identity) (facts : ℕ)
    → IsKnown (batches_of frames ++ batches) identities facts → IsKnown (batches_of (frames ++ batches ∷ [])) identities facts
known_frames frames batches identities facts known = subst (λ (l : List Batch). IsKnown l identities facts) (sym (batches_of-push frames batches)) known

-- ---- the header

-- a window at the beginning has the first 16 bytes, if it has that many or all bytes
header_front : (window bytes : List ℕ) → IsAhead 0 window bytes → (16 ≤ length window) ⊎ (window ≡ bytes) → take 16 window ≡ take 16 bytes
header_front window bytes ahead (inl long) = ap (take 16) ahead ∙ take-take 16 (length window) bytes long
header_front window bytes ahead (inr all) = ap (take 16) all

-- the content of the window after it was filled, or the bytes ended
pub shows_header : (a b : Option (List ℕ)) (window : List ℕ) (full : Bool) → BothTold a b (λ old new. IsAhead 0 [] old → IsAhead 0 window old)
    → (full ≡ true → 16 ≤ length window)
    → (full ≡ false → BothTold a b (λ old new. IsAhead 0 [] old → window ≡ drop 0 old))
    → BothTold a b (λ old new. (take 16 window ≡ take 16 old) × IsAhead 0 window old)
shows_header a b window true ahead long all =
    BothTold-weaker (λ old new. IsAhead 0 [] old → IsAhead 0 window old) (λ old new. (take 16 window ≡ take 16 old) × IsAhead 0 window old)
    (λ old new is. (header_front window old (is refl) (inl (long refl)), is refl)) a b ahead
shows_header a b window false ahead long all = both a b ahead (all refl)
  where
    both : (a b : Option (List ℕ)) → BothTold a b (λ old new. IsAhead 0 [] old → IsAhead 0 window old)
        → BothTold a b (λ old new. IsAhead 0 [] old → window ≡ drop 0 old)
        → BothTold a b (λ old new. (take 16 window ≡ take 16 old) × IsAhead 0 window old)
    both None None one two = tt
    both None (Some y) one two = absurd one
    both (Some x) None one two = absurd one
    both (Some x) (Some y) one two = (header_front window x (one refl) (inr (two refl)), one refl)

-- bytes without the header are no journal
pub no_header_told : (a b c : Option (List ℕ)) (window : List ℕ) → BothTold a b (λ old new. new ≡ old)
    → BothTold b c (λ old new. (take 16 window ≡ take 16 old) × IsAhead 0 window old) → take 16 window ≢ header
    → Told a (λ bytes. take 16 bytes ≢ header)
no_header_told None b c window same shows no_header = tt
no_header_told (Some x) None c window same shows no_header = absurd same
no_header_told (Some x) (Some y) None window same shows no_header = absurd shows
no_header_told (Some x) (Some y) (Some z) window same shows no_header = λ is. no_header (shows.0 ∙ ap (take 16) same ∙ is)

-- after the header, no frame was read yet
pub behind_header : (b c : Option (List ℕ)) (window : List ℕ) → BothTold b c (λ old new. (take 16 window ≡ take 16 old) × IsAhead 0 window old)
    → BothTold b c (λ old new. new ≡ old) → take 16 window ≡ header
    → Told c (λ bytes. IsBehind bytes 16 [] (drop 16 window))
behind_header None None window shows same is = tt
behind_header None (Some z) window shows same is = absurd same
behind_header (Some y) None window shows same is = absurd same
behind_header (Some y) (Some z) window shows same is =
    let front : take 16 y ≡ header = sym shows.0 ∙ is in
    let long : length (take 16 window) ≡ 16 = ap length is in
    let whole : length (take 16 y) ≡ 16 = ap length front in
    subst (λ (l : List ℕ). IsBehind l 16 [] (drop 16 window)) (sym same) (record {
      within = omega (arith, length-take 16 y);
      front = record { each = tt; spells = front ∙ sym (append-nil header) };
      ahead = ahead_behind 0 16 window y (omega (arith, length-take 16 window)) shows.1;
    })
