-- What the prefixes of a journal's bytes imply for the history that the whole opens to.
use Rattle.std.proofs.Common.{◌≡◌, ◌≢◌, ◌⊎◌, inl, inr, ℕ, ◌+◌, ◌*◌, ◌-◌, ◌<◌, ◌≤◌, true, List, [], ◌∷◌, ◌++◌, length, take, drop, get_or, refl, sym, ◌∙◌, ap}
use Rattle.std.proofs.Common.{ap₂, arith, append_assoc, length-append, take-add, slice_index, subst, drop-cons, add-one, length-drop}
use Rattle.std.specs.List.{flat_map, AllByRecursion}
use Rattle.std.proofs.lemmas.Grind.{flat_map-append, common_steps}
use Rattle.std.proofs.lemmas.List.{take-append-drop, append_cancel_left, append-nil, length-take-le}
use Rattle.std.proofs.lemmas.List.Sums.{sum_by-append}
use Rattle.std.proofs.lemmas.List.Folds.{list_any-append}
use Rattle.fact_kinds.specs.declared.batch.Batch.{Batch}
use Rattle.fact_kinds.specs.Identity.{is_same_identity, identities_differ}
use Rattle.ldar_journal.specs.Image.{header, payload, frame, batches_of, end_of, IsFrame, IsFront, fact_count, IsKept, EndsAt, OpensTo, Opens}
use Rattle.ldar_journal.specs.Damage.{IsNextFrame, IsDamagedAt}
use Rattle.ldar_journal.specs.FrameAt.{IsFrameOf}
use Rattle.std.proofs.Math.Seq.{take-append_seam, drop-append_seam}
use Rattle.ldar_journal.proofs.Frames.{one_frame, length-payload, fact_count-some}

-- frames one after the other
abbrev framed : List (List Batch) → List ℕ
framed frames = flat_map frame frames

-- one list of frames begins another, and the rest of its bytes is the other frames
record GoesOn (front whole : List (List Batch)) (x y : List ℕ) : Type 0 where
  more : List (List Batch)
  each : AllByRecursion IsFrame more
  frames : whole ≡ front ++ more
  bytes : x ≡ framed more ++ y

-- frames at the front of frames that end at a closed gate begin them
goes_on : (front whole : List (List Batch)) (x y : List ℕ) (gate : ℕ) (rest : List ℕ)
    → AllByRecursion IsFrame front → AllByRecursion IsFrame whole → y ≡ gate ∷ rest → gate ≢ 1
    → framed front ++ x ≡ framed whole ++ y → GoesOn front whole x y
goes_on [] whole x y gate rest front_is whole_is ends shut same = record { more = whole; each = whole_is; frames = refl; bytes = same }
goes_on (f ∷ front) [] x y gate rest front_is whole_is ends shut same = absurd (shut cc)
goes_on (f ∷ front) (g ∷ whole) x y gate rest front_is whole_is ends shut same =
    let first = one_frame f g (framed front ++ x) (framed whole ++ y) front_is.0 whole_is.0
    (sym (append_assoc (frame f) (framed front) x) ∙ same ∙ append_assoc (frame g) (framed whole) y) in
    let next = goes_on front whole x y gate rest front_is.1 whole_is.1 ends shut first.1 in
    record { more = next.more; each = next.each; frames = ap (λ (l : List (List Batch)). l) cc; bytes = next.bytes }

-- the identities of a prefix of a history differ
pub identities_differ-front : (xs ys : List Batch) → identities_differ (xs ++ ys) ≡ true → identities_differ xs ≡ true
identities_differ-front [] ys differ = refl
identities_differ-front (x ∷ xs) ys differ =
    let any = list_any-append (is_same_identity x) xs ys in
    let rest = identities_differ-front xs ys in
    grind (arith, common_steps)

-- a prefix of what may be kept may be kept
pub IsKept-front : (xs ys : List Batch) → IsKept (xs ++ ys) → IsKept xs
IsKept-front xs ys kept = record {
  differ = identities_differ-front xs ys kept.differ;
  fits = omega (arith, kept.fits, sum_by-append (λ (batch : Batch). length batch.facts) xs ys);
}

-- the bytes up to a place are all frames that the image opens to, or another frame is at the place
pub data Continues (image : List ℕ) (place : ℕ) (front : List (List Batch)) (end : ℕ) (frames : List (List Batch)) : Type 0 where
  ends : place ≡ end → front ≡ frames → Continues image place front end frames
  goes : (batches : List Batch) → IsNextFrame image place (batches_of front) batches → Continues image place front end frames

-- a byte of a list, and the bytes after it
pub at_place : (image : List ℕ) (place : ℕ) → place < length image → drop place image ≡ get_or image place 0 ∷ drop (place + 1) image
at_place image place within = rw (add-one, drop-cons image place 0) refl

-- a prefix and the rest are the whole
whole_of : (image : List ℕ) (place : ℕ) (frames : List (List Batch)) → take place image ≡ header ++ framed frames
    → image ≡ header ++ (framed frames ++ drop place image)
whole_of image place frames spells =
    sym (take-append-drop place image) ∙ ap (λ (l : List ℕ). l ++ drop place image) spells ∙ append_assoc header (framed frames) (drop place image)

-- the batches of some frames, of one more, and of the frames after it
batches_of-between : (front : List (List Batch)) (f : List Batch) (more : List (List Batch))
    → batches_of (front ++ f ∷ more) ≡ (batches_of front ++ f) ++ batches_of more
batches_of-between front f more = flat_map-append (λ (batches : List Batch). batches) front (f ∷ more)
    ∙ sym (append_assoc (batches_of front) f (batches_of more))

-- a prefix of the image's frames is all of them, or another frame follows
continues_at : (image : List ℕ) (place end : ℕ) (front frames : List (List Batch)) → place ≤ length image → (opens : EndsAt image end frames)
    → (more : List (List Batch)) → AllByRecursion IsFrame more → frames ≡ front ++ more → drop place image ≡ framed more ++ drop end image
    → Continues image place front end frames
continues_at image place end front frames within opens [] each parts bytes =
    let within_too = opens.within in
    let same_length : length image - place ≡ length image - end = sym (length-drop place image) ∙ ap length bytes ∙ length-drop end image in
    ends (omega arith) (sym (parts ∙ append-nil front))
continues_at image place end front frames within opens (f ∷ more) each parts bytes =
    goes f (record {
      is = each.0;
      rest = framed more ++ drop end image;
      stands = bytes ∙ append_assoc (frame f) (framed more) (drop end image);
      kept = IsKept-front (batches_of front ++ f) (batches_of more) (subst IsKept (ap batches_of parts ∙ batches_of-between front f more) opens.kept);
    })

-- the same, from the bytes of the prefix
pub continues : (image : List ℕ) (place end : ℕ) (front frames : List (List Batch)) → place ≤ length image → IsFront (take place image) front
    → EndsAt image end frames
    → Continues image place front end frames
continues image place end front frames within is_front opens =
    let same = append_cancel_left header _ _ (sym (whole_of image place front is_front.spells) ∙ whole_of image end frames opens.front.spells) in
    let go = goes_on front frames (drop place image) (drop end image) (get_or image end 0) (drop (end + 1) image) is_front.each opens.front.each
    (at_place image end opens.within) opens.closed same in
    continues_at image place end front frames within opens go.more go.each go.frames go.bytes

-- no frame is at a closed gate
pub shut : (image : List ℕ) (place : ℕ) (front batches : List Batch) → place < length image → slice_index image place ≢ 1
    → ¬ (IsNextFrame image place front batches)
shut image place front batches within closed next =
    let same = sym (at_place image place within) ∙ next.stands in
    closed cc

-- two lists of frames that an image opens to are equal
one_end : (image : List ℕ) (end end' : ℕ) (one other : List (List Batch)) → EndsAt image end one → Continues image end one end' other → one ≡ other
one_end image end end' one other opens (ends same is) = is
one_end image end end' one other opens (goes batches next) = absurd (shut image end (batches_of one) batches opens.within opens.closed next)

-- an image opens to at most one list of frames
pub one_row : (image : List ℕ) (one other : List (List Batch)) → OpensTo image one → OpensTo image other → one ≡ other
one_row image one other opens opens_too =
    let in_range = opens.1.within in
    one_end image opens.0 opens_too.0 one other opens.1 (continues image opens.0 opens_too.0 one other (omega arith) opens.1.front opens_too.1)

-- an image opens to at most one history
pub one_history : (image : List ℕ) (one other : List Batch) → Opens image one → Opens image other → one ≡ other
one_history image one other opens opens_too =
    sym opens.1 ∙ ap batches_of (one_row image opens.0 opens_too.0 opens.2 opens_too.2) ∙ opens_too.1

AllByRecursion-push : {X : Type 0} (P : X → Type 0) (xs : List X) (y : X) → AllByRecursion P xs → P y → AllByRecursion P (xs ++ y ∷ [])
AllByRecursion-push P [] y are is = (is, tt)
AllByRecursion-push P (x ∷ xs) y are is = (are.0, AllByRecursion-push P xs y are.1 is)

-- a prefix with one more frame
pub IsFront-push : (front : List ℕ) (frames : List (List Batch)) (batches : List Batch) → IsFront front frames → IsFrame batches
    → IsFront (front ++ frame batches) (frames ++ batches ∷ [])
IsFront-push front frames batches is_front is_frame = record {
  each = AllByRecursion-push IsFrame frames batches is_front.each is_frame;
  spells =
      ap (λ (l : List ℕ). l ++ frame batches) is_front.spells ∙ append_assoc header (framed frames) (frame batches)
      ∙ ap (λ (l : List ℕ). header ++ l) (ap (λ (l : List ℕ). framed frames ++ l) (sym (append-nil (frame batches)))
      ∙ sym (flat_map-append frame frames (batches ∷ [])));
}

-- the batches of frames and of one more
pub batches_of-push : (frames : List (List Batch)) (batches : List Batch) → batches_of (frames ++ batches ∷ []) ≡ batches_of frames ++ batches
batches_of-push frames batches = flat_map-append (λ (b : List Batch). b) frames (batches ∷ [])
    ∙ ap (λ (l : List Batch). batches_of frames ++ l) (append-nil batches)

-- a frame at a place makes the prefix longer
pub front_grows : (image : List ℕ) (place used : ℕ) (frames : List (List Batch)) (batches : List Batch) → IsFront (take place image) frames
    → IsFrameOf (drop place image) batches used
    → IsFront (take (place + used) image) (frames ++ batches ∷ [])
front_grows image place used frames batches is_front stands =
    let frame_is : take used (drop place image) ≡ frame batches = ap₂ (λ (n : ℕ) (l : List ℕ). take n l) stands.used_is stands.stands
    ∙ take-append_seam (frame batches) (drop used (drop place image)) in
    subst (λ (l : List ℕ). IsFront l (frames ++ batches ∷ [])) (ap (λ (l : List ℕ). take place image ++ l) (sym frame_is) ∙ sym (take-add place used image))
    (IsFront-push (take place image) frames batches is_front stands.is)

-- a frame that cannot be kept is bad, and no other frame can be at its place
pub bad_frame : (image : List ℕ) (place used : ℕ) (history batches : List Batch) → IsFrameOf (drop place image) batches used → ¬ (IsKept (history ++ batches))
    → (others : List Batch) → ¬ (IsNextFrame image place history others)
bad_frame image place used history batches stands not_kept others next =
    let same = (one_frame batches others (drop used (drop place image)) next.rest stands.is next.is (sym stands.stands ∙ next.stands)).0 in
    not_kept (subst (λ (l : List Batch). IsKept (history ++ l)) (sym same) next.kept)

-- an image that opens has no bad frame after a prefix of its frames
no_next : (image : List ℕ) (place : ℕ) (end : ℕ) (frames front : List (List Batch)) → (place ≡ length image) ⊎ (slice_index image place ≡ 1)
    → EndsAt image end frames
    → ((batches : List Batch) → ¬ (IsNextFrame image place (batches_of front) batches)) → ¬ (Continues image place front end frames)
no_next image place end frames front (inl at_end) opens bad (ends same is) = omega (arith, opens.within)
no_next image place end frames front (inr open_gate) opens bad (ends same is) = opens.closed (subst (λ (n : ℕ). slice_index image n ≡ 1) same open_gate)
no_next image place end frames front open_gate opens bad (goes batches next) = bad batches next

-- bytes with a bad frame open to no history
pub damaged_opens_to_none : (image : List ℕ) (place : ℕ) (history : List Batch) → IsDamagedAt image place → ¬ (Opens image history)
damaged_opens_to_none image place history damaged opens =
    no_next image place opens.2.0 opens.0 damaged.frames damaged.open_gate opens.2.1 damaged.bad
    (continues image place opens.2.0 damaged.frames opens.0 damaged.within damaged.front opens.2.1)

-- bytes without the header open to no history
pub no_header_opens_to_none : (image : List ℕ) (history : List Batch) → take 16 image ≢ header → ¬ (Opens image history)
no_header_opens_to_none image history no_header opens =
    let front = opens.2.1.front in
    no_header (ap (take 16) (whole_of image opens.2.0 opens.0 front.spells) ∙ take-append_seam header (framed opens.0 ++ drop opens.2.0 image))

-- ---- places

-- the length of frames, from the place of their end
pub length-framed : (frames : List (List Batch)) → 16 + length (framed frames) ≡ end_of frames
length-framed [] = refl
length-framed (f ∷ frames) = omega (
  arith,
  length-framed frames,
  length-append (frame f) (framed frames),
  sum_by-append (λ (b : List Batch). 5 + length (payload b)) (f ∷ []) frames,
)

-- the gate after one more frame
pub end_of-push : (frames : List (List Batch)) (batches : List Batch) → end_of (frames ++ batches ∷ []) ≡ end_of frames + (5 + length (payload batches))
end_of-push frames batches = omega (arith, sum_by-append (λ (b : List Batch). 5 + length (payload b)) frames (batches ∷ []))

-- the prefix of an image ends where its frames end
pub IsFront-place : (image : List ℕ) (place : ℕ) (frames : List (List Batch)) → place ≤ length image → IsFront (take place image) frames → place ≡ end_of frames
IsFront-place image place frames within front =
    omega (arith, length-take-le place image within, ap length front.spells, length-append header (framed frames), length-framed frames)

-- the gate that ends a journal is after its frames
pub gate_place : (image : List ℕ) (place : ℕ) (frames : List (List Batch)) → EndsAt image place frames → place ≡ end_of frames
gate_place image place frames opens = let within = opens.within in IsFront-place image place frames (omega arith) opens.front

-- each frame of an image is after those before it
pub frame_stands_at : (image : List ℕ) (place : ℕ) (before : List (List Batch)) (batches : List Batch) (after : List (List Batch))
    → EndsAt image place (before ++ batches ∷ after)
    → (rest : List ℕ) × (drop (end_of before) image ≡ frame batches ++ rest)
frame_stands_at image place before batches after opens =
    let rest = framed after ++ drop place image in
    let parts : image ≡ (header ++ framed before) ++ (frame batches ++ rest) =
    whole_of image place (before ++ batches ∷ after) opens.front.spells
    ∙ ap (λ (l : List ℕ). header ++ (l ++ drop place image)) (flat_map-append frame before (batches ∷ after))
    ∙ ap (λ (l : List ℕ). header ++ l) (append_assoc (framed before) (frame batches ++ framed after) (drop place image)
    ∙ ap (λ (l : List ℕ). framed before ++ l) (append_assoc (frame batches) (framed after) (drop place image)))
    ∙ sym (append_assoc header (framed before) (frame batches ++ rest)) in
    let long : end_of before ≡ length (header ++ framed before) = omega (arith, length-framed before, length-append header (framed before)) in
    (rest, ap₂ (λ (n : ℕ) (l : List ℕ). drop n l) long parts ∙ drop-append_seam (header ++ framed before) (frame batches ++ rest))

-- a frame of an image is at the place after those before it
pub frame_stands_in : (image : List ℕ) (before : List (List Batch)) (batches : List Batch) (after : List (List Batch))
    → OpensTo image (before ++ batches ∷ after)
    → (rest : List ℕ) × (drop (end_of before) image ≡ frame batches ++ rest)
frame_stands_in image before batches after opens = frame_stands_at image opens.0 before batches after opens.1

-- frames take at most 188,565 bytes for each of their facts
pub end_of-fits : (frames : List (List Batch)) → AllByRecursion IsFrame frames → end_of frames ≤ 16 + 188_565 * fact_count (batches_of frames)
end_of-fits [] each = omega arith
end_of-fits (f ∷ frames) each =
    let one = length-payload f each.0.each in
    let some = fact_count-some f each.0.each in
    let rest = end_of-fits frames each.1 in
    let first = sum_by-append (λ (b : List Batch). 5 + length (payload b)) (f ∷ []) frames in
    omega (arith, each.0.some, each.0.fits, sum_by-append (λ (batch : Batch). length batch.facts) f (batches_of frames))
