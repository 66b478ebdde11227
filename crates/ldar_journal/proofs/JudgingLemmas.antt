-- What is at a place, judged by a window with the bytes from there on.
use Rattle.std.proofs.Common.{◌≡◌, ◌≢◌, ◌⊎◌, inl, inr, ℕ, zero, suc, ◌+◌, ◌-◌, ◌<◌, ◌≤◌, Bool, true, false, List, [], ◌∷◌, ◌++◌, length, take, drop, get_or}
use Rattle.std.proofs.Common.{Option, Some, None, refl, sym, ◌∙◌, ap, subst, arith, length-append, length-drop, slice_index}
use Rattle.std.proofs.lemmas.List.{take-append-drop}
use Rattle.disk_model.specs.Told.{BothTold}
use Rattle.disk_model.proofs.ToldLemmas.{BothTold-weaker, BothTold-joins}
use Rattle.fact_kinds.specs.declared.batch.Batch.{Batch}
use Rattle.ldar_journal.specs.FrameAt.{IsFrameOf, HasNoFrame}
use Rattle.ldar_journal.specs.Image.{frame}
use Rattle.ldar_journal.specs.Opening.{IsBadAt}
use Rattle.ldar_journal.specs.Window.{IsAhead}
use Rattle.ldar_journal.proofs.FrameLemmas.{IsFrameOf-longer}

-- the bytes in a window, and the bytes after them
ahead_parts : (place : ℕ) (window bytes : List ℕ) → IsAhead place window bytes → drop place bytes ≡ window ++ drop (length window) (drop place bytes)
ahead_parts place window bytes ahead =
    sym (take-append-drop (length window) (drop place bytes)) ∙ ap (λ (l : List ℕ). l ++ drop (length window) (drop place bytes)) (sym ahead)

-- two reads; after the first one the window is still at its place
steps : (a b c : Option (List ℕ)) (place : ℕ) (first middle : List ℕ) (P : List ℕ → Type 0) → BothTold a b (λ old new. new ≡ old)
    → BothTold a b (λ old new. IsAhead place first old → IsAhead place middle old) → BothTold b c (λ old new. IsAhead place middle old → P old)
    → BothTold a c (λ old new. IsAhead place first old → P old)
steps None None None place first middle P same one two = tt
steps None None (Some z) place first middle P same one two = absurd two
steps None (Some y) c place first middle P same one two = absurd one
steps (Some x) None c place first middle P same one two = absurd one
steps (Some x) (Some y) None place first middle P same one two = absurd two
steps (Some x) (Some y) (Some z) place first middle P same one two =
    λ ahead. subst P same (two (subst (λ (l : List ℕ). IsAhead place middle l) (sym same) (one ahead)))

-- the bytes that were read are enough to judge a frame
pub fetched : (a b c : Option (List ℕ)) (place wanted : ℕ) (w0 w1 w2 more : List ℕ) (full : Bool) → BothTold a b (λ old new. new ≡ old)
    → BothTold a b (λ old new. IsAhead place w0 old → IsAhead place w1 old) → BothTold b c (λ old new. IsAhead place w1 old → IsAhead place w2 old)
    → 5 ≤ length w1 → w2 ≡ w1 ++ more
    → (5 ≤ length w1 → (more rest : List ℕ) → wanted ≤ length (w1 ++ more) → HasNoFrame (w1 ++ more) → HasNoFrame ((w1 ++ more) ++ rest))
    → (full ≡ true → wanted ≤ length w2) → (full ≡ false → BothTold b c (λ old new. IsAhead place w1 old → w2 ≡ drop place old))
    → BothTold a c (λ old new. IsAhead place w0 old → HasNoFrame w2 → HasNoFrame (drop place old))
fetched a b c place wanted w0 w1 w2 more true same one two long parts enough full all =
    steps a b c place w0 w1 (λ bytes. HasNoFrame w2 → HasNoFrame (drop place bytes)) same one
    (BothTold-weaker (λ old new. IsAhead place w1 old → IsAhead place w2 old) (λ old new. IsAhead place w1 old → HasNoFrame w2 → HasNoFrame (drop place old))
    (λ old new ahead is none. rw (ahead_parts place w2 old (ahead is), parts)
    (enough long more (drop (length (w1 ++ more)) (drop place old)) (rw (← parts) (full refl)) (rw (← parts) none))) b c two)
fetched a b c place wanted w0 w1 w2 more false same one two long parts enough full all =
    steps a b c place w0 w1 (λ bytes. HasNoFrame w2 → HasNoFrame (drop place bytes)) same one
    (BothTold-weaker (λ old new. IsAhead place w1 old → w2 ≡ drop place old) (λ old new. IsAhead place w1 old → HasNoFrame w2 → HasNoFrame (drop place old))
    (λ old new whole is none. subst HasNoFrame (whole is) none) b c (all refl))

-- no frame is at an empty rest
no_frame : (bytes : List ℕ) → length bytes ≡ 0 → HasNoFrame bytes
no_frame bytes none batches rest is stands = omega (arith, ap length stands, length-append (frame batches) rest)

-- no gate is at an empty rest
pub nothing_left : (a b : Option (List ℕ)) (place : ℕ) (w0 w1 : List ℕ) → BothTold a b (λ old new. IsAhead place w0 old → w1 ≡ drop place old) → length w1 < 1
    → BothTold a b (λ old new. IsAhead place w0 old → place ≤ length old → IsBadAt old place)
nothing_left a b place w0 w1 all none =
    BothTold-weaker (λ old new. IsAhead place w0 old → w1 ≡ drop place old) (λ old new. IsAhead place w0 old → place ≤ length old → IsBadAt old place)
    (λ old new whole ahead within.
    let long : length (drop place old) ≡ 0 = omega (arith, ap length (whole ahead)) in
    record { open_gate = inl (omega (arith, length-drop place old)); no_frame = no_frame (drop place old) long }) a b all

-- a frame at the front of a window is at its place
pub frame_ahead : (a b c : Option (List ℕ)) (place : ℕ) (w0 w1 w2 : List ℕ) (batches : List Batch) (used : ℕ) → BothTold a b (λ old new. new ≡ old)
    → BothTold a b (λ old new. IsAhead place w0 old → IsAhead place w1 old) → BothTold b c (λ old new. IsAhead place w1 old → IsAhead place w2 old)
    → IsFrameOf w2 batches used
    → BothTold a c (λ old new. IsAhead place w0 old → place ≤ length old → IsFrameOf (drop place old) batches used)
frame_ahead a b c place w0 w1 w2 batches used same one two is =
    steps a b c place w0 w1 (λ bytes. place ≤ length bytes → IsFrameOf (drop place bytes) batches used) same one
    (BothTold-weaker (λ old new. IsAhead place w1 old → IsAhead place w2 old)
    (λ old new. IsAhead place w1 old → place ≤ length old → IsFrameOf (drop place old) batches used)
    (λ old new ahead is_ahead within. subst (λ (l : List ℕ). IsFrameOf l batches used) (sym (ahead_parts place w2 old (ahead is_ahead)))
    (IsFrameOf-longer w2 (drop (length w2) (drop place old)) batches used is)) b c two)

-- the byte at a place is the first of a window from there on
first_byte : (place : ℕ) (window bytes : List ℕ) → IsAhead place window bytes → 0 < length window → get_or window 0 0 ≡ get_or bytes place 0
first_byte place window bytes ahead some =
    by window (drop place bytes) (ahead_parts place window bytes ahead) some ∙ get_or-drop place bytes
  where
    by : (front whole : List ℕ) → whole ≡ front ++ drop (length window) (drop place bytes) → 0 < length front → get_or front 0 0 ≡ get_or whole 0 0
    by [] whole parts some = absurd (omega arith)
    by (x ∷ front) [] parts some = absurd cc
    by (x ∷ front) (y ∷ whole) parts some = cc

    get_or-drop : (n : ℕ) (xs : List ℕ) → get_or (drop n xs) 0 0 ≡ get_or xs n 0
    get_or-drop zero xs = refl
    get_or-drop (suc n) [] = refl
    get_or-drop (suc n) (x ∷ xs) = get_or-drop n xs

-- an open gate and no frame
pub bad_ahead : (a b c : Option (List ℕ)) (place : ℕ) (w0 w1 w2 : List ℕ) → BothTold a b (λ old new. new ≡ old)
    → BothTold a b (λ old new. IsAhead place w0 old → IsAhead place w1 old)
    → BothTold b c (λ old new. IsAhead place w1 old → HasNoFrame w2 → HasNoFrame (drop place old))
    → 0 < length w1 → slice_index w1 0 ≡ 1 → HasNoFrame w2 → BothTold a c (λ old new. IsAhead place w0 old → place ≤ length old → IsBadAt old place)
bad_ahead a b c place w0 w1 w2 same one two some open_gate none =
    steps a b c place w0 w1 (λ bytes. place ≤ length bytes → IsBadAt bytes place) same one
    (BothTold-weaker (λ old new. IsAhead place w1 old → HasNoFrame w2 → HasNoFrame (drop place old))
    (λ old new. IsAhead place w1 old → place ≤ length old → IsBadAt old place)
    (λ old new judged ahead within. record { open_gate = inr (sym (first_byte place w1 old ahead some) ∙ open_gate); no_frame = judged ahead none }) b c two)
