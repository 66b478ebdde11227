-- Bytes of a disk in a window, after one more read.
use Rattle.std.proofs.Common.{◌≡◌, ◌≤◌, ◌<◌, ◌+◌, ◌-◌, ℕ, List, [], ◌++◌, length, take, drop, Option, Some, None, refl, sym, ap, ◌∙◌, subst, arith}
use Rattle.std.proofs.Common.{length-append}
use Rattle.std.proofs.Math.Seq.{paste, take-add}
use Rattle.std.proofs.lemmas.List.{drop-append-le, drop-drop, drop-take, length-drop, length-take-le, take_all}
use Rattle.std.proofs.lemmas.List.Edits.{take-paste}
use Rattle.disk_model.specs.Disk.{Reads}
use Rattle.disk_model.specs.Images.{Same, SameSince}
use Rattle.disk_model.specs.Told.{Told, BothTold}
use Rattle.disk_model.proofs.ReadLemmas.{Reads-piece}
use Rattle.disk_model.proofs.ToldLemmas.{BothTold-joins, BothTold-weaker}
use Rattle.ldar_journal.specs.Window.{WindowState, IsAhead, OnlyReads}

-- the bytes between two places, copied to the front
pub moved_to_front : (old new : List ℕ) (from end : ℕ) → from ≤ end → end ≤ length old → new ≡ paste old 0 (drop from old) (end - from)
    → take (end - from) new ≡ drop from (take end old)
moved_to_front old new from end ordered in_range is_new =
    let count = end - from in
    let some : count ≤ length (drop from old) = omega (arith, length-drop from old) in
    let start : 0 ≤ length old = omega arith in
    let sum : from + count ≡ end = omega arith in
    let whole : 0 + count ≡ count = omega arith in
    ap (take count) is_new
    ∙ ap (λ n. take n (paste old 0 (drop from old) count)) (sym whole)
    ∙ take-paste old 0 (drop from old) count start some
    ∙ sym (drop-take from count old)
    ∙ ap (λ n. drop from (take n old)) sum

-- a window with the bytes between two places of a buffer
abbrev pub window_of : ℕ → ℕ → List ℕ → WindowState
window_of start end buffer = record { bytes = drop start (take end buffer); size = length buffer }

-- bytes that were read into the room after the window's bytes follow them
pub window_of-more : (old moved new : List ℕ) (from to start end n : ℕ) (window : WindowState) → window_of from to old ≡ window
    → length moved ≡ length old → drop start (take end moved) ≡ drop from (take to old)
    → start ≤ end → end ≤ length moved
    → length new ≡ length moved → take end new ≡ take end moved
    → window_of start (end + n) new ≡ record { bytes = window.bytes ++ take n (drop end new); size = window.size }
window_of-more old moved new from to start end n window is_window size same ordered in_range size' front =
    let fits : end ≤ length new = omega arith in
    let within : start ≤ length (take end new) = omega (arith, length-take-le end new fits) in
    let P : WindowState → Type 0 = λ w. window_of start (end + n) new ≡ record { bytes = w.bytes ++ take n (drop end new); size = w.size } in
    subst P is_window (rw (take-add end n new, drop-append-le start (take end new) (take n (drop end new)) within, front, same, size', size) refl)

-- a window is still at its place with the bytes of a read added
pub IsAhead-more : (place at n : ℕ) (bytes old new window more : List ℕ) → Reads at bytes old new n → at ≡ place + length window → more ≡ take n new
    → n ≤ length new → IsAhead place window bytes
    → IsAhead place (window ++ more) bytes
IsAhead-more place at n bytes old new window more reads at_is more_is fits ahead =
    let piece : more ≡ take n (drop (length window) (drop place bytes)) =
    more_is ∙ Reads-piece at n bytes old new reads ∙ ap (λ k. take n (drop k bytes)) at_is ∙ ap (take n) (sym (drop-drop (length window) place bytes)) in
    let long : length (window ++ more) ≡ length window + n = length-append window more
    ∙ ap (λ k. length window + k) (ap length more_is ∙ length-take-le n new fits) in
    ap (λ (l : List ℕ). l ++ more) ahead ∙ ap (λ (l : List ℕ). take (length window) (drop place bytes) ++ l) piece
    ∙ sym (take-add (length window) n (drop place bytes))
    ∙ ap (λ k. take k (drop place bytes)) (sym long)

-- if a read found no more, the window has all bytes from its place on
pub IsAhead-all : (place at : ℕ) (bytes old new window : List ℕ) → Reads at bytes old new 0 → at ≡ place + length window → 0 < length old
    → IsAhead place window bytes → window ≡ drop place bytes
IsAhead-all place at bytes old new window reads at_is room ahead =
    let at_end : length bytes ≤ at = reads.at_end refl room in
    let all : length (drop place bytes) ≤ length window = omega (arith, length-drop place bytes) in
    ahead ∙ take_all (length window) (drop place bytes) all

-- several calls that only read are calls that only read
pub OnlyReads-joins : {D : Type 0} (content_of : D → Option (List ℕ)) (images_of : D → List ℕ → Type 0) (left_of : D → ℕ → List ℕ → Type 0) (clock_of : D → ℕ)
    (a b c : D) → clock_of a ≤ clock_of b
    → OnlyReads content_of images_of left_of clock_of a b → OnlyReads content_of images_of left_of clock_of b c
    → OnlyReads content_of images_of left_of clock_of a c
OnlyReads-joins content_of images_of left_of clock_of a b c later first second = record {
  content = BothTold-joins (λ old new. new ≡ old) (λ old new. new ≡ old) (λ old new. new ≡ old) (λ x y z one two. two ∙ one) (content_of a) (content_of b)
      (content_of c) first.content second.content;
  images = λ image. (λ is. (second.images image).0 ((first.images image).0 is), λ is. (first.images image).1 ((second.images image).1 is));
  left = λ t earlier image.
      let one = first.left t earlier image in
      let two = second.left t (omega arith) image in
      (λ is. two.0 (one.0 is), λ is. one.1 (two.1 is));
}

-- without a call, nothing changes
pub OnlyReads-stays : {D : Type 0} (content_of : D → Option (List ℕ)) (images_of : D → List ℕ → Type 0) (left_of : D → ℕ → List ℕ → Type 0) (clock_of : D → ℕ)
    (a : D) → OnlyReads content_of images_of left_of clock_of a a
OnlyReads-stays content_of images_of left_of clock_of a = record {
  content = same (content_of a);
  images = λ image. (λ is. is, λ is. is);
  left = λ t earlier image. (λ is. is, λ is. is);
}
  where
    same : (o : Option (List ℕ)) → BothTold o o (λ old new. new ≡ old)
    same None = tt
    same (Some bytes) = refl

-- two reads one after the other
pub ahead_joins : (a b c : Option (List ℕ)) (place : ℕ) (first middle last : List ℕ) → BothTold a b (λ old new. new ≡ old)
    → BothTold a b (λ old new. IsAhead place first old → IsAhead place middle old)
    → BothTold b c (λ old new. IsAhead place middle old → IsAhead place last old) → BothTold b c (λ old new. new ≡ old)
    → BothTold a c (λ old new. IsAhead place first old → IsAhead place last old)
ahead_joins None None None place first middle last same one two same' = tt
ahead_joins None None (Some z) place first middle last same one two same' = absurd two
ahead_joins None (Some y) c place first middle last same one two same' = absurd one
ahead_joins (Some x) None c place first middle last same one two same' = absurd one
ahead_joins (Some x) (Some y) None place first middle last same one two same' = absurd two
ahead_joins (Some x) (Some y) (Some z) place first middle last same one two same' = λ ahead.
    subst (λ (l : List ℕ). IsAhead place last l) same (two (subst (λ (l : List ℕ). IsAhead place middle l) (sym same) (one ahead)))

-- without a call, the window stays at its place
pub ahead_stays : (a : Option (List ℕ)) (place : ℕ) (window : List ℕ) → BothTold a a (λ old new. IsAhead place window old → IsAhead place window old)
ahead_stays None place window = tt
ahead_stays (Some x) place window = λ ahead. ahead

-- the window with all bytes, after both reads
pub all_joins : (a b c : Option (List ℕ)) (place : ℕ) (first middle last : List ℕ) → BothTold a b (λ old new. new ≡ old)
    → BothTold a b (λ old new. IsAhead place first old → IsAhead place middle old) → BothTold b c (λ old new. IsAhead place middle old → last ≡ drop place old)
    → BothTold a c (λ old new. IsAhead place first old → last ≡ drop place old)
all_joins None None None place first middle last same one two = tt
all_joins None None (Some z) place first middle last same one two = absurd two
all_joins None (Some y) c place first middle last same one two = absurd one
all_joins (Some x) None c place first middle last same one two = absurd one
all_joins (Some x) (Some y) None place first middle last same one two = absurd two
all_joins (Some x) (Some y) (Some z) place first middle last same one two = λ ahead.
    two (subst (λ (l : List ℕ). IsAhead place middle l) (sym same) (one ahead)) ∙ ap (drop place) same

-- a read after the bytes of a window keeps it at its place
pub read_ahead : (old moved new : List ℕ) (from to start end n place : ℕ) (window : WindowState) → window_of from to old ≡ window
    → length moved ≡ length old → drop start (take end moved) ≡ drop from (take to old)
    → start ≤ end → end ≤ length moved
    → length new ≡ length moved → take end new ≡ take end moved → n ≤ length moved - end
    → (a b : Option (List ℕ)) → BothTold a b (λ x y. Reads (place + (end - start)) x (drop end moved) (drop end new) n)
    → BothTold a b (λ x y. IsAhead place window.bytes x → IsAhead place (drop start (take (end + n) new)) x)
read_ahead old moved new from to start end n place window is_window size same ordered in_range size' front within a b told =
    let more = window_of-more old moved new from to start end n window is_window size same ordered in_range size' front in
    let bytes : drop start (take (end + n) new) ≡ window.bytes ++ take n (drop end new) = ap (λ (w : WindowState). w.bytes) more in
    let stood : drop start (take end moved) ≡ window.bytes = same ∙ ap (λ (w : WindowState). w.bytes) is_window in
    let long : length (drop start (take end moved)) ≡ end - start = length-drop start (take end moved)
    ∙ ap (λ k. k - start) (length-take-le end moved in_range) in
    let at_is : place + (end - start) ≡ place + length window.bytes = ap (λ k. place + k) (sym long ∙ ap length stood) in
    let fits : n ≤ length (drop end new) = omega (arith, length-drop end new) in
    BothTold-weaker (λ x y. Reads (place + (end - start)) x (drop end moved) (drop end new) n)
    (λ x y. IsAhead place window.bytes x → IsAhead place (drop start (take (end + n) new)) x)
    (λ x y reads ahead. subst (λ (l : List ℕ). IsAhead place l x) (sym bytes)
    (IsAhead-more place (place + (end - start)) n x (drop end moved) (drop end new) window.bytes (take n (drop end new)) reads at_is refl fits ahead)) a b told
