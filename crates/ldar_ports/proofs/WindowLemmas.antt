-- A buffer whose front is filled.
use Rattle.std.proofs.Common.{◌≡◌, ◌≤◌, ◌+◌, ◌-◌, ℕ, List, length, take, drop, refl, sym, ap, ◌∙◌, subst, arith}
use Rattle.std.proofs.Math.Seq.{paste, take-add}
use Rattle.std.proofs.lemmas.List.{drop-append-le, drop-take, length-drop, length-take-le}
use Rattle.std.proofs.lemmas.List.Edits.{take-paste}
use Rattle.ldar_ports.specs.Window.{WindowState, after_taking}

-- the bytes between two places, copied to the front
pub moved_to_front : (old new : List ℕ) (from end : ℕ) → from ≤ end → end ≤ length old
    → new ≡ paste old 0 (drop from old) (end - from)
    → take (end - from) new ≡ drop from (take end old)
moved_to_front old new from end ordered in_range is_new =
    let count = end - from in
    let some : count ≤ length (drop from old) = omega (arith, length-drop from old) in
    let start : 0 ≤ length old = omega arith in
    let sum : from + count ≡ end = omega arith in
    let whole : 0 + count ≡ count = omega arith in
    ap (take count) is_new
    ∙ ap (λ n. take n (paste old 0 (drop from old) count)) (sym whole)
    ∙ take-paste old 0 (drop from old) count start some
    ∙ sym (drop-take from count old)
    ∙ ap (λ n. drop from (take n old)) sum

-- a window with the bytes between two places of a buffer
abbrev pub window_of : ℕ → ℕ → List ℕ → WindowState
window_of start end buffer = record { bytes = drop start (take end buffer); size = length buffer }

-- bytes that were read into the room after the window's bytes follow them
pub window_of-more : (old moved new : List ℕ) (from to start end n : ℕ) (window : WindowState) → window_of from to old ≡ window
    → length moved ≡ length old → drop start (take end moved) ≡ drop from (take to old)
    → start ≤ end → end ≤ length moved
    → length new ≡ length moved → take end new ≡ take end moved
    → window_of start (end + n) new ≡ after_taking window (take n (drop end new))
window_of-more old moved new from to start end n window is_window size same ordered in_range size' front =
    let fits : end ≤ length new = omega arith in
    let within : start ≤ length (take end new) = omega (arith, length-take-le end new fits) in
    let P : WindowState → Type 0 = λ w. window_of start (end + n) new ≡ after_taking w (take n (drop end new)) in
    subst P is_window (rw (take-add end n new, drop-append-le start (take end new) (take n (drop end new)) within, front, same, size', size) refl)
