-- The unread bytes of some pieces.
use Rattle.std.proofs.Common.{◌≡◌, ◌<◌, ◌≤◌, ℕ, List, [], ◌∷◌, ◌++◌, length, min, take, drop, refl, sym, ap, ◌∙◌, arith}
use Rattle.std.proofs.Math.Seq.{take-append_seam}
use Rattle.std.proofs.lemmas.List.{append_assoc, length-take-le, take-append-drop}
use Rattle.ldar_ports.specs.ListSource.{cut, first_piece, from_first, joined}

-- skipping empty pieces does not change the bytes
joined-from_first : (pieces : List (List ℕ)) → joined (from_first pieces) ≡ joined pieces
joined-from_first [] = refl
joined-from_first ([] ∷ pieces) = joined-from_first pieces
joined-from_first ((byte ∷ bytes) ∷ pieces) = refl

-- the bytes cut from the first piece come before the unread ones
joined-cut : (n : ℕ) (pieces : List (List ℕ)) → n ≤ length (first_piece pieces) → joined pieces ≡ take n (first_piece pieces) ++ joined (cut n pieces)
joined-cut n [] within = let none : n ≡ 0 = omega arith in rw none refl
joined-cut n (piece ∷ pieces) within =
    ap (λ bytes. bytes ++ joined pieces) (sym (take-append-drop n piece)) ∙ append_assoc (take n piece) (drop n piece) (joined pieces)

-- if the first non-empty piece has no byte, there is none
from_first-none : (pieces : List (List ℕ)) → length (first_piece (from_first pieces)) ≡ 0 → from_first pieces ≡ []
from_first-none [] none = refl
from_first-none ([] ∷ pieces) none = from_first-none pieces none
from_first-none ((byte ∷ bytes) ∷ pieces) none = absurd (omega arith)

-- the bytes that were read come before the unread ones
pub taken_and_left : (n : ℕ) (old skipped new : List (List ℕ)) (into into' : List ℕ) → skipped ≡ from_first old
    → n ≡ min (length into) (length (first_piece skipped))
    → into' ≡ take n (first_piece skipped) ++ drop n into
    → new ≡ cut n skipped
    → joined old ≡ take n into' ++ joined new
taken_and_left n old skipped new into into' is_skipped is_n is_copied is_new =
    let piece = first_piece skipped in
    let within : n ≤ length piece = omega arith in
    let len : length (take n piece) ≡ n = length-take-le n piece within in
    let front : take n into' ≡ take n piece =
    ap (take n) is_copied ∙ ap (λ k. take k (take n piece ++ drop n into)) (sym len) ∙ take-append_seam (take n piece) (drop n into) in
    sym (joined-from_first old) ∙ ap joined (sym is_skipped) ∙ joined-cut n skipped within ∙ rw (front, is_new) refl

-- if nothing was read into a non-empty slice, nothing is unread
pub nothing_left : (n : ℕ) (old skipped new : List (List ℕ)) (into : List ℕ) → skipped ≡ from_first old
    → n ≡ min (length into) (length (first_piece skipped))
    → new ≡ cut n skipped
    → n ≡ 0 → 0 < length into → joined new ≡ []
nothing_left n old skipped new into is_skipped is_n is_new none room =
    let empty : length (first_piece skipped) ≡ 0 = omega arith in
    let gone : skipped ≡ [] = is_skipped ∙ from_first-none old (rw is_skipped at empty) in
    rw (is_new, gone) refl
