-- Pieces that were written one after the other.
use Rattle.std.proofs.Common.{refl, All, replicate, ◌<◌, ◌≤◌, ◌-◌, take, drop, arith, ◌≡◌, ℕ, List, [], ◌∷◌, ◌++◌, Option, Some, None, length, sym, ap, ◌∙◌}
use Rattle.std.proofs.lemmas.List.{length-append, replicate-append-replicate, append-nil, append_assoc, length-drop, length-take-le, take_all, take-append-drop}
use Rattle.std.proofs.lemmas.List.Elements.{All-head, All-tail}
use Rattle.std.proofs.lemmas.Grind.{flat_map-append}
use Rattle.ldar_ports.specs.Sink.{IsStamped, stamps_of, Piece, Puts, piece_of, bytes_of}

-- if nothing is written, the pieces do not change
pub puts_none : (pieces : Option (List Piece)) → Puts pieces [] pieces
puts_none None = tt
puts_none (Some pieces) = sym (append-nil pieces)

-- two stretches of written pieces are one
pub puts_more : (old middle new : Option (List Piece)) (first second : List Piece)
    → Puts old first middle → Puts middle second new → Puts old (first ++ second) new
puts_more None middle new first second a b = tt
puts_more (Some old) None new first second a b = absurd a
puts_more (Some old) (Some middle) None first second a b = absurd b
puts_more (Some old) (Some middle) (Some new) first second a b =
    b ∙ ap (λ pieces. pieces ++ second) a ∙ append_assoc old first second

-- bytes of which some pieces were written, followed by a prefix of the rest
pub rest_more : (bytes rest : List ℕ) (put : List Piece) (all n stamp : ℕ) → all ≡ length rest
    → bytes ≡ bytes_of put ++ rest
    → bytes ≡ bytes_of (put ++ piece_of (take n rest) stamp ∷ []) ++ take (all - n) (drop n rest)
rest_more bytes rest put all n stamp is_all was =
    let whole : length (drop n rest) ≤ all - n = omega (arith, length-drop n rest) in
    rw (
      flat_map-append (λ (piece : Piece). piece.bytes) put (piece_of (take n rest) stamp ∷ []),
      append-nil (take n rest),
      take_all (all - n) (drop n rest) whole,
      append_assoc (bytes_of put) (take n rest) (drop n rest),
      take-append-drop n rest,
    ) was

-- a non-empty prefix has a byte
pub front_has_some : (n : ℕ) (bytes : List ℕ) → n ≤ length bytes → 0 < n → 0 < length (take n bytes)
front_has_some n bytes le some = omega (arith, length-take-le n bytes le)

-- each byte of pieces with one stamp has this stamp
pub stamps_of-stamped : (stamp : ℕ) (put : List Piece) → All (IsStamped stamp) put → stamps_of put ≡ replicate (length (bytes_of put)) stamp
stamps_of-stamped stamp [] each = refl
stamps_of-stamped stamp (piece ∷ put) each =
    let first = All-head (IsStamped stamp) piece put each in
    let others = stamps_of-stamped stamp put (All-tail (IsStamped stamp) piece put each) in
    rw (first.1, others, length-append piece.bytes (bytes_of put), ← replicate-append-replicate (length piece.bytes) (length (bytes_of put)) stamp) refl
