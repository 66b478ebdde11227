-- Texts that are written one after the other with one stamp.
use Rattle.std.proofs.Common.{◌≡◌, ℕ, List, [], ◌++◌, Option, Result, Err, All, sym, ap, ◌∙◌, append_assoc}
use Rattle.std.proofs.lemmas.List.{append-nil}
use Rattle.std.proofs.lemmas.List.Elements.{All-append}
use Rattle.std.proofs.lemmas.Grind.{flat_map-append}
use Rattle.ldar_ports.specs.Sink.{Piece, Puts, IsStamped, bytes_of}
use Rattle.ldar_ports.proofs.PutsLemmas.{puts_more}
use Rattle.office_mirror.specs.Line.{IsPutAt}

-- a text that was written completely, and another after it
pub put_more : {T E : Type 0} (clock : ℕ) (first second : List ℕ) (old middle new : Option (List Piece)) (put : List Piece) (none : List ℕ) (r : Result T E)
    → Puts old put middle → first ≡ bytes_of put ++ none → none ≡ [] → All (IsStamped clock) put → IsPutAt clock second middle new r
    → IsPutAt clock (first ++ second) old new r
put_more clock first second old middle new put none r puts says all stamped two =
    let whole : first ≡ bytes_of put = says ∙ ap (λ (l : List ℕ). bytes_of put ++ l) all ∙ append-nil (bytes_of put) in (
      put ++ two.0,
      two.1,
      puts_more old middle new put two.0 puts two.2,
      ap (λ (l : List ℕ). l ++ second) whole ∙ ap (λ (l : List ℕ). bytes_of put ++ l) two.3
          ∙ sym (append_assoc (bytes_of put) (bytes_of two.0) two.1)
          ∙ ap (λ (l : List ℕ). l ++ two.1) (sym (flat_map-append (λ (piece : Piece). piece.bytes) put two.0)),
      two.4,
      All-append (IsStamped clock) put two.0 stamped two.5,
    )

-- a text of which a part was written, and another that was not
pub put_part : {T E : Type 0} (clock : ℕ) (first second : List ℕ) (old new : Option (List Piece)) (put : List Piece) (unsaid : List ℕ) (r : Result T E) (e : E)
    → r ≡ Err e → Puts old put new → first ≡ bytes_of put ++ unsaid → All (IsStamped clock) put → IsPutAt clock (first ++ second) old new r
put_part clock first second old new put unsaid r e failed puts says stamped = (
  put,
  unsaid ++ second,
  puts,
  ap (λ (l : List ℕ). l ++ second) says ∙ append_assoc (bytes_of put) unsaid second,
  rw failed tt,
  stamped,
)
