-- Texts that are written one after the other.
use Rattle.std.proofs.Common.{◌≡◌, ℕ, List, [], ◌++◌, Option, Result, Err, sym, ap, ◌∙◌, append_assoc}
use Rattle.std.proofs.lemmas.List.{append-nil}
use Rattle.std.proofs.lemmas.Grind.{flat_map-append}
use Rattle.ldar_ports.specs.Sink.{Piece, Puts, bytes_of}
use Rattle.ldar_ports.proofs.PutsLemmas.{puts_more}
use Rattle.office_commands.specs.Statuses.{Said, IsPut}

-- a text that was written whole, and one after it
pub said_more : (first second : List ℕ) (old middle new : Option (List Piece)) (none unsaid : List ℕ) → none ≡ []
    → Said first old middle none → Said second middle new unsaid → Said (first ++ second) old new unsaid
said_more first second old middle new none unsaid all one two = record {
  put = one.put ++ two.put;
  puts = puts_more old middle new one.put two.put one.puts two.puts;
  says =
      let whole : first ≡ bytes_of one.put = one.says ∙ ap (λ (l : List ℕ). bytes_of one.put ++ l) all ∙ append-nil (bytes_of one.put) in
      ap (λ (l : List ℕ). l ++ second) whole ∙ ap (λ (l : List ℕ). bytes_of one.put ++ l) two.says
      ∙ sym (append_assoc (bytes_of one.put) (bytes_of two.put) unsaid)
      ∙ ap (λ (l : List ℕ). l ++ unsaid) (sym (flat_map-append (λ (piece : Piece). piece.bytes) one.put two.put));
}

-- a text of which a prefix was written, and more that was not
pub said_part : (first second : List ℕ) (old new : Option (List Piece)) (unsaid : List ℕ) → Said first old new unsaid
    → Said (first ++ second) old new (unsaid ++ second)
said_part first second old new unsaid one = record {
  put = one.put;
  puts = one.puts;
  says = ap (λ (l : List ℕ). l ++ second) one.says ∙ append_assoc (bytes_of one.put) unsaid second;
}

-- a text that was written whole, and one written after it
pub put_more : {T E : Type 0} (first second : List ℕ) (old middle new : Option (List Piece)) (none : List ℕ) (r : Result T E) → none ≡ []
    → Said first old middle none → IsPut second middle new r → IsPut (first ++ second) old new r
put_more first second old middle new none r all one two = (two.0, said_more first second old middle new none two.0 all one two.1, two.2)

-- a text of which a prefix was written, of a longer one
pub put_part : {T E : Type 0} (first second : List ℕ) (old new : Option (List Piece)) (unsaid : List ℕ) (r : Result T E) (e : E) → r ≡ Err e
    → Said first old new unsaid → IsPut (first ++ second) old new r
put_part first second old new unsaid r e failed one = (unsaid ++ second, said_part first second old new unsaid one, rw failed tt)

-- a text of which nothing is unwritten
pub said_whole : (text : List ℕ) (old new : Option (List Piece)) (put : List Piece) (unsaid : List ℕ) → Puts old put new
    → text ≡ bytes_of put ++ unsaid → unsaid ≡ [] → Said text old new []
said_whole text old new put unsaid puts says none = record {
  put = put;
  puts = puts;
  says = says ∙ ap (λ (l : List ℕ). bytes_of put ++ l) none;
}

-- .. of which something may be
pub said_front : (text : List ℕ) (old new : Option (List Piece)) (put : List Piece) (unsaid : List ℕ) → Puts old put new
    → text ≡ bytes_of put ++ unsaid → (rest : List ℕ) × Said text old new rest
said_front text old new put unsaid puts says = (unsaid, record { put = put; puts = puts; says = says })
