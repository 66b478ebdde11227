-- Bytes of an answer that is read piece by piece.
use Rattle.std.proofs.Common.{◌≡◌, ℕ, ◌+◌, ◌≤◌, List, ◌++◌, length, take, drop, refl, sym, ap, ◌∙◌, arith, append_assoc, length-append, length-take-le}
use Rattle.std.proofs.lemmas.List.{length-drop, take-append-drop}
use Rattle.office_mirror.specs.declared.answer.Answer.{Answer}
use Rattle.office_mirror.specs.AnswerGrammar.{SpellsAnswer}
use Rattle.office_mirror.specs.Reading.{IsNext}

-- bytes that pass from those in hand to those that were read
pub bytes_pass : (bytes reader window : List ℕ) (used : ℕ) → bytes ≡ reader ++ window → bytes ≡ (reader ++ take used window) ++ drop used window
bytes_pass bytes reader window used are =
    are ∙ ap (λ l. reader ++ l) (sym (take-append-drop used window)) ∙ sym (append_assoc reader (take used window) (drop used window))

-- the last piece makes the answer whole
pub next_is : (bytes reader window : List ℕ) (used got : ℕ) (answer : Answer) → bytes ≡ reader ++ window → length reader ≡ got → used ≤ length window
    → SpellsAnswer (reader ++ take used window) answer → IsNext answer (got + used) bytes (drop used window)
next_is bytes reader window used got answer are long within spells = record {
  item = reader ++ take used window;
  spells = spells;
  long = omega (arith, length-append reader (take used window), length-take-le used window within, long);
  are = bytes_pass bytes reader window used are;
}

-- how many bytes are left in hand after a piece
pub part_sizes : (reader window next rest bytes : List ℕ) (used got : ℕ) → bytes ≡ window → used ≤ length bytes → next ≡ reader ++ take used bytes
    → rest ≡ drop used window → length reader ≡ got → (length next ≡ got + used) × (length rest + used ≡ length window)
part_sizes reader window next rest bytes used got shown within reads drops long = (
  omega (arith, ap length reads, length-append reader (take used bytes), length-take-le used bytes within, long),
  omega (arith, ap length drops, length-drop used window, ap length shown, within),
)
