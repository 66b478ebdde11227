-- An answer that was read in pieces, and that it is the only one.
use Rattle.std.proofs.Common.{◌≡◌, ℕ, ◌+◌, ◌≤◌, List, ◌++◌, length, take, drop, Result, Ok, Err, sym, ap, subst, ◌∙◌, arith}
use Rattle.std.specs.Prelude.{IfOk}
use Rattle.std.proofs.lemmas.List.{length-drop, length-take-le, take-append-drop}
use Rattle.std.proofs.Math.Seq.{take-append-add}
use Rattle.office_mirror.specs.declared.answer.Answer.{Answer}
use Rattle.office_mirror.specs.declared.read.AnswerRead.{AnswerRead}
use Rattle.office_mirror.specs.declared.read.AnswerRead.TheVariants.{Whole, Short, Bad}
use Rattle.office_mirror.specs.declared.reader.AnswerPiece.{AnswerPiece}
use Rattle.office_mirror.specs.declared.reader.AnswerPiece.TheVariants.{Last}
use Rattle.office_mirror.specs.AnswerGrammar.{SpellsAnswer}
use Rattle.office_mirror.specs.Reader.{ReadsPiece, ReadsAnswer}
use Rattle.office_mirror.proofs.AnswerLemmas.{ranges_of, same_answer}

-- the first bytes, and some of those after them
take_both : (bytes : List ℕ) (used more : ℕ) → used ≤ length bytes → take used bytes ++ take more (drop used bytes) ≡ take (used + more) bytes
take_both bytes used more within =
    let front : length (take used bytes) ≡ used = length-take-le used bytes within in
    sym (take-append-add (take used bytes) (drop used bytes) more) ∙ ap (λ n. take (n + more) (take used bytes ++ drop used bytes)) front
    ∙ ap (take (used + more)) (take-append-drop used bytes)

-- with the last piece the answer is in the bytes up to its end
pub last_is_whole : (bytes : List ℕ) (used more : ℕ) (before rest new : List ℕ) (piece : AnswerPiece) (answer : Answer) → used ≤ length bytes
    → before ≡ take used bytes → rest ≡ drop used bytes → piece ≡ Last answer more → ReadsPiece before rest new piece
    → (used + more ≤ length bytes) × SpellsAnswer (take (used + more) bytes) answer
last_is_whole bytes used more before rest new piece answer within before_is rest_is is reads =
    let last = subst (ReadsPiece before rest new) is reads in
    let fits = last.0 in
    let left = ap length rest_is ∙ length-drop used bytes in
    let both = ap (λ l. l ++ take more rest) before_is ∙ ap (λ (l : List ℕ). take used bytes ++ take more l) rest_is ∙ take_both bytes used more within in
    (omega (arith, fits, left, within), subst (λ l. SpellsAnswer l answer) both last.1)

-- of two answers at the start of the same bytes
only_answer : (bytes : List ℕ) (a b : Answer) (used other : ℕ) → used ≤ length bytes → other ≤ length bytes → SpellsAnswer (take used bytes) a
    → SpellsAnswer (take other bytes) b → Whole a used ≡ Whole b other
only_answer bytes a b used other within fits is is_other =
    let one = sym (ap (λ l. l ++ drop used bytes) is.spells) ∙ take-append-drop used bytes in
    let two = sym (ap (λ l. l ++ drop other bytes) is_other.spells) ∙ take-append-drop other bytes in
    let same = same_answer a b (drop used bytes) (drop other bytes) (ranges_of a is.filled) (ranges_of b is_other.filled) (one ∙ sym two) in
    let left = ap length same.1 in
    let alike : used ≡ other = omega (arith, left, length-drop used bytes, length-drop other bytes, within, fits) in
    ap (λ x. Whole x used) same.0 ∙ ap (Whole b) alike

-- an answer at the start of the bytes is the one that is read
pub found_is_read : {E : Type 0} (bytes : List ℕ) (result : Result AnswerRead E) → IfOk result (ReadsAnswer bytes) → (answer : Answer) (used : ℕ)
    → used ≤ length bytes → SpellsAnswer (take used bytes) answer → IfOk result (λ read. read ≡ Whole answer used)
found_is_read bytes (Ok (Whole a n)) reads answer used within is = only_answer bytes a answer n used reads.0 within reads.1 is
found_is_read bytes (Ok Short) reads answer used within is = absurd (reads.1 used answer is)
found_is_read bytes (Ok (Bad at)) reads answer used within is = absurd (reads.1 used answer is)
found_is_read bytes (Err e) reads answer used within is = tt
