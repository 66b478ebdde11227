-- How long answers are.
use Rattle.std.proofs.Common.{ℕ, ◌*◌, ◌≤◌, List, [], ◌∷◌, ◌++◌, length, ap, ◌∙◌, refl, arith, length-append}
use Rattle.fact_kinds.specs.declared.batch.Batch.{Batch}
use Rattle.ldar_facts.specs.Grammar.{spelled, batch_fields}
use Rattle.ldar_facts.proofs.FactTies.{filled-front}
use Rattle.ldar_facts.proofs.GrammarLaws.{spelling_length}
use Rattle.office_mirror.specs.declared.answer.Answer.{Answer}
use Rattle.office_mirror.specs.AnswerGrammar.{SpellsAnswer, BeginsAnswer, head_fields, batches_fields}
use Rattle.office_mirror.proofs.AnswerLemmas.{payload, AreFilled, payload-cons, answer_text, ranges_of}
use Rattle.office_mirror.proofs.HeadLemmas.{length-head}

-- the bytes of batches
payload_fits : (bs : List Batch) → AreFilled bs → length (payload bs) ≤ 11_785 * length bs
payload_fits [] filled = omega arith
payload_fits (b ∷ bs) filled =
    let parts = filled-front (batch_fields b) (batches_fields bs) filled in
    omega (
      arith,
      ap length (payload-cons b bs),
      length-append (spelled (batch_fields b)) (payload bs),
      (spelling_length (spelled (batch_fields b)) b (record { filled = parts.0; spells = refl })).1,
      payload_fits bs parts.1,
    )

-- the bytes of an answer
pub answer_fits : (bytes : List ℕ) (answer : Answer) → SpellsAnswer bytes answer → length bytes ≤ 188_566
answer_fits bytes answer is =
    let ranges = ranges_of answer is.filled in
    let head = spelled (head_fields answer.start (length answer.batches)) in
    omega (
      arith,
      ap length (is.spells ∙ answer_text answer),
      length-append head (payload answer.batches),
      length-head answer.start (length answer.batches),
      payload_fits answer.batches ranges.batches,
      ranges.few,
    )

-- .. and of the beginning of one
pub begun_fits : (bytes : List ℕ) → BeginsAnswer bytes → length bytes ≤ 188_566
begun_fits bytes begins = omega (arith, answer_fits (bytes ++ begins.1) begins.0 begins.2, length-append bytes begins.1)
