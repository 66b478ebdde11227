-- The grammar of answers: which bytes are an answer, begin one, or go wrong, and where.
use Rattle.std.specs.Prelude.{◌≡◌, ℕ, ◌+◌, ◌<◌, List, [], ◌∷◌, ◌++◌, length, take}
use Rattle.std.specs.List.{flat_map, AllByRecursion}
use Rattle.fact_kinds.specs.declared.batch.Batch.{Batch}
use Rattle.fact_kinds.specs.Fields.{Field, number, IsFilled}
use Rattle.ldar_facts.specs.Grammar.{batch_fields, spelled}
use Rattle.office_mirror.specs.declared.answer.Answer.{Answer}
use Rattle.office_mirror.specs.declared.read.AnswerRead.{AnswerRead}
use Rattle.office_mirror.specs.declared.read.AnswerRead.TheVariants.{Whole, Short, Bad}

-- the letter M, the first byte of an answer
abbrev pub answer_letters : List (ℕ × ℕ)
answer_letters = (77, 77) ∷ []

-- the number of batches before the first one: any number of four bytes
abbrev pub starts : List (ℕ × ℕ)
starts = (0, 4_294_967_295) ∷ []

-- the number of batches in an answer
abbrev pub batch_counts : List (ℕ × ℕ)
batch_counts = (1, 16) ∷ []

-- the fields before the batches: the letter M, the start and the number of batches
abbrev pub head_fields : ℕ → ℕ → List Field
head_fields start count = number 1 answer_letters 77 ∷ number 4 starts start ∷ number 1 batch_counts count ∷ []

-- the fields of batches, in order
abbrev pub batches_fields : List Batch → List Field
batches_fields batches = flat_map batch_fields batches

-- the fields of an answer
abbrev pub answer_fields : Answer → List Field
answer_fields answer = head_fields answer.start (length answer.batches) ++ batches_fields answer.batches

-- the bytes are exactly this answer, and each field is in its range
pub record SpellsAnswer (bytes : List ℕ) (answer : Answer) : Type 0 where
  pub filled : AllByRecursion IsFilled (answer_fields answer)
  pub spells : bytes ≡ spelled (answer_fields answer)

-- the bytes, with some others after them, are an answer
abbrev pub BeginsAnswer : List ℕ → Type 0
BeginsAnswer bytes = (answer : Answer) × (more : List ℕ) × SpellsAnswer (bytes ++ more) answer

-- no prefix of the bytes is an answer
abbrev pub HasNoAnswer : List ℕ → Type 0
HasNoAnswer bytes = (used : ℕ) (answer : Answer) → ¬ (SpellsAnswer (take used bytes) answer)

-- the bytes before this place begin an answer, and with the byte at it they do not
pub record IsFirstWrongInAnswer (bytes : List ℕ) (at : ℕ) : Type 0 where
  pub within : at < length bytes
  pub before : BeginsAnswer (take at bytes)
  pub after : ¬ (BeginsAnswer (take (at + 1) bytes))

-- if an answer was read, this holds of it and of its length
abbrev pub IfWholeAnswer : AnswerRead → (Answer → ℕ → Type 0) → Type 0
IfWholeAnswer (Whole answer used) P = P answer used
IfWholeAnswer Short P = Unit {0}
IfWholeAnswer (Bad at) P = Unit {0}

-- if the bytes were cut short, this holds
abbrev pub OnShortAnswer : AnswerRead → Type 0 → Type 0
OnShortAnswer (Whole answer used) P = Unit {0}
OnShortAnswer Short P = P
OnShortAnswer (Bad at) P = Unit {0}

-- if a wrong place was found, this holds of it
abbrev pub IfBadAnswer : AnswerRead → (ℕ → Type 0) → Type 0
IfBadAnswer (Whole answer used) P = Unit {0}
IfBadAnswer Short P = Unit {0}
IfBadAnswer (Bad at) P = P at
