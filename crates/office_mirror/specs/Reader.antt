-- An answer that is read piece by piece: the bytes that were read so far, and what comes of the next ones.
use Rattle.std.specs.Prelude.{◌≡◌, ℕ, ◌+◌, ◌<◌, ◌≤◌, Option, Some, None, List, [], ◌++◌, length, take, Vec}
use Rattle.std.specs.Vec.{vec_capacity}
use Rattle.std.specs.List.{AllByRecursion}
use Rattle.fact_kinds.specs.declared.batch.Batch.{Batch}
use Rattle.fact_kinds.specs.Fields.{IsFilled}
use Rattle.ldar_facts.specs.Grammar.{spelled}
use Rattle.office_mirror.specs.declared.head.AnswerHead.{AnswerHead}
use Rattle.office_mirror.specs.declared.head.HeadRead.{HeadRead}
use Rattle.office_mirror.specs.declared.head.HeadRead.TheVariants as heads
use Rattle.office_mirror.specs.declared.read.AnswerRead.{AnswerRead}
use Rattle.office_mirror.specs.declared.read.AnswerRead.TheVariants as answers
use Rattle.office_mirror.specs.declared.reader.AnswerPiece.{AnswerPiece}
use Rattle.office_mirror.specs.declared.reader.AnswerPiece.TheVariants.{Last, Part, Short, Bad}
use Rattle.office_mirror.specs.AnswerGrammar.{head_fields, batches_fields, SpellsAnswer, BeginsAnswer, HasNoAnswer, IsFirstWrongInAnswer}

-- the bytes that were read of an answer: its head, if it was read, and these batches
abbrev pub read_so_far : Option AnswerHead → List Batch → List ℕ
read_so_far None batches = []
read_so_far (Some head) batches = spelled (head_fields head.start head.count) ++ spelled (batches_fields batches)

-- fewer batches were read than the head says, if it was read, and all fields are in their ranges
abbrev pub AreSoFar : Option AnswerHead → List Batch → Type 0
AreSoFar None batches = batches ≡ []
AreSoFar (Some head) batches =
    AllByRecursion IsFilled (head_fields head.start head.count) × (length batches < head.count) × AllByRecursion IsFilled (batches_fields batches)

-- there is room for all batches of the head
abbrev pub HasRoom : {Z : Type 0} → Option AnswerHead → Vec Batch Z → Type 0
HasRoom None batches = Unit {0}
HasRoom (Some head) batches = head.count ≤ vec_capacity batches

-- what comes of the next bytes, after those that were read of an answer
abbrev pub ReadsPiece : List ℕ → List ℕ → List ℕ → AnswerPiece → Type 0
ReadsPiece old bytes new (Last answer used) = (used ≤ length bytes) × SpellsAnswer (old ++ take used bytes) answer × (new ≡ [])
ReadsPiece old bytes new (Part used) = (0 < used) × (used ≤ length bytes) × (new ≡ old ++ take used bytes)
ReadsPiece old bytes new Short = BeginsAnswer (old ++ bytes) × HasNoAnswer (old ++ bytes) × (new ≡ old)
ReadsPiece old bytes new (Bad at) = IsFirstWrongInAnswer (old ++ bytes) (length old + at) × HasNoAnswer (old ++ bytes) × (new ≡ old)

-- ---- internal: how the private readers are proved

-- an answer at the start of these bytes was read, or they begin one, or go wrong at this place
abbrev pub ReadsAnswer : List ℕ → AnswerRead → Type 0
ReadsAnswer bytes (answers.Whole answer used) = (used ≤ length bytes) × SpellsAnswer (take used bytes) answer
ReadsAnswer bytes answers.Short = BeginsAnswer bytes × HasNoAnswer bytes
ReadsAnswer bytes (answers.Bad at) = IsFirstWrongInAnswer bytes at × HasNoAnswer bytes

-- these bytes are the head of an answer
pub record IsHead (bytes : List ℕ) (head : AnswerHead) : Type 0 where
  pub spells : bytes ≡ spelled (head_fields head.start head.count)
  pub filled : AllByRecursion IsFilled (head_fields head.start head.count)

-- the bytes begin the head of an answer
abbrev pub BeginsHead : List ℕ → Type 0
BeginsHead bytes = (head : AnswerHead) × (more : List ℕ) × IsHead (bytes ++ more) head

-- the head of an answer at the start of these bytes was read, or they begin one, or go wrong at this place
abbrev pub ReadsHead : List ℕ → HeadRead → Type 0
ReadsHead bytes (heads.Whole head) = (6 ≤ length bytes) × IsHead (take 6 bytes) head
ReadsHead bytes heads.Short = (length bytes < 6) × BeginsHead bytes
ReadsHead bytes (heads.Bad at) = (at < length bytes) × (at < 6) × BeginsHead (take at bytes) × ¬ (BeginsHead (take (at + 1) bytes))
