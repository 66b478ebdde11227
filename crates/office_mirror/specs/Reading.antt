-- Reading the next answer of an input.
use Rattle.std.specs.Prelude.{◌≡◌, ◌<◌, ◌+◌, ℕ, Option, List, [], ◌++◌, length, Result, Ok, Err}
use Rattle.ldar_ports.specs.Source.{HasEnded}
use Rattle.ldar_ports.specs.declared.ended.Ended.{Ended}
use Rattle.ldar_ports.specs.declared.ended.Ended.TheVariants.{Done, Stopped, CutShort, Refused, ReadFault, WriteFault, Memory}
use Rattle.office_mirror.specs.declared.answer.Answer.{Answer}
use Rattle.office_mirror.specs.AnswerGrammar.{SpellsAnswer, BeginsAnswer, HasNoAnswer, IsFirstWrongInAnswer}

-- the bytes begin an answer, and no prefix of them is one
pub record IsUnfinished (bytes : List ℕ) : Type 0 where
  pub begins : BeginsAnswer bytes
  pub no_answer : HasNoAnswer bytes

-- no prefix of the bytes is an answer, and this is their first wrong place
pub record IsWrong (bytes : List ℕ) (at : ℕ) : Type 0 where
  pub first : IsFirstWrongInAnswer bytes at
  pub no_answer : HasNoAnswer bytes

-- the end of an input that has no further answer, with this many bytes before, these after them, and these unread
abbrev pub EndsReading : Ended → ℕ → List ℕ → Option (List ℕ) → Type 0
EndsReading Done before rest left = (rest ≡ []) × HasEnded left
EndsReading Stopped before rest left = ⊥
EndsReading (CutShort got) before rest left = (0 < got) × (got ≡ length rest) × IsUnfinished rest × HasEnded left
EndsReading (Refused at) before rest left = (place : ℕ) × IsWrong rest place × (at ≡ before + place)
EndsReading ReadFault before rest left = IsUnfinished rest
EndsReading WriteFault before rest left = ⊥
EndsReading Memory before rest left = Unit {0}

-- the first of these bytes spell an answer
pub record IsNext (answer : Answer) (used : ℕ) (bytes rest : List ℕ) : Type 0 where
  pub item : List ℕ
  pub spells : SpellsAnswer item answer
  pub long : length item ≡ used
  pub are : bytes ≡ item ++ rest

-- the next answer was read from these bytes, of which the others are left in hand; or there is none
abbrev pub Reads : Result (Answer × ℕ) Ended → ℕ → List ℕ → List ℕ → Option (List ℕ) → Type 0
Reads (Ok next) before bytes rest left = IsNext next.0 next.1 bytes rest
Reads (Err ended) before bytes rest left = EndsReading ended before bytes left
