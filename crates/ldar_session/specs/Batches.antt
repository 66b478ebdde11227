-- Items that are batches, and the line that answers each of them.
use Rattle.std.specs.Prelude.{◌≡◌, ℕ, false, List, MatchOption}
use Rattle.fact_kinds.specs.declared.batch.Batch.{Batch}
use Rattle.ldar_facts.specs.Grammar.{Begins, HasNoBatch, IsFirstWrongPlace, Spells}
use Rattle.ldar_law.specs.declared.request.Request.{Request}
use Rattle.ldar_law.specs.declared.request.Request.TheVariants.{Sync, Due, Tags, Delays, Route, Percent, Report as ReportView}
use Rattle.ldar_law.specs.Replies.{reply_text}
use Rattle.ldar_session.specs.Served.{Served}
use Rattle.ldar_session.specs.Speech.{Speech}

-- the bytes spell the batch of this request
abbrev pub Asks : List ℕ → Request → Type 0
Asks item (Sync batch) = Spells item batch
Asks item (Due unit day) = ⊥
Asks item (Tags unit day) = ⊥
Asks item (Delays unit day) = ⊥
Asks item (Route unit day stops) = ⊥
Asks item (Percent unit quarter day) = ⊥
Asks item (ReportView unit half day) = ⊥

-- the item is a batch, its turn's request is to keep it, and its text is the line of the reply
abbrev pub IsBatch : Served → Type 0
IsBatch s = MatchOption s.turn ⊥ (λ turn. Asks s.item turn.request × (s.text ≡ reply_text turn.reply))

-- the bytes spell a batch
abbrev pub IsSpelling : List ℕ → Type 0
IsSpelling bytes = (batch : Batch) × Spells bytes batch

-- the bytes begin a batch, and no prefix of them is one
pub record IsUnfinished (bytes : List ℕ) : Type 0 where
  pub begins : Begins bytes
  pub no_batch : HasNoBatch bytes

-- no prefix of the bytes is a batch, and this is their first wrong place
pub record IsWrong (bytes : List ℕ) (at : ℕ) : Type 0 where
  pub first : IsFirstWrongPlace bytes at
  pub no_batch : HasNoBatch bytes

-- each item is a batch, which is answered by a line; none closes the connection, and wrong bytes get no answer
abbrev pub batch_speech : Speech
batch_speech = record {
  asks = λ closing item request. (closing ≡ false) × Asks item request;
  says = λ closing reply. reply_text reply;
  answers = λ closing item text. ⊥;
  awaits = IsUnfinished;
  wrong = IsWrong;
  away = λ bytes text. ⊥;
}
