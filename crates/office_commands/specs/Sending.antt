-- What is served of batches that are sent one after the other, up to and including the first without a receipt.
use Rattle.std.specs.Prelude.{◌≡◌, ◌≤◌, ◌⊎◌, ℕ, List, [], ◌∷◌, ◌++◌, length, map, MatchOption}
use Rattle.std.specs.List.{AllByRecursion}
use Rattle.disk_model.specs.Faults.{Rose}
use Rattle.ldar_law.specs.declared.reply.Reply.{Reply}
use Rattle.ldar_law.specs.declared.reply.Reply.TheVariants.{Receipt, Conflict, Denied, Full, Shown, NoSuch, Fault, Memory as WantsMemory}
use Rattle.ldar_law.specs.declared.request.Request.{Request}
use Rattle.ldar_law.specs.Machine.{Turn}
use Rattle.ldar_law.specs.Replies.{reply_text}
use Rattle.office_commands.specs.declared.batches.Sent.{Sent}
use Rattle.office_commands.specs.declared.batches.Sent.TheVariants.{Done, Unreceipted, WriteFault, Memory}
use Rattle.office_commands.specs.declared.batches.Unkept.{Unkept}
use Rattle.office_commands.specs.declared.batches.Unkept.TheVariants as unkepts
use Rattle.ldar_session.specs.Served.{Served, turns_of}

-- a sent batch has a turn, and its text is the line of the reply; it has no bytes of the input
pub record IsSent (s : Served) : Type 0 where
  pub no_item : s.item ≡ []
  pub says : MatchOption s.turn ⊥ (λ turn. s.text ≡ reply_text turn.reply)

-- the reply is a receipt
abbrev pub IsReceipt : Reply → Type 0
IsReceipt (Receipt handheld number position) = Unit {0}
IsReceipt (Conflict position) = ⊥
IsReceipt (Denied fact rule) = ⊥
IsReceipt (Full facts) = ⊥
IsReceipt (Shown text) = ⊥
IsReceipt (NoSuch what) = ⊥
IsReceipt Fault = ⊥
IsReceipt WantsMemory = ⊥

-- the reply can be one to a batch, not to a view
abbrev pub IsOfBatch : Reply → Type 0
IsOfBatch (Shown text) = ⊥
IsOfBatch (NoSuch what) = ⊥
IsOfBatch _ = Unit {0}

-- the reply to a batch that is not kept
abbrev pub reply_for : Unkept → Reply
reply_for (unkepts.Conflict position) = Conflict position
reply_for (unkepts.Denied fact rule) = Denied fact rule
reply_for (unkepts.Full facts) = Full facts
reply_for unkepts.Fault = Fault
reply_for unkepts.Memory = WantsMemory

-- the end of sending a batch, by its reply: as given if it is a receipt
abbrev pub sent_as : Reply → Sent → Sent
sent_as (Receipt handheld number position) receipted = receipted
sent_as (Conflict position) receipted = Unreceipted (unkepts.Conflict position)
sent_as (Denied fact rule) receipted = Unreceipted (unkepts.Denied fact rule)
sent_as (Full facts) receipted = Unreceipted (unkepts.Full facts)
sent_as (Shown text) receipted = receipted
sent_as (NoSuch what) receipted = receipted
sent_as Fault receipted = Unreceipted unkepts.Fault
sent_as WantsMemory receipted = Unreceipted unkepts.Memory

-- the reply of each of these turns is a receipt
abbrev pub AreReceipted : List Turn → Type 0
AreReceipted turns = AllByRecursion (λ turn. IsReceipt turn.reply) turns

-- the requests of these turns, in order
abbrev pub asked_in : List Turn → List Request
asked_in turns = map (λ turn. turn.request) turns

-- all were sent, each got a receipt, and all text was written
pub record AllReceipted (requests : List Request) (served : List Served) (unsaid : List ℕ) : Type 0 where
  pub said : unsaid ≡ []
  pub asked : asked_in (turns_of served) ≡ requests
  pub receipts : AreReceipted (turns_of served)

-- the first of them were sent, up to one with this reply, and those before it got receipts
pub record SentUpTo (reply : Reply) (requests : List Request) (served : List Served) : Type 0 where
  pub before : List Turn
  pub last : Turn
  pub turns : turns_of served ≡ before ++ last ∷ []
  pub receipts : AreReceipted before
  pub replied : last.reply ≡ reply
  pub behind : List Request
  pub asked : requests ≡ asked_in (turns_of served) ++ behind

-- the text that was not written is part of the line of this reply
abbrev pub IsOfLine : Reply → List ℕ → Type 0
IsOfLine reply unsaid = length unsaid ≤ length (reply_text reply)

-- the last reply was no receipt; all text was written, or after a write error, only part of the last line was not written
pub record EndsUnreceipted (unkept : Unkept) (requests : List Request) (served : List Served) (unsaid : List ℕ) (old new : ℕ) : Type 0 where
  pub sent : SentUpTo (reply_for unkept) requests served
  pub said : (unsaid ≡ []) ⊎ Rose old new
  pub of_last : IsOfLine (reply_for unkept) unsaid

-- the last reply was this one, and only part of its line may not be written
pub record EndsAt (reply : Reply) (requests : List Request) (served : List Served) (unsaid : List ℕ) : Type 0 where
  pub sent : SentUpTo reply requests served
  pub of_last : IsOfLine reply unsaid

-- the end of sending these requests, from what was served, the text not written, and the counts of errors of the sink before and after
abbrev pub EndsAsking : Sent → List Request → List Served → List ℕ → ℕ → ℕ → Type 0
EndsAsking Done requests served unsaid old new = AllReceipted requests served unsaid
EndsAsking (Unreceipted unkept) requests served unsaid old new = EndsUnreceipted unkept requests served unsaid old new
EndsAsking WriteFault requests served unsaid old new = (reply : Reply) × IsReceipt reply × EndsAt reply requests served unsaid
EndsAsking Memory requests served unsaid old new = (reply : Reply) × EndsAt reply requests served unsaid
