-- How taking the answers of an input ends.
use Rattle.std.specs.Prelude.{◌≡◌, ◌<◌, ◌≤◌, ℕ, Option, List, [], ◌∷◌, ◌++◌, length, Result, Ok, Err}
use Rattle.std.specs.List.{AllByRecursion}
use Rattle.ldar_law.specs.declared.reply.Reply.{Reply}
use Rattle.ldar_session.specs.declared.ended.TheConstants.{MOST_ANSWERS}
use Rattle.ldar_ports.specs.declared.ended.Ended.{Ended as InputEnded}
use Rattle.ldar_ports.specs.declared.ended.Ended.TheVariants.{Done, Stopped, CutShort, Refused, ReadFault, WriteFault, Memory}
use Rattle.office_mirror.specs.declared.taken.Taken.TheVariants as outcomes
use Rattle.office_mirror.specs.declared.ended.MirrorEnded.{MirrorEnded}
use Rattle.office_mirror.specs.declared.ended.MirrorEnded.TheVariants.{Ended, Stranger}
use Rattle.office_mirror.specs.MirrorRun.{Take, IsNoStranger, bytes_taken, line_of}
use Rattle.office_mirror.specs.Reading.{EndsReading}

-- no batch of these answers was a stranger's
abbrev pub NoStrangers : List Take → Type 0
NoStrangers takes = AllByRecursion (λ take. IsNoStranger take.taken) takes

-- fewer answers than the maximum were taken, each line was written, and no further answer was read
pub record EndsInput (ended : InputEnded) (takes : List Take) (rest : List ℕ) (left : Option (List ℕ)) (unsaid : List ℕ) : Type 0 where
  pub said : unsaid ≡ []
  pub own : NoStrangers takes
  pub fewer : length takes < MOST_ANSWERS
  pub input : EndsReading ended (length (bytes_taken takes)) rest left

-- the maximum number of answers was taken, and each line was written
pub record EndsStopped (takes : List Take) (unsaid : List ℕ) : Type 0 where
  pub said : unsaid ≡ []
  pub own : NoStrangers takes
  pub most : length takes ≡ MOST_ANSWERS

-- at most the maximum number of answers was taken; only a part of the last line may not be written
pub record EndsUnsaid (takes : List Take) (unsaid : List ℕ) : Type 0 where
  pub before : List Take
  pub last : Take
  pub are : takes ≡ before ++ last ∷ []
  pub own : NoStrangers takes
  pub most : length takes ≤ MOST_ANSWERS
  pub lacks : length unsaid ≤ length (line_of last.taken)

-- the batch at this place of the last answer is a stranger's; the lines of all answers before it were written
pub record EndsStrange (index : ℕ) (takes : List Take) (unsaid : List ℕ) : Type 0 where
  pub before : List Take
  pub last : Take
  pub are : takes ≡ before ++ last ∷ []
  pub said : unsaid ≡ []
  pub own : NoStrangers before
  pub most : length takes ≤ MOST_ANSWERS
  pub reply : Reply
  pub told : last.taken ≡ outcomes.Stranger index reply

-- how it ended, from the answers that were taken, the bytes in hand after them, the bytes unread in the source, and the text that was not
-- written
abbrev pub EndsMirror : MirrorEnded → List Take → List ℕ → Option (List ℕ) → List ℕ → Type 0
EndsMirror (Ended Done) takes rest left unsaid = EndsInput Done takes rest left unsaid
EndsMirror (Ended Stopped) takes rest left unsaid = EndsStopped takes unsaid
EndsMirror (Ended (CutShort got)) takes rest left unsaid = EndsInput (CutShort got) takes rest left unsaid
EndsMirror (Ended (Refused at)) takes rest left unsaid = EndsInput (Refused at) takes rest left unsaid
EndsMirror (Ended ReadFault) takes rest left unsaid = EndsInput ReadFault takes rest left unsaid
EndsMirror (Ended WriteFault) takes rest left unsaid = EndsUnsaid takes unsaid
EndsMirror (Ended Memory) takes rest left unsaid = EndsInput Memory takes rest left unsaid
EndsMirror (Stranger index) takes rest left unsaid = EndsStrange index takes unsaid

-- ---- internal: one answer

-- an answer was taken and its line was written; or a part of its line was not; or a batch was a stranger's, and nothing was written
abbrev pub EndsTurn : Result (Unit {0}) MirrorEnded → Take → List ℕ → Type 0
EndsTurn (Ok done) take unsaid = (unsaid ≡ []) × IsNoStranger take.taken
EndsTurn (Err (Ended Done)) take unsaid = ⊥
EndsTurn (Err (Ended Stopped)) take unsaid = ⊥
EndsTurn (Err (Ended (CutShort got))) take unsaid = ⊥
EndsTurn (Err (Ended (Refused at))) take unsaid = ⊥
EndsTurn (Err (Ended ReadFault)) take unsaid = ⊥
EndsTurn (Err (Ended WriteFault)) take unsaid = IsNoStranger take.taken × (length unsaid ≤ length (line_of take.taken))
EndsTurn (Err (Ended Memory)) take unsaid = ⊥
EndsTurn (Err (Stranger index)) take unsaid = (unsaid ≡ []) × (reply : Reply) × (take.taken ≡ outcomes.Stranger index reply)
