-- The answers that a mirror took, what came of each, and the line that says so.
use Rattle.std.specs.Prelude.{◌≡◌, ℕ, Option, Some, None, List, [], ◌∷◌, ◌++◌, length, codes, IsTrue}
use Rattle.std.specs.Fmt.{decimal}
use Rattle.std.specs.List.{flat_map, AllByRecursion}
use Rattle.fact_kinds.specs.declared.batch.Batch.{Batch}
use Rattle.fact_kinds.specs.Identity.{identities_differ}
use Rattle.ldar_journal.specs.Image.{batches_of}
use Rattle.ldar_journal.specs.Shelf.{Shelf}
use Rattle.ldar_law.specs.Machine.{Call, Turn}
use Rattle.ldar_law.specs.Texts.{end_of_line}
use Rattle.ldar_law.specs.Verdicts.{is_ruly}
use Rattle.ldar_ports.specs.Sink.{Piece}
use Rattle.ldar_session.specs.Served.{Served, Talk, clock_beside, turns_in}
use Rattle.office_book.specs.Safe.{Leads, state_of}
use Rattle.office_mirror.specs.declared.answer.Answer.{Answer}
use Rattle.office_mirror.specs.declared.taken.Taken.{Taken}
use Rattle.office_mirror.specs.declared.taken.Taken.TheVariants.{Gap, Held, Stranger, Fault, Memory}
use Rattle.office_mirror.specs.AnswerGrammar.{SpellsAnswer}
use Rattle.office_mirror.specs.Fronts.{From, IsMirrorOf}
use Rattle.office_mirror.specs.Taking.{IsTaken, KeepsMirror, MirrorsAs}

-- an answer that was taken: its bytes, the calls that were made for it, the batches held after it, and what came of it
pub record Take : Type 0 where
  pub bytes : List ℕ
  pub answer : Answer
  pub calls : List Call
  pub history : List Batch
  pub taken : Taken

-- the line that says what came of an answer; a stranger has none
abbrev pub line_of : Taken → List ℕ
line_of (Gap start held) = codes "gap " ++ (decimal start ++ (codes " " ++ (decimal held ++ end_of_line)))
line_of (Held count) = codes "mirrored " ++ (decimal count ++ end_of_line)
line_of (Stranger index reply) = []
line_of Fault = codes "disk fault\n"
line_of Memory = codes "memory\n"

-- no batch of the answer was a stranger's
abbrev pub IsNoStranger : Taken → Type 0
IsNoStranger (Gap start held) = Unit {0}
IsNoStranger (Held count) = Unit {0}
IsNoStranger (Stranger index reply) = ⊥
IsNoStranger Fault = Unit {0}
IsNoStranger Memory = Unit {0}

-- ---- what was served

-- what was served of an answer: each turn of its calls. Its bytes and its line are those of the last turn, or of none if nothing was asked.
abbrev pub served_for : List ℕ → List ℕ → List Turn → List Served
served_for bytes line [] = record { item = bytes; turn = None; text = line } ∷ []
served_for bytes line (turn ∷ []) = record { item = bytes; turn = Some turn; text = line } ∷ []
served_for bytes line (turn ∷ other ∷ turns) = record { item = []; turn = Some turn; text = [] } ∷ served_for bytes line (other ∷ turns)

-- .. of each answer
abbrev pub served_of : List Take → List Served
served_of takes = flat_map (λ take. served_for take.bytes (line_of take.taken) (turns_in take.calls)) takes

-- the bytes of the answers, one after the other
abbrev pub bytes_taken : List Take → List ℕ
bytes_taken takes = flat_map (λ take. take.bytes) takes

-- any turn may be one of an answer: what it asks and its result are stated for the whole answer
abbrev pub IsOfAnswer : Served → Type 0
IsOfAnswer s = Unit {0}

-- ---- a run of answers

-- the bytes spell the answer, and this came of it in a mirror that held this number of batches before
pub record IsTake (held : ℕ) (take : Take) : Type 0 where
  pub spells : SpellsAnswer take.bytes take.answer
  pub told : IsTaken take.answer held take.history take.calls take.taken

-- answers were taken one after the other, from one history to another
abbrev pub AreTakes : List Batch → List Take → List Batch → Type 0
AreTakes history [] last = last ≡ history
AreTakes history (take ∷ takes) last = IsTake (length history) take × AreTakes take.history takes last

-- each answer has the batches of this history
abbrev pub AllFrom : List Batch → List Take → Type 0
AllFrom all takes = AllByRecursion (λ take. From all take.answer) takes

-- the result of each answer is what a mirror of its history gets
abbrev pub AllMirror : List Take → Type 0
AllMirror takes = AllByRecursion (λ take. MirrorsAs take.answer take.taken) takes

-- A stretch of answers that a mirror took. Its lines were written, except for this text. A mirror of any history stays one if each answer has
-- the batches of that history.
pub record TakesAnswers {D : Type 0} (content_of : D → Option (List ℕ)) (left_of : D → ℕ → List ℕ → Type 0) (clock_of name_of faults_of : D → ℕ)
    (old new : Shelf D) (pieces pieces' : Option (List Piece)) (takes : List Take) (unsaid : List ℕ) : Type 0 where
  pub talk : Talk IsOfAnswer (Leads content_of left_of clock_of name_of faults_of) (clock_beside clock_of (λ office. office.disk)) old new pieces pieces'
      (served_of takes) unsaid
  pub taken : AreTakes (batches_of old.frames) takes (batches_of new.frames)
  pub mirrors : (all : List Batch) → IsTrue (is_ruly all) → IsTrue (identities_differ all) → IsMirrorOf all (state_of old) → AllFrom all takes
      → KeepsMirror content_of left_of clock_of all old new × AllMirror takes
