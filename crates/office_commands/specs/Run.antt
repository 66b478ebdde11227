-- What a run of the program does to its streams, the reports on file and its disk, for each command.
use Rattle.std.specs.Prelude.{◌≡◌, ◌<◌, ◌≤◌, ◌⊎◌, ℕ, Option, Some, None, List, [], ◌++◌, length, codes, IsTrue, Bool, true, false}
use Rattle.std.specs.Fmt.{decimal}
use Rattle.disk_model.specs.Told.{Told, BothTold}
use Rattle.fact_kinds.specs.declared.batch.Batch.{Batch}
use Rattle.fact_kinds.specs.Facts.{facts_of, facts_to}
use Rattle.ldar_ports.specs.Sink.{Piece}
use Rattle.ldar_journal.specs.Crash.{OnDisk}
use Rattle.ldar_journal.specs.Image.{Opens}
use Rattle.ldar_law.specs.declared.report.Filed.{Filed}
use Rattle.ldar_law.specs.declared.reply.Reply.{Reply}
use Rattle.ldar_law.specs.declared.reply.Reply.TheVariants.{Receipt, Conflict, Denied, Full, Shown, NoSuch, Fault, Memory as WantsMemory}
use Rattle.ldar_law.specs.Shown.{shown}
use Rattle.ldar_law.specs.Verdicts.{is_ruly}
use Rattle.office_views.specs.Answers.{report_asked, IsView}
use Rattle.register_import.specs.declared.limits.TheConstants.{LAST_NUMBER}
use Rattle.drill_history.specs.declared.numbers.TheConstants.{GREATEST_SEED, LARGEST_DRILL}
use Rattle.office_book.specs.declared.opening.BookWhy.{BookWhy}
use Rattle.office_book.specs.Opened.{IsReason}
use Rattle.ldar_ports.specs.declared.ended.Ended.{Ended}
use Rattle.office_commands.specs.declared.command.Command.{Command}
use Rattle.office_commands.specs.declared.command.Command.TheVariants.{Init, Amended, Drill, Mirror, Office}
use Rattle.office_commands.specs.declared.command.RevisionPair.{RevisionPair}
use Rattle.office_commands.specs.declared.command.Task.{Task}
use Rattle.office_commands.specs.declared.command.Task.TheVariants.{Dock, Drain, Import, Seals, Ask}
use Rattle.office_commands.specs.declared.command.Question.{Question}
use Rattle.office_commands.specs.declared.command.Question.TheVariants.{Show, File, Check, Offer}
use Rattle.office_commands.specs.declared.status.Status.{Status}
use Rattle.office_commands.specs.declared.status.Status.TheVariants.{Done, Usage, DiskFault}
use Rattle.office_commands.specs.declared.status.Status.TheVariants.{NotEmpty, NoSuch as HasNoSuch}
use Rattle.office_commands.specs.Connection.{IsDocked, IsDrained, IsImported}
use Rattle.office_commands.specs.Drills.{IsMadeOnly, IsDrilled}
use Rattle.office_commands.specs.Filing.{AmendedEnds, AskedEnds}
use Rattle.office_commands.specs.Mirrors.{IsMirrored}
use Rattle.office_commands.specs.Offering.{OfferEnds}
use Rattle.office_commands.specs.Scene.{Streams, SeenDisk, IsSilent, LeavesAlone, MayLeave}
use Rattle.office_commands.specs.SealViews.{ShowsSeals}
use Rattle.office_commands.specs.Statuses.{TextEnds, refusal_of, status_of}

-- ---- the journal

-- the journal was not opened, for a reason in its bytes if they are exposed, and was not changed
pub record IsNotOpened (status : Status) (disk disk' : SeenDisk) : Type 0 where
  pub why : BookWhy
  pub tells : status ≡ refusal_of why
  pub reason : IsReason disk.content why
  pub alone : LeavesAlone disk disk'

-- the bytes open to this history, which is ruly
pub record IsOpened (content : Option (List ℕ)) (history : List Batch) : Type 0 where
  pub opens : Told content (λ bytes. Opens bytes history)
  pub ruly : IsTrue (is_ruly history)

-- ---- init

-- the end of creating a journal: created if the disk was empty, and refused exactly if it was not. After a disk error the disk is
-- unchanged, or it was empty and has at most the bytes of the empty journal.
abbrev pub InitEnds : Status → Option (List ℕ) → Option (List ℕ) → Type 0
InitEnds Done old new = BothTold old new (λ old new. (old ≡ []) × Opens new [])
InitEnds DiskFault old new = BothTold old new (λ old new. (new ≡ old) ⊎ ((old ≡ []) × (length new ≤ 17)))
InitEnds NotEmpty old new = BothTold old new (λ old new. (0 < length old) × (new ≡ old))
InitEnds _ old new = ⊥

-- if the journal was created, a crash leaves an empty journal; if the disk was not empty, a crash leaves only what it could have left
-- before
pub record IsMade (status : Status) (disk disk' : SeenDisk) : Type 0 where
  pub ends : InitEnds status disk.content disk'.content
  pub images : status ≡ Done → OnDisk disk'.content disk'.images (λ image. Opens image [])
  pub refused : status ≡ NotEmpty → MayLeave disk disk' disk.images
  pub others : Told disk.content (λ bytes. 0 < length bytes → MayLeave disk disk' disk.images)

-- ---- a text about a history

-- journal B batches F facts
abbrev pub counts_text : ℕ → ℕ → List ℕ
counts_text batches facts = codes "journal " ++ decimal batches ++ codes " batches " ++ decimal facts ++ codes " facts\n"

abbrev pub check_text : List Batch → List ℕ
check_text history = counts_text (length history) (length (facts_of history))

-- the end of writing what is shown; it may not exist, and then nothing is written
abbrev pub ReplyEnds : Reply → Status → Option (List Piece) → Option (List Piece) → Type 0
ReplyEnds (Receipt handheld number position) status old new = ⊥
ReplyEnds (Conflict position) status old new = ⊥
ReplyEnds (Denied fact rule) status old new = ⊥
ReplyEnds (Full facts) status old new = ⊥
ReplyEnds (Shown text) status old new = TextEnds text status old new
ReplyEnds (NoSuch what) status old new = (status ≡ HasNoSuch what) × (new ≡ old)
ReplyEnds Fault status old new = ⊥
ReplyEnds WantsMemory status old new = ⊥

-- the end of writing what a history shows, if it shows anything
abbrev pub ShowsEnds : Option Reply → Status → Option (List Piece) → Option (List Piece) → Type 0
ShowsEnds shown status old new = (reply : Reply) × (shown ≡ Some reply) × ReplyEnds reply status old new

-- ---- amended

-- two revisions were compared; nothing was read, and the reports on file are as before
pub record IsCompared (pair : RevisionPair) (status : Status) (old new : Streams) : Type 0 where
  pub unread : new.unread ≡ old.unread
  pub filed : new.filed ≡ old.filed
  pub ends : AmendedEnds pair status old.filed old.pieces new.pieces

-- ---- drill

-- The end of a drill: no journal was made; or one was made and not opened; or it was run. Unless it was run, nothing was printed.
abbrev pub DrillEnds : ℕ → ℕ → Status → Option (List Piece) → Option (List Piece) → SeenDisk → SeenDisk → Type 0
DrillEnds seed size status old new disk disk' =
    ((new ≡ old) × IsMade status disk disk' × ¬ (status ≡ Done))
    ⊎ (((new ≡ old) × IsMadeOnly status disk disk') ⊎ IsDrilled seed size status old new disk disk')

-- ---- the table of commands: for each, what it may touch, the range of its words, and how it ends

-- what a command may touch beside the output and the notes: it reads the input, uses the disk of the journal, asks for reports on file, files one
pub record Touched : Type 0 where
  pub input : Bool
  pub disk : Bool
  pub filing : Bool
  pub reports : Bool

abbrev pub untouched : Touched
untouched = record { input = false; disk = false; filing = false; reports = false }

-- a task in an office uses the disk of its journal
abbrev pub office_only : Touched
office_only = record untouched { disk = true }

-- a question of the history: what is put on file, and what is written
pub record QuestionRow : Type 1 where
  pub touches : Touched
  pub in_range : Type 0
  pub answers : List Batch → Status → (filed filed' : Option (List Filed)) (pieces pieces' : Option (List Piece)) → Type 0

abbrev pub question_row : Question → QuestionRow
question_row (Show request) = record {
  touches = office_only;
  in_range = IsView request;
  answers = λ history status filed filed' pieces pieces'. ShowsEnds (shown history request) status pieces pieces';
}
question_row (File unit half day) = record {
  touches = record office_only { filing = true; reports = true };
  in_range = Unit {0};
  answers = λ history status filed filed' pieces pieces'.
      AskedEnds (report_asked unit half day (facts_to day history)) status filed filed' pieces pieces';
}
question_row Check = record {
  touches = office_only;
  in_range = Unit {0};
  answers = λ history status filed filed' pieces pieces'. TextEnds (check_text history) status pieces pieces';
}
question_row (Offer from) = record {
  touches = office_only;
  in_range = Unit {0};
  answers = λ history status filed filed' pieces pieces'. OfferEnds history from status pieces pieces';
}

-- how a question of the history ends
abbrev pub Answers : Question → List Batch → Status → (filed filed' : Option (List Filed)) (pieces pieces' : Option (List Piece)) → Type 0
Answers question = (question_row question).answers

-- a question was answered of the history of the journal; nothing was read, and the journal is unchanged
pub record IsAnswered (question : Question) (status : Status) (old new : Streams) (disk disk' : SeenDisk) : Type 0 where
  pub history : List Batch
  pub opened : IsOpened disk.content history
  pub unread : new.unread ≡ old.unread
  pub ends : Answers question history status old.filed new.filed old.pieces new.pieces
  pub alone : LeavesAlone disk disk'

-- the pumps that a seal file names were shown by the history of the journal, and the journal is unchanged
pub record AreSealsShown (unit day : ℕ) (status : Status) (old new : Streams) (disk disk' : SeenDisk) : Type 0 where
  pub history : List Batch
  pub opened : IsOpened disk.content history
  pub shows : ShowsSeals unit day history status old new
  pub alone : LeavesAlone disk disk'

-- the journal was not opened, and nothing else was changed
pub record IsRefused (status : Status) (old new : Streams) (disk disk' : SeenDisk) : Type 0 where
  pub silent : IsSilent old new
  pub filed : new.filed ≡ old.filed
  pub shut : IsNotOpened status disk disk'

-- a task in the office over an opened journal
pub record TaskRow : Type 1 where
  pub touches : Touched
  pub in_range : Type 0
  pub ends : Status → Streams → Streams → SeenDisk → SeenDisk → Type 0

abbrev pub task_row : Task → TaskRow
task_row Dock = record {
  touches = record office_only { input = true };
  in_range = Unit {0};
  ends = λ status old new disk disk'. (ended : Ended) × (status ≡ status_of ended) × IsDocked ended old new disk disk';
}
task_row Drain = record {
  touches = record office_only { input = true };
  in_range = Unit {0};
  ends = λ status old new disk disk'. (ended : Ended) × (status ≡ status_of ended) × IsDrained ended old new disk disk';
}
task_row (Import number sort) = record {
  touches = record office_only { input = true };
  in_range = number ≤ LAST_NUMBER;
  ends = IsImported sort number;
}
task_row (Seals unit day) = record {
  touches = record office_only { input = true };
  in_range = Unit {0};
  ends = AreSealsShown unit day;
}
task_row (Ask question) = record {
  touches = (question_row question).touches;
  in_range = (question_row question).in_range;
  ends = IsAnswered question;
}

-- a command: what it reads, writes and leaves
pub record Row : Type 1 where
  pub touches : Touched
  pub in_range : Type 0
  pub ends : Status → Streams → Streams → SeenDisk → SeenDisk → Type 0

abbrev pub row_of : Command → Row
row_of Init = record {
  touches = office_only;
  in_range = Unit {0};
  ends = λ status old new disk disk'. IsSilent old new × IsMade status disk disk';
}
row_of (Amended pair) = record {
  touches = record untouched { filing = true };
  in_range = Unit {0};
  ends = λ status old new disk disk'. IsCompared pair status old new;
}
row_of (Drill seed size) = record {
  touches = office_only;
  in_range = (seed ≤ GREATEST_SEED) × (size ≤ LARGEST_DRILL);
  ends = λ status old new disk disk'.
      (new.unread ≡ old.unread) × (new.filed ≡ old.filed) × DrillEnds seed size status old.pieces new.pieces disk disk';
}
row_of Mirror = record {
  touches = record office_only { input = true };
  in_range = Unit {0};
  ends = λ status old new disk disk'. IsRefused status old new disk disk' ⊎ IsMirrored status old new disk disk';
}
row_of (Office task) = record {
  touches = record ((task_row task).touches) { disk = true };
  in_range = (task_row task).in_range;
  ends = λ status old new disk disk'. IsRefused status old new disk disk' ⊎ (task_row task).ends status old new disk disk';
}

-- words that are no command touch nothing
abbrev pub touched_by : Option Command → Touched
touched_by None = untouched
touched_by (Some command) = (row_of command).touches

-- .. and end as usage errors
abbrev pub Ends : Option Command → Status → Streams → Streams → SeenDisk → SeenDisk → Type 0
Ends None status old new disk disk' = (status ≡ Usage) × IsSilent old new
Ends (Some command) status old new disk disk' = (row_of command).ends status old new disk disk'

abbrev pub IsInRange : Command → Type 0
IsInRange command = (row_of command).in_range
