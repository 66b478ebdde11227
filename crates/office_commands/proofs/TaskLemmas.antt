-- What a task does in an opened office, as what it does to the disk of the journal.
use Rattle.std.proofs.Common.{◌≡◌, ◌≤◌, ◌∙◌, ℕ, Option, List, [], IsTrue, refl, ap, subst, sym, arith}
use Rattle.disk_model.specs.Images.{Only}
use Rattle.disk_model.specs.Keeps.{Keeps}
use Rattle.disk_model.specs.Told.{Told}
use Rattle.ldar_journal.specs.Crash.{LeavesOnly, OnDisk}
use Rattle.ldar_journal.specs.Image.{batches_of}
use Rattle.ldar_journal.specs.Opening.{IsOpened}
use Rattle.ldar_journal.specs.Shelf.{Shelf}
use Rattle.ldar_law.specs.Machine.{Call}
use Rattle.ldar_law.specs.Verdicts.{is_ruly}
use Rattle.office_book.specs.Safe.{Leads, StandsIn, state_of}
use Rattle.ldar_session.specs.Batches.{IsBatch}
use Rattle.ldar_session.specs.Dock.{Ends as EndsBatches}
use Rattle.ldar_session.specs.Requests.{HasItsAnswer}
use Rattle.ldar_session.specs.Session.{Ends as EndsRequests}
use Rattle.office_commands.specs.declared.command.Command.{Command}
use Rattle.office_commands.specs.declared.command.Task.{Task}
use Rattle.office_commands.specs.declared.command.Task.TheVariants.{Dock, Drain, Import, Seals, Ask}
use Rattle.office_commands.specs.declared.status.Status.{Status}
use Rattle.office_commands.specs.Imports.{EndsImport}
use Rattle.office_commands.specs.Run.{Ends, task_row}
use Rattle.office_commands.specs.Scene.{SeenDisk, Streams, seen}
use Rattle.office_commands.specs.Sending.{IsSent}
use Rattle.office_commands.specs.Tasks.{Does}
use Rattle.office_commands.proofs.ConnectionLemmas.{run_keeps_disk, served_by}
use Rattle.office_commands.proofs.EndLemmas.{are_shown, is_answered}

-- words that are the command end as it does
pub ends_for : (command other : Option Command) (status : Status) (at at' : Streams) (disk disk' : SeenDisk) → command ≡ other
    → Ends command status at at' disk disk' → Ends other status at at' disk disk'
ends_for command other status at at' disk disk' same ends = subst (λ (c : Option Command). Ends c status at at' disk disk') same ends

-- what does one task does the same task by its name
pub does_for : {D : Type 0} (led : Shelf D → List Call → Shelf D → Type 0) (clock_of : D → ℕ) (task other : Task) (status : Status)
    (start end : Shelf D) (at at' : Streams) → task ≡ other → Does led clock_of other status start end at at' → Does led clock_of task status start end at at'
does_for led clock_of task other status start end at at' same does = subst (λ (t : Task). Does led clock_of t status start end at at') (sym same) does

module _ {D : Type 0} (content_of : D → Option (List ℕ)) (images_of : D → List ℕ → Type 0) (left_of : D → ℕ → List ℕ → Type 0)
    (clock_of name_of faults_of : D → ℕ) (only_now : (d : D) (c : List ℕ) → left_of d (clock_of d) c → images_of d c)
    (since_earlier : (d : D) (s t : ℕ) (c : List ℕ) → s ≤ t → left_of d t c → left_of d s c) where
  -- how a task ends over a disk whose journal was opened, and which is handed back
  pub task_ends : (task : Task) (status : Status) (old new : D) (start end : Shelf D) (at at' : Streams)
      → IsOpened (content_of old) (content_of start.disk) start.frames → start.doubt ≡ [] → IsTrue (is_ruly (batches_of start.frames))
      → LeavesOnly clock_of left_of old start.disk (images_of old) → Told (content_of start.disk) (λ bytes. Only bytes (images_of start.disk))
      → Keeps clock_of name_of faults_of old start.disk
      → Does (Leads content_of left_of clock_of name_of faults_of) clock_of task status start end at at' → new ≡ end.disk
      → OnDisk (content_of new) (images_of new) (StandsIn (state_of end))
      → (task_row task).ends status at at' (seen content_of images_of left_of clock_of faults_of old) (seen content_of images_of left_of clock_of faults_of new)
  task_ends Dock status old new start end at at' opened settled ruly entry only keeps does same stands = (
    does.0,
    does.1,
    served_by content_of images_of left_of clock_of name_of faults_of only_now since_earlier IsBatch EndsBatches old new start end does.0 at at'
        opened settled ruly entry only keeps does.2 same stands,
  )
  task_ends Drain status old new start end at at' opened settled ruly entry only keeps does same stands = (
    does.0,
    does.1,
    served_by content_of images_of left_of clock_of name_of faults_of only_now since_earlier HasItsAnswer EndsRequests old new start end does.0 at at'
        opened settled ruly entry only keeps does.2 same stands,
  )
  task_ends (Import number sort) status old new start end at at' opened settled ruly entry only keeps does same stands =
      served_by content_of images_of left_of clock_of name_of faults_of only_now since_earlier IsSent
      (EndsImport sort number (at.output_faults, at'.output_faults)) old new start end status at at' opened settled ruly entry only keeps does same stands
  task_ends (Seals unit day) status old new start end at at' opened settled ruly entry only keeps does same stands =
      are_shown content_of images_of left_of clock_of faults_of unit day status at at' old new start opened ruly entry
      (same ∙ ap (λ (s : Shelf D). s.disk) does.0) does.1
  task_ends (Ask question) status old new start end at at' opened settled ruly entry only keeps does same stands =
      is_answered content_of images_of left_of clock_of faults_of question status at at' old new start opened ruly entry
      (same ∙ ap (λ (s : Shelf D). s.disk) does.0) does.1 does.2

  -- an office that stays keeps its disk
  stays_keeps : (start end : Shelf D) → end ≡ start → Keeps clock_of name_of faults_of start.disk end.disk
  stays_keeps start end same =
      subst (λ (s : Shelf D). Keeps clock_of name_of faults_of start.disk s.disk) (sym same)
      (record { time = omega arith; name = refl; count = omega arith })

  -- each task keeps what each call of a disk keeps
  pub task_keeps : (task : Task) (status : Status) (start end : Shelf D) (at at' : Streams)
      → Does (Leads content_of left_of clock_of name_of faults_of) clock_of task status start end at at' → Keeps clock_of name_of faults_of start.disk end.disk
  task_keeps Dock status start end at at' does =
      run_keeps_disk content_of images_of left_of clock_of name_of faults_of only_now since_earlier start end does.2.4.stretch.calls does.2.4.stretch.run
  task_keeps Drain status start end at at' does =
      run_keeps_disk content_of images_of left_of clock_of name_of faults_of only_now since_earlier start end does.2.4.stretch.calls does.2.4.stretch.run
  task_keeps (Import number sort) status start end at at' does =
      run_keeps_disk content_of images_of left_of clock_of name_of faults_of only_now since_earlier start end does.4.stretch.calls does.4.stretch.run
  task_keeps (Seals unit day) status start end at at' does = stays_keeps start end does.0
  task_keeps (Ask question) status start end at at' does = stays_keeps start end does.0

  -- .. and so does opening the journal, the task, and handing the disk back
  pub keeps_along : (old new : D) (start end : Shelf D) → Keeps clock_of name_of faults_of old start.disk
      → Keeps clock_of name_of faults_of start.disk end.disk → new ≡ end.disk → Keeps clock_of name_of faults_of old new
  keeps_along old new start end one two same =
      let sooner = one.time in
      let later = two.time in
      let fewer = one.count in
      let more = two.count in
      subst (λ (d : D). Keeps clock_of name_of faults_of old d) (sym same)
      (record { time = omega arith; name = two.name ∙ one.name; count = omega arith })
