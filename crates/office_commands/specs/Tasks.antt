-- What each task does in an opened office.
use Rattle.std.specs.Prelude.{◌≡◌, ℕ, Option, List, ◌++◌}
use Rattle.ldar_journal.specs.Image.{batches_of}
use Rattle.ldar_journal.specs.Shelf.{Shelf}
use Rattle.ldar_law.specs.Machine.{Call}
use Rattle.ldar_ports.specs.Source.{Takes}
use Rattle.ldar_session.specs.Batches.{IsBatch}
use Rattle.ldar_session.specs.Dock.{Ends as EndsBatches}
use Rattle.ldar_session.specs.Requests.{HasItsAnswer}
use Rattle.ldar_session.specs.Session.{Ends as EndsRequests}
use Rattle.ldar_session.specs.Served.{Served, Talk, clock_beside, items_of}
use Rattle.ldar_ports.specs.declared.ended.Ended.{Ended}
use Rattle.office_commands.specs.declared.command.Task.{Task}
use Rattle.office_commands.specs.declared.command.Task.TheVariants.{Dock, Drain, Import, Seals, Ask}
use Rattle.office_commands.specs.declared.status.Status.{Status}
use Rattle.office_commands.specs.Imports.{EndsImport}
use Rattle.office_commands.specs.Run.{Answers}
use Rattle.office_commands.specs.Scene.{Streams}
use Rattle.office_commands.specs.SealViews.{ShowsSeals}
use Rattle.office_commands.specs.Sending.{IsSent}
use Rattle.office_commands.specs.Statuses.{status_of}

-- items were served in the office, from what was read, what is unread, and what was not written
abbrev pub Talks : {D E : Type 0} (led : Shelf D → List Call → Shelf D → Type 0) (clock_of : D → ℕ) (IsItem : Served → Type 0)
    (Closes : E → List Served → List ℕ → Option (List ℕ) → List ℕ → Type 0) (ended : E) (office office' : Shelf D) (old new : Streams) → Type 0
Talks led clock_of IsItem Closes ended office office' old new =
    (served : List Served) × (rest : List ℕ) × (unsaid : List ℕ) × Takes old.unread (items_of served ++ rest) new.unread
    × Talk IsItem led (clock_beside clock_of (λ office. office.disk)) office office' old.pieces new.pieces served unsaid
    × Closes ended served rest new.unread unsaid

-- what a task does: it serves items; or it leaves the office as it was, and shows the pumps that a seal file names, or reads nothing and answers
-- a question of its history
abbrev pub Does : {D : Type 0} (led : Shelf D → List Call → Shelf D → Type 0) (clock_of : D → ℕ) → Task → Status → (office office' : Shelf D) → Streams → Streams → Type 0
Does led clock_of Dock status office office' old new =
    (ended : Ended) × (status ≡ status_of ended) × Talks led clock_of IsBatch EndsBatches ended office office' old new
Does led clock_of Drain status office office' old new =
    (ended : Ended) × (status ≡ status_of ended) × Talks led clock_of HasItsAnswer EndsRequests ended office office' old new
Does led clock_of (Import number sort) status office office' old new =
    Talks led clock_of IsSent (EndsImport sort number (old.output_faults, new.output_faults)) status office office' old new
Does led clock_of (Seals unit day) status office office' old new = (office' ≡ office) × ShowsSeals unit day (batches_of office.frames) status old new
Does led clock_of (Ask question) status office office' old new =
    (office' ≡ office) × (new.unread ≡ old.unread)
    × Answers question (batches_of office.frames) status old.filed new.filed old.pieces new.pieces
