-- The view of pumps with dual mechanical seals, from a seal file that is read: how its text is written, or why there is none.
use Rattle.std.specs.Prelude.{◌≡◌, ◌⊎◌, ℕ, Option, List, Result, Ok, Err}
use Rattle.fact_kinds.specs.declared.batch.Batch.{Batch}
use Rattle.fact_kinds.specs.Facts.{facts_to}
use Rattle.ldar_law.specs.declared.request.What.TheVariants.{Unit as UnitAsked}
use Rattle.ldar_ports.specs.Sink.{Piece}
use Rattle.ldar_ports.specs.Source.{Takes}
use Rattle.seal_view.specs.declared.error.SealsWhy.{SealsWhy}
use Rattle.seal_view.specs.declared.error.SealsWhy.TheVariants as why
use Rattle.seal_view.specs.View.{seals_asked}
use Rattle.office_commands.specs.declared.status.Status.{Status}
use Rattle.office_commands.specs.declared.status.Status.TheVariants.{BadRow, NoSuch}
use Rattle.office_commands.specs.Imports.{IsRead, ReadsNone}
use Rattle.office_commands.specs.Scene.{Streams}
use Rattle.office_commands.specs.Statuses.{TextEnds}

-- the text of the view is written; or it does not exist, and nothing is written
abbrev pub TellsSeals : Result (List ℕ) SealsWhy → Status → (pieces pieces' : Option (List Piece)) → Type 0
TellsSeals (Ok text) status pieces pieces' = TextEnds text status pieces pieces'
TellsSeals (Err why.NoUnit) status pieces pieces' = (status ≡ NoSuch UnitAsked) × (pieces' ≡ pieces)
TellsSeals (Err (why.BadRow at)) status pieces pieces' = (status ≡ BadRow at) × (pieces' ≡ pieces)
TellsSeals (Err why.Memory) status pieces pieces' = ⊥

-- the file was not read or memory ran out, and nothing was written; or it was read whole, and this is told
abbrev pub EndsSeals : Result (List ℕ) SealsWhy → Status → List ℕ → Option (List ℕ) → (pieces pieces' : Option (List Piece)) → Type 0
EndsSeals asked status text unread pieces pieces' =
    (ReadsNone status text × (pieces' ≡ pieces)) ⊎ (IsRead text unread × TellsSeals asked status pieces pieces')

-- the end of showing the pumps of a process unit that a seal file names, by a history as known on a day
abbrev pub ShowsSeals : (unit day : ℕ) → List Batch → Status → Streams → Streams → Type 0
ShowsSeals unit day history status old new =
    (text : List ℕ) × Takes old.unread text new.unread
    × EndsSeals (seals_asked unit day text (facts_to day history)) status text new.unread old.pieces new.pieces
