-- Importing a file of the register: the input that is read, the batches in it, and how they are sent.
use Rattle.std.specs.Prelude.{◌≡◌, ◌<◌, ◌≤◌, ◌⊎◌, ℕ, List, [], length, map, Option, Result, Ok, Err}
use Rattle.fact_kinds.specs.declared.batch.Batch.{Batch}
use Rattle.ldar_ports.specs.Source.{HasEnded}
use Rattle.ldar_law.specs.declared.request.Request.TheVariants.{Sync}
use Rattle.office_commands.specs.declared.batches.Sent.{Sent}
use Rattle.office_commands.specs.Sending.{EndsAsking}
use Rattle.ldar_session.specs.Served.{Served}
use Rattle.register_import.specs.declared.limits.TheConstants.{LONGEST_TEXT}
use Rattle.register_import.specs.Units.{units_import}
use Rattle.register_import.specs.Components.{components_import}
use Rattle.office_commands.specs.declared.command.Sort.{Sort}
use Rattle.office_commands.specs.declared.command.Sort.TheVariants.{Units, Components}
use Rattle.office_commands.specs.declared.status.Status.{Status}
use Rattle.office_commands.specs.declared.status.Status.TheVariants.{ReadFault, Memory, BadRow, TooLarge}
use Rattle.office_commands.specs.Statuses.{status_sent}

-- the batches in a file of this kind, numbered from `number` on, or its first bad row
abbrev pub batches_in : Sort → ℕ → List ℕ → Result (List Batch) ℕ
batches_in Units number text = units_import number text
batches_in Components number text = components_import number text

-- no file was read: read error, out of memory, or too many bytes
abbrev pub ReadsNone : Status → List ℕ → Type 0
ReadsNone ReadFault text = Unit {0}
ReadsNone Memory text = Unit {0}
ReadsNone TooLarge text = LONGEST_TEXT < length text
ReadsNone _ text = ⊥

-- the whole input is a text within the maximum length
pub record IsRead (text : List ℕ) (left : Option (List ℕ)) : Type 0 where
  pub ended : HasEnded left
  pub fits : length text ≤ LONGEST_TEXT

-- nothing was sent, so there is no text
abbrev pub SendsNone : List Served → List ℕ → Type 0
SendsNone served unsaid = (served ≡ []) × (unsaid ≡ [])

-- the file has a bad row, which is reported
pub record HasBadRow (sort : Sort) (number : ℕ) (status : Status) (text : List ℕ) (left : Option (List ℕ)) : Type 0 where
  pub read : IsRead text left
  pub at : ℕ
  pub first : batches_in sort number text ≡ Err at
  pub told : status ≡ BadRow at

-- the batches of the file were sent one after the other, up to and including the first without a receipt
pub record SendsFile (sort : Sort) (number : ℕ) (status : Status) (served : List Served) (text : List ℕ) (left : Option (List ℕ)) (unsaid : List ℕ)
    (counts : ℕ × ℕ) : Type 0 where
  pub read : IsRead text left
  pub batches : List Batch
  pub says : batches_in sort number text ≡ Ok batches
  pub sent : Sent
  pub sends : EndsAsking sent (map Sync batches) served unsaid counts.0 counts.1
  pub told : status ≡ status_sent sent

-- The end of an import, from what was served, the bytes read, the bytes unread in the source, the text not written, and the counts of
-- errors of the output before and after. All rows are checked before the first batch is sent.
abbrev pub EndsImport : Sort → ℕ → (counts : ℕ × ℕ) → Status → List Served → List ℕ → Option (List ℕ) → List ℕ → Type 0
EndsImport sort number counts status served text left unsaid =
    (ReadsNone status text × SendsNone served unsaid)
    ⊎ ((HasBadRow sort number status text left × SendsNone served unsaid)
    ⊎ SendsFile sort number status served text left unsaid counts)
