-- How a command may end: the exit status of each way, the line that notes it, and what is noted where that line cannot be written.
use Rattle.std.specs.Prelude.{◌≡◌, ◌⊎◌, ℕ, nat_eq, if◌then◌else◌, List, [], ◌++◌, Option, Result, OnOk, codes}
use Rattle.std.specs.Fmt.{decimal}
use Rattle.disk_model.specs.Faults.{Rose}
use Rattle.ldar_ports.specs.Sink.{Piece, Puts, bytes_of}
use Rattle.ldar_law.specs.declared.reply.Reply.TheVariants as replies
use Rattle.ldar_law.specs.Replies.{reply_text, what_text}
use Rattle.ldar_law.specs.Texts.{end_of_line}
use Rattle.ldar_law.specs.Verdicts.{paragraph_of}
use Rattle.office_book.specs.declared.opening.BookWhy.{BookWhy}
use Rattle.office_book.specs.declared.opening.BookWhy.TheVariants as reasons
use Rattle.ldar_ports.specs.declared.ended.Ended.{Ended}
use Rattle.ldar_ports.specs.declared.ended.Ended.TheVariants as ends
use Rattle.office_commands.specs.declared.batches.Sent.{Sent}
use Rattle.office_commands.specs.declared.batches.Sent.TheVariants as sends
use Rattle.office_commands.specs.declared.batches.Unkept.{Unkept}
use Rattle.office_commands.specs.declared.batches.Unkept.TheVariants as unkepts
use Rattle.office_commands.specs.declared.status.Status.{Status}
use Rattle.office_commands.specs.declared.status.Status.TheVariants.{Done, Usage, ReadFault, WriteFault, DiskFault, Memory}
use Rattle.office_commands.specs.declared.status.Status.TheVariants.{NotAJournal, Damaged, Unruly, CutShort, BadInput, TooLarge, NotEmpty}
use Rattle.office_commands.specs.declared.status.Status.TheVariants.{BadRow, Conflict, Denied, Full, NoSuch, FilingFault, SameReport, NoRevisionLeft}
use Rattle.office_commands.specs.declared.status.Status.TheVariants.{NoSuchRevision, NoSuchPosition, Stranger}

-- the number of a status
abbrev pub status_number : Status → ℕ
status_number Done = 0
status_number Usage = 2
status_number ReadFault = 3
status_number WriteFault = 4
status_number DiskFault = 5
status_number Memory = 6
status_number NotAJournal = 7
status_number (Damaged at) = 7
status_number (Unruly position rule) = 7
status_number (CutShort got) = 8
status_number (BadInput at) = 8
status_number TooLarge = 8
status_number NotEmpty = 9
status_number (BadRow at) = 11
status_number (Conflict position) = 11
status_number (Denied fact rule) = 11
status_number (Full facts) = 11
status_number (NoSuch what) = 11
status_number FilingFault = 10
status_number (SameReport revision) = 11
status_number NoRevisionLeft = 11
status_number (NoSuchRevision revision) = 11
status_number (NoSuchPosition position) = 11
status_number (Stranger place) = 11

-- the note on a status; success has none
abbrev pub note_of : Status → List ℕ
note_of Done = []
note_of Usage = codes "usage: ldar JOURNAL COMMAND" ++ end_of_line
note_of ReadFault = codes "read fault" ++ end_of_line
note_of WriteFault = codes "write fault" ++ end_of_line
note_of DiskFault = codes "disk fault" ++ end_of_line
note_of Memory = codes "memory" ++ end_of_line
note_of NotAJournal = codes "not a journal" ++ end_of_line
note_of (Damaged at) = codes "damaged journal at " ++ decimal at ++ end_of_line
note_of (Unruly position rule) = codes "unruly batch " ++ decimal position ++ codes " " ++ (decimal rule ++ end_of_line)
note_of (CutShort got) = codes "input cut: " ++ decimal got ++ codes " bytes left\n"
note_of (BadInput at) = codes "bad input at " ++ decimal at ++ end_of_line
note_of TooLarge = codes "input too large" ++ end_of_line
note_of NotEmpty = codes "not empty" ++ end_of_line
note_of (BadRow at) = codes "bad row " ++ decimal at ++ end_of_line
note_of (Conflict position) = reply_text (replies.Conflict position)
note_of (Denied fact rule) = codes "denied " ++ decimal fact ++ codes " " ++ (decimal rule ++ codes " " ++ (paragraph_of rule ++ end_of_line))
note_of (Full facts) = reply_text (replies.Full facts)
note_of (NoSuch what) = codes "no such " ++ what_text what ++ end_of_line
note_of FilingFault = codes "filing fault" ++ end_of_line
note_of (SameReport revision) = codes "same as revision " ++ decimal revision ++ end_of_line
note_of NoRevisionLeft = codes "no revision left" ++ end_of_line
note_of (NoSuchRevision revision) = codes "no such revision " ++ decimal revision ++ end_of_line
note_of (NoSuchPosition position) = codes "no such position " ++ decimal position ++ end_of_line
note_of (Stranger place) = codes "stranger " ++ decimal place ++ end_of_line

-- the exit status if the note could not be written in full: that of a write error, or of out of memory if it was that
abbrev pub number_unnoted : Status → ℕ
number_unnoted status = let number = status_number status in if nat_eq number 0 then 0 else if nat_eq number 6 then 6 else 4

-- these pieces were added to the old ones, with the text up to the part that was not written
pub record Said (text : List ℕ) (old new : Option (List Piece)) (unsaid : List ℕ) : Type 0 where
  pub put : List Piece
  pub puts : Puts old put new
  pub says : text ≡ bytes_of put ++ unsaid

-- the text was written, and completely if the call succeeded
abbrev pub IsPut : {T E : Type 0} → List ℕ → Option (List Piece) → Option (List Piece) → Result T E → Type 0
IsPut text old new result = (unsaid : List ℕ) × Said text old new unsaid × OnOk result (unsaid ≡ [])

-- the end of writing a text: it was written in full, or in part after a write error, or not at all as it was out of memory
abbrev pub TextEnds : List ℕ → Status → Option (List Piece) → Option (List Piece) → Type 0
TextEnds text Done old new = Said text old new []
TextEnds text WriteFault old new = (unsaid : List ℕ) × Said text old new unsaid
TextEnds text Memory old new = new ≡ old
TextEnds text _ old new = ⊥

-- The note on the status was written in full, and the exit status is its number; or there was an error in writing the note, and the exit
-- status is that of a note that could not be written. The numbers are the counts of errors of the notes before and after.
pub record IsNoted (status : Status) (old new : Option (List Piece)) (before after : ℕ) (exit : ℕ) : Type 0 where
  pub unsaid : List ℕ
  pub said : Said (note_of status) old new unsaid
  pub exits : ((unsaid ≡ []) × (exit ≡ status_number status)) ⊎ (Rose before after × (exit ≡ number_unnoted status))

-- the cause of each status that reports an error: in the input, the output, the disk or the filing
abbrev pub HasCause : Status → (input output disk filing : Type 0) → Type 0
HasCause status input output disk filing =
    (status ≡ ReadFault → input) × (status ≡ WriteFault → output) × (status ≡ DiskFault → disk) × (status ≡ FilingFault → filing)

-- the status of a command whose journal was not opened
abbrev pub refusal_of : BookWhy → Status
refusal_of reasons.Disk = DiskFault
refusal_of reasons.NotAJournal = NotAJournal
refusal_of (reasons.Damaged at) = Damaged at
refusal_of (reasons.Unruly position rule) = Unruly position rule
refusal_of reasons.Memory = Memory

-- the status of a command, from how its connection ended
abbrev pub status_of : Ended → Status
status_of ends.Done = Done
status_of ends.Stopped = Done
status_of (ends.CutShort got) = CutShort got
status_of (ends.Refused at) = BadInput at
status_of ends.ReadFault = ReadFault
status_of ends.WriteFault = WriteFault
status_of ends.Memory = Memory

-- the status if the last batch that was sent was not kept
abbrev pub status_unkept : Unkept → Status
status_unkept (unkepts.Conflict position) = Conflict position
status_unkept (unkepts.Denied fact rule) = Denied fact rule
status_unkept (unkepts.Full facts) = Full facts
status_unkept unkepts.Fault = DiskFault
status_unkept unkepts.Memory = Memory

-- the status, from how sending batches ended
abbrev pub status_sent : Sent → Status
status_sent sends.Done = Done
status_sent (sends.Unreceipted unkept) = status_unkept unkept
status_sent sends.WriteFault = WriteFault
status_sent sends.Memory = Memory
