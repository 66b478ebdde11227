-- What an import reads and sends: it has no items of its own; and which of its statuses report which errors.
use Rattle.std.proofs.Common.{◌≡◌, inl, inr, ℕ, Option, List, [], ◌∷◌, ◌++◌, refl, sym, ap, subst, ◌∙◌}
use Rattle.std.specs.List.{AllByRecursion}
use Rattle.disk_model.specs.Faults.{Rose}
use Rattle.ldar_ports.specs.Source.{Takes}
use Rattle.ldar_law.specs.declared.reply.Reply.TheVariants.{Fault}
use Rattle.ldar_law.specs.declared.request.Request.{Request}
use Rattle.ldar_law.specs.Machine.{Call, Turn}
use Rattle.ldar_journal.specs.Shelf.{Shelf}
use Rattle.office_book.specs.Safe.{Leads, moment_of}
use Rattle.office_commands.specs.declared.batches.Sent.{Sent}
use Rattle.office_commands.specs.declared.batches.Sent.TheVariants as sends
use Rattle.office_commands.specs.declared.batches.Unkept.{Unkept}
use Rattle.office_commands.specs.declared.batches.Unkept.TheVariants as unkepts
use Rattle.office_commands.specs.Sending.{IsSent, EndsAsking, reply_for}
use Rattle.ldar_session.specs.Served.{Served, items_of, turns_in, turns_of}
use Rattle.office_commands.specs.declared.command.Sort.{Sort}
use Rattle.office_commands.specs.declared.status.Status.{Status}
use Rattle.office_commands.specs.declared.status.Status.TheVariants.{DiskFault}
use Rattle.office_commands.specs.Imports.{EndsImport, ReadsNone}
use Rattle.office_commands.specs.Statuses.{HasCause, status_sent, status_unkept}
use Rattle.office_commands.proofs.FaultLemmas.{AnyTurn, IsFault, any_last, run_rose}

-- ---- items

items_none : (served : List Served) → AllByRecursion IsSent served → items_of served ≡ []
items_none [] each = refl
items_none (s ∷ served) each = ap (λ l. l ++ items_of served) each.0.no_item ∙ items_none served each.1

-- the bytes that were read are after no item
pub takes_text : (served : List Served) (old new : Option (List ℕ)) (text : List ℕ) → AllByRecursion IsSent served → Takes old text new
    → Takes old (items_of served ++ text) new
takes_text served old new text each takes = subst (λ (l : List ℕ). Takes old (l ++ text) new) (sym (items_none served each)) takes

-- ---- statuses

unkept_by : (unkept : Unkept) (input output disk filing : Type 0) → (reply_for unkept ≡ Fault → disk)
    → HasCause (status_unkept unkept) input output disk filing
unkept_by (unkepts.Conflict position) input output disk filing cause = (λ told. absurd cc, λ told. absurd cc, λ told. absurd cc, λ told. absurd cc)
unkept_by (unkepts.Denied fact rule) input output disk filing cause = (λ told. absurd cc, λ told. absurd cc, λ told. absurd cc, λ told. absurd cc)
unkept_by (unkepts.Full facts) input output disk filing cause = (λ told. absurd cc, λ told. absurd cc, λ told. absurd cc, λ told. absurd cc)
unkept_by unkepts.Fault input output disk filing cause = (λ told. absurd cc, λ told. absurd cc, λ told. cause refl, λ told. absurd cc)
unkept_by unkepts.Memory input output disk filing cause = (λ told. absurd cc, λ told. absurd cc, λ told. absurd cc, λ told. absurd cc)

-- the sending of batches reports a fault of writing only for one, one of the disk only for a batch that was answered so, and no other
pub sent_cause : (sent : Sent) (requests : List Request) (served : List Served) (unsaid : List ℕ) (old new : ℕ) (input output filing : Type 0)
    → (sent ≡ sends.WriteFault → output) → EndsAsking sent requests served unsaid old new
    → HasCause (status_sent sent) input output (AnyTurn IsFault (turns_of served)) filing
sent_cause sends.Done requests served unsaid old new input output filing write ends = (λ told. absurd cc, λ told. absurd cc, λ told. absurd cc, λ told. absurd cc)
sent_cause (sends.Unreceipted unkept) requests served unsaid old new input output filing write ends =
    let up_to = ends.sent in
    unkept_by unkept input output (AnyTurn IsFault (turns_of served)) filing
    (λ is. subst (λ (l : List Turn). AnyTurn IsFault l) (sym up_to.turns) (any_last IsFault up_to.before up_to.last (up_to.replied ∙ is)))
sent_cause sends.WriteFault requests served unsaid old new input output filing write ends = (λ told. absurd cc, λ told. write refl, λ told. absurd cc, λ told. absurd cc)
sent_cause sends.Memory requests served unsaid old new input output filing write ends = (λ told. absurd cc, λ told. absurd cc, λ told. absurd cc, λ told. absurd cc)

-- an import reports a fault of the disk only for a batch that was answered so
pub import_disk : (sort : Sort) (number : ℕ) (counts : ℕ × ℕ) (status : Status) (served : List Served) (text : List ℕ) (left : Option (List ℕ))
    (unsaid : List ℕ) → status ≡ DiskFault → EndsImport sort number counts status served text left unsaid → AnyTurn IsFault (turns_of served)
import_disk sort number counts status served text left unsaid told (inl none) =
    absurd (subst (λ (s : Status). ReadsNone s text) told none.0)
import_disk sort number counts status served text left unsaid told (inr (inl bad)) = let clash = sym bad.0.told ∙ told in absurd cc
import_disk sort number counts status served text left unsaid told (inr (inr file)) =
    (sent_cause file.sent _ served unsaid counts.0 counts.1 (Unit {0}) (Unit {0}) (Unit {0}) (λ is. tt) file.sends).2 (sym file.told ∙ told)

-- the disk's count of faults rose if a batch was answered so
pub run_faulty : {D : Type 0} (content_of : D → Option (List ℕ)) (left_of : D → ℕ → List ℕ → Type 0) (clock_of name_of faults_of : D → ℕ)
    (start end : Shelf D) (calls : List Call) (served : List Served) → Leads content_of left_of clock_of name_of faults_of start calls end
    → turns_in calls ≡ turns_of served → AnyTurn IsFault (turns_of served) → Rose (faults_of start.disk) (faults_of end.disk)
run_faulty content_of left_of clock_of name_of faults_of start end calls served leads turns any =
    run_rose calls (moment_of clock_of faults_of start) (moment_of clock_of faults_of end) leads.runs
    (subst (λ (l : List Turn). AnyTurn IsFault l) (sym turns) any)
