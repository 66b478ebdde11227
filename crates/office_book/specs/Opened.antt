-- What opening an office promises: why a journal is not an office's.
use Rattle.std.specs.Prelude.{◌≡◌, ◌≢◌, ℕ, Option, Some, None, IsTrue, List, [], take}
use Rattle.disk_model.specs.Told.{Told, BothTold}
use Rattle.fact_kinds.specs.declared.batch.Batch.{Batch}
use Rattle.ldar_journal.specs.Damage.{IsDamagedAt}
use Rattle.ldar_journal.specs.declared.opening.OpenWhy.{OpenWhy}
use Rattle.ldar_journal.specs.declared.opening.OpenWhy.TheVariants as journals
use Rattle.ldar_journal.specs.Image.{header, Opens}
use Rattle.ldar_law.specs.Verdicts.{first_unruly, is_ruly}
use Rattle.office_book.specs.declared.opening.BookWhy.{BookWhy}
use Rattle.office_book.specs.declared.opening.BookWhy.TheVariants.{Disk, NotAJournal, Damaged, Unruly, Memory}
use Rattle.office_views.specs.Held.{Held}

-- the bytes open to a history whose first denied batch is at this position, from 1, and is denied by this rule
pub record IsUnrulyAt (bytes : List ℕ) (position rule : ℕ) : Type 0 where
  pub history : List Batch
  pub opens : Opens bytes history
  pub first : first_unruly history ≡ Some (position, rule)

-- for each reason that depends on the bytes: what holds of them if they are exposed
abbrev pub IsReason : Option (List ℕ) → BookWhy → Type 0
IsReason told Disk = Unit {0}
IsReason told NotAJournal = Told told (λ bytes. take 16 bytes ≢ header)
IsReason told (Damaged at) = Told told (λ bytes. IsDamagedAt bytes at)
IsReason told (Unruly position rule) = Told told (λ bytes. IsUnrulyAt bytes position rule)
IsReason told Memory = Unit {0}

-- the bytes are unchanged, and the reason why they are no office
pub record IsNoBook (old new : Option (List ℕ)) (why : BookWhy) : Type 0 where
  pub unchanged : BothTold old new (λ old new. new ≡ old)
  pub reason : IsReason old why

-- the reason why no office was opened, from the reason why no journal was
abbrev pub why_no_book : OpenWhy → BookWhy
why_no_book journals.Disk = Disk
why_no_book journals.NotAJournal = NotAJournal
why_no_book (journals.Damaged at) = Damaged at
why_no_book journals.Memory = Memory

-- the result of adopting a history while it is read: all of it was adopted and is ruly, or the batch at this position, from 1, is the first
-- that is denied, by this rule
abbrev pub HasTaken : List Batch → Held → Option (ℕ × ℕ) → Type 0
HasTaken history views None = (views ≡ record { adopted = history; spare = [] }) × IsTrue (is_ruly history)
HasTaken history views (Some denied) = first_unruly history ≡ Some denied

-- the reason for which a history is no office: its first denied batch
abbrev pub IsDenied : List Batch → BookWhy → Type 0
IsDenied history Disk = ⊥
IsDenied history NotAJournal = ⊥
IsDenied history (Damaged at) = ⊥
IsDenied history (Unruly position rule) = first_unruly history ≡ Some (position, rule)
IsDenied history Memory = ⊥
