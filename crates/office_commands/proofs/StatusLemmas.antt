-- Which exit statuses report which errors.
use Rattle.std.proofs.Common.{◌≡◌, ◌⊎◌, inl, inr, ℕ, nat_eq, Bool, true, false, Option, List, refl, sym, ap, ◌∙◌, arith, if◌then◌else◌}
use Rattle.ldar_ports.specs.Sink.{Piece}
use Rattle.office_commands.specs.declared.status.Status.{Status}
use Rattle.office_commands.specs.declared.status.Status.TheVariants.{Done, Usage, ReadFault, WriteFault, DiskFault, Memory}
use Rattle.office_commands.specs.declared.status.Status.TheVariants.{NotAJournal, Damaged, Unruly, CutShort, BadInput, TooLarge, NotEmpty}
use Rattle.office_commands.specs.declared.status.Status.TheVariants.{BadRow, Conflict, Denied, Full, NoSuch, FilingFault, SameReport, NoRevisionLeft}
use Rattle.office_commands.specs.declared.status.Status.TheVariants.{NoSuchRevision, NoSuchPosition, Stranger}
use Rattle.office_commands.specs.Statuses.{status_number, IsNoted}

-- the status that reports a fault by this number; any other for a number that reports none
fault_numbered : ℕ → Status → Status
fault_numbered n other = if nat_eq n 3 then ReadFault else if nat_eq n 5 then DiskFault else if nat_eq n 10 then FilingFault else other

-- 3, 5 and 10 are numbers of one status each
numbered : (status : Status) → fault_numbered (status_number status) status ≡ status
unfolding fault_numbered
numbered Done = refl
numbered Usage = refl
numbered ReadFault = refl
numbered WriteFault = refl
numbered DiskFault = refl
numbered Memory = refl
numbered NotAJournal = refl
numbered (Damaged at) = refl
numbered (Unruly position rule) = refl
numbered (CutShort got) = refl
numbered (BadInput at) = refl
numbered TooLarge = refl
numbered NotEmpty = refl
numbered (BadRow at) = refl
numbered (Conflict position) = refl
numbered (Denied fact rule) = refl
numbered (Full facts) = refl
numbered (NoSuch what) = refl
numbered FilingFault = refl
numbered (SameReport revision) = refl
numbered NoRevisionLeft = refl
numbered (NoSuchRevision revision) = refl
numbered (NoSuchPosition position) = refl
numbered (Stranger place) = refl

-- an exit status other than 4 is the number of the status, or is 0 or 6
exit_told : (status : Status) (old new : Option (List Piece)) (before after exit : ℕ) → IsNoted status old new before after exit
    → (exit ≡ status_number status) ⊎ ((exit ≡ 0) ⊎ ((exit ≡ 6) ⊎ (exit ≡ 4)))
exit_told status old new before after exit noted = elim noted.exits [
  | inl told ↦ inl told.1
  | inr unnoted ↦ go (nat_eq (status_number status) 0) (nat_eq (status_number status) 6) exit unnoted.1
]
  where
    go : (b c : Bool) (n : ℕ) → n ≡ (if b then 0 else if c then 6 else 4) → (n ≡ status_number status) ⊎ ((n ≡ 0) ⊎ ((n ≡ 6) ⊎ (n ≡ 4)))
    go true c n is = inr (inl is)
    go false true n is = inr (inr (inl is))
    go false false n is = inr (inr (inr is))

-- an exit status of 3 reports a fault of reading
pub exit_read : (status : Status) (old new : Option (List Piece)) (before after exit : ℕ) → IsNoted status old new before after exit → exit ≡ 3 → status ≡ ReadFault
unfolding fault_numbered
exit_read status old new before after exit noted is = elim (exit_told status old new before after exit noted) [
  | inl told ↦ sym (numbered status) ∙ ap (λ (n : ℕ). fault_numbered n status) (sym told ∙ is)
  | inr other ↦ absurd (elim other [
    | inl zero ↦ omega (arith, zero, is)
    | inr more ↦ elim more [ inl six ↦ omega (arith, six, is) | inr four ↦ omega (arith, four, is) ]
  ])
]

-- .. one of 5 a fault of the disk
pub exit_disk : (status : Status) (old new : Option (List Piece)) (before after exit : ℕ) → IsNoted status old new before after exit → exit ≡ 5 → status ≡ DiskFault
unfolding fault_numbered
exit_disk status old new before after exit noted is = elim (exit_told status old new before after exit noted) [
  | inl told ↦ sym (numbered status) ∙ ap (λ (n : ℕ). fault_numbered n status) (sym told ∙ is)
  | inr other ↦ absurd (elim other [
    | inl zero ↦ omega (arith, zero, is)
    | inr more ↦ elim more [ inl six ↦ omega (arith, six, is) | inr four ↦ omega (arith, four, is) ]
  ])
]

-- .. and one of 10 a fault of the filing
pub exit_filing : (status : Status) (old new : Option (List Piece)) (before after exit : ℕ) → IsNoted status old new before after exit → exit ≡ 10 → status ≡ FilingFault
unfolding fault_numbered
exit_filing status old new before after exit noted is = elim (exit_told status old new before after exit noted) [
  | inl told ↦ sym (numbered status) ∙ ap (λ (n : ℕ). fault_numbered n status) (sym told ∙ is)
  | inr other ↦ absurd (elim other [
    | inl zero ↦ omega (arith, zero, is)
    | inr more ↦ elim more [ inl six ↦ omega (arith, six, is) | inr four ↦ omega (arith, four, is) ]
  ])
]
