-- The calls of a disk in memory up to one of them.
use Rattle.std.proofs.Common.{◌≡◌, ◌≤◌, ℕ, List, [], ◌∷◌, ◌++◌, length, take, reverse, refl, sym, ap, subst, ◌∙◌, arith}
use Rattle.std.proofs.Common.{inl, inr, eqb, true, false, Result, Ok, Err, IfOk}
use Rattle.std.proofs.lemmas.Bool.{cases_Bool, eq-eqb, ne_eqb}
use Rattle.std.proofs.lemmas.List.{reverse-append, length-reverse, length-take}
use Rattle.disk_model.specs.MemoryDisk.{DiskState, bytes_after, changes, change_of, new_disk}
use Rattle.disk_model.specs.MomentLaws.{left_counts_now}
use Rattle.disk_model.specs.Moments.{Left}
use Rattle.disk_model.specs.Stopped.{up_to, without, after_part, stopped_in, stopped_bytes, IsLeftIn}
use Rattle.disk_model.specs.declared.noted.Event.{Event}
use Rattle.disk_model.specs.declared.noted.Event.TheVariants.{Wrote, Synced}
use Rattle.disk_model.specs.declared.noted.Noted.{Noted}
use Rattle.disk_model.proofs.ImageLemmas.{bytes_are_image}
use Rattle.disk_model.proofs.WriteLemmas.{written_torn}

-- each write and sync is one change
length_changes : (start : List ℕ) (past : List Noted) → length (changes start past) ≡ length past
length_changes start [] = refl
length_changes start (noted ∷ past) = let others = length_changes start past in omega arith

-- the clock before a call that changed something counts the calls before it
pub clock_before_it : (start : List ℕ) (call : ℕ) (past up_to_it earlier : List Noted) (it : Noted) → reverse up_to_it ≡ up_to call past
    → up_to_it ≡ earlier ++ it ∷ [] → it.call ≡ call
    → length earlier ≡ length (changes start (without call (up_to call past)))
clock_before_it start call past up_to_it earlier it are split is_it =
    let latest : up_to call past ≡ it ∷ reverse earlier = sym are ∙ ap reverse split ∙ reverse-append earlier (it ∷ []) in
    let same : eqb it.call call ≡ true = eq-eqb it.call call is_it in
    rw (latest, same, length_changes start (reverse earlier), length-reverse earlier) refl

-- the clock before a call that changed nothing counts the calls up to it
pub clock_before_other : (start : List ℕ) (call : ℕ) (past up_to_it earlier : List Noted) (other : Noted) → reverse up_to_it ≡ up_to call past
    → up_to_it ≡ earlier ++ other ∷ [] → (other.call ≡ call → ⊥)
    → length up_to_it ≡ length (changes start (without call (up_to call past)))
clock_before_other start call past up_to_it earlier other are split is_other =
    let latest : up_to call past ≡ other ∷ reverse earlier = sym are ∙ ap reverse split ∙ reverse-append earlier (other ∷ []) in
    let differs : eqb other.call call ≡ false = ne_eqb other.call call is_other in
    let size : length up_to_it ≡ length (other ∷ reverse earlier) = sym (length-reverse up_to_it) ∙ ap length (are ∙ latest) in
    size ∙ rw (latest, differs, length_changes start (other ∷ reverse earlier)) refl

-- the result of a partial call was possible since the clock before it
part_is_left : (start : List ℕ) (past : List Noted) (event : Event) (left : List ℕ)
    → Left start (change_of event (bytes_after start past) ∷ changes start past) (length (changes start past))
    (after_part event left (bytes_after start past))
part_is_left start past (Wrote write) left =
    let bytes = bytes_after start past in
    let count = length write.bytes in
    let part : length (take count left) ≤ count = omega (arith, length-take count left) in
    inl (omega arith, (bytes, bytes_are_image start past, written_torn write.at count (take count left) bytes part))
part_is_left start past Synced left = inr (left_counts_now start (changes start past) _ _ (omega arith) (bytes_are_image start past))

-- a crash inside the latest of these calls may have left the bytes after a stop in it
stopped_in_is_left : (call : ℕ) (start : List ℕ) (past : List Noted) (left : List ℕ)
    → Left start (changes start past) (length (changes start (without call past))) (stopped_in call start past left)
stopped_in_is_left call start [] left = (omega arith, refl)
stopped_in_is_left call start (noted ∷ past) left =
    elim (cases_Bool (eqb noted.call call)) [
      | inl is_it ↦ rw is_it (part_is_left start past noted.event left)
      | inr is_not ↦ rw is_not (inl (omega arith, bytes_are_image start (noted ∷ past)))
    ]

-- a crash inside a call may have left the bytes after a stop in it
pub stopped_is_left : {E : Type 0} (disk : DiskState) (call : ℕ) (left bytes : List ℕ) (result : Result DiskState E)
    → bytes ≡ stopped_bytes disk call left → IfOk result (λ new. new ≡ new_disk bytes [])
    → IfOk result (λ new. IsLeftIn disk call new.start)
stopped_is_left disk call left bytes (Ok new) are is_new =
    let P : List ℕ → Type 0 = IsLeftIn disk call in
    subst P (sym (ap (λ d. d.start) is_new ∙ are)) (stopped_in_is_left call disk.start (up_to call disk.past) left)
stopped_is_left disk call left bytes (Err e) are is_new = tt
