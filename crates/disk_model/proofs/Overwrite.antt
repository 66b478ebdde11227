-- The bytes after a write into a content that was extended with zeros.
use Rattle.std.proofs.Common.{◌≡◌, ◌<◌, ◌≤◌, ◌+◌, ◌-◌, ℕ, List, ◌++◌, length, take, drop, replicate, refl, sym, ap, ◌∙◌, arith, inl, inr}
use Rattle.std.proofs.Math.ListN.{drop_of_length-le}
use Rattle.std.proofs.Math.Seq.{take-append-add}
use Rattle.std.proofs.lemmas.List.{take-append-le, take-replicate, length-append, length-replicate, append-nil, take_all}
use Rattle.std.proofs.lemmas.Bool.{cases_lt}
use Rattle.disk_model.specs.Disk.{Holds}
use Rattle.disk_model.specs.Writes.{written, filled_to}
use Rattle.disk_model.proofs.WriteLemmas.{written-some}

-- a content extended with zeros has its old bytes from a place on
drop-filled : (end : ℕ) (old : List ℕ) → drop end (old ++ replicate (end - length old) 0) ≡ drop end old
drop-filled end old =
    elim (cases_lt (length old) end) [
      | inl longer ↦
          let le : length (old ++ replicate (end - length old) 0) ≤ end =
          omega (arith, length-append old (replicate (end - length old) 0), length-replicate {A = ℕ} (end - length old) 0) in
          let le' : length old ≤ end = omega arith in
          drop_of_length-le _ le ∙ sym (drop_of_length-le old le')
      | inr within ↦
          let none : end - length old ≡ 0 = omega arith in
          rw (none, append-nil old) refl
    ]

-- the bytes before a place past the end are the old ones and zeros
take-filled : (at end : ℕ) (old : List ℕ) → length old < at → at ≤ end → take at (old ++ replicate (end - length old) 0) ≡ old ++ replicate (at - length old) 0
take-filled at end old past le =
    let split : at ≡ length old + (at - length old) = omega arith in
    let fits : at - length old ≤ end - length old = omega arith in
    ap (λ n. take n (old ++ replicate (end - length old) 0)) split
    ∙ take-append-add old (replicate (end - length old) 0) (at - length old)
    ∙ ap (λ zeros. old ++ zeros) (take-replicate (at - length old) (end - length old) 0 fits)

-- bytes written into a content that was extended to their end are a complete write
pub filled_holds : (at end : ℕ) (bytes old filled new : List ℕ) → 0 < length bytes
    → end ≡ at + length bytes
    → filled ≡ old ++ replicate (end - length old) 0
    → new ≡ take at filled ++ bytes ++ drop (at + length bytes) filled
    → Holds at bytes old new
filled_holds at end bytes old filled new some is_end is_filled is_new =
    let to_end : new ≡ take at filled ++ bytes ++ drop end filled = rw is_end is_new in
    record {
      inside = λ within.
          to_end ∙ rw (is_filled, take-append-le at old (replicate (end - length old) 0) within, drop-filled end old, is_end) refl;
      past_end = λ past _.
          let le : at ≤ end = omega arith in
          let gone : length old ≤ end = omega arith in
          to_end ∙ rw (is_filled, take-filled at end old past le, drop-filled end old, drop_of_length-le old gone, append-nil) refl;
      nothing = λ none. absurd (omega arith);
    }

-- the bytes before any place are the old ones and the zeros needed
take-filled_to : (at end : ℕ) (old : List ℕ) → at ≤ end → take at (old ++ replicate (end - length old) 0) ≡ take at (filled_to at old)
take-filled_to at end old le =
    elim (cases_lt (length old) at) [
      | inl past ↦
          let whole : length (filled_to at old) ≤ at =
          omega (arith, length-append old (replicate (at - length old) 0), length-replicate {A = ℕ} (at - length old) 0) in
          take-filled at end old past le ∙ sym (take_all at (filled_to at old) whole)
      | inr within ↦
          take-append-le at old (replicate (end - length old) 0) within ∙ sym (take-append-le at old (replicate (at - length old) 0) within)
    ]

-- bytes written into a content that was extended to their end are the bytes after the write
pub filled_written : (at end : ℕ) (bytes old filled new : List ℕ) → 0 < length bytes
    → end ≡ at + length bytes
    → filled ≡ old ++ replicate (end - length old) 0
    → new ≡ take at filled ++ bytes ++ drop (at + length bytes) filled
    → new ≡ written at bytes old
filled_written at end bytes old filled new some is_end is_filled is_new =
    let le : at ≤ end = omega arith in
    let to_end : new ≡ take at filled ++ bytes ++ drop end filled = rw is_end is_new in
    to_end
    ∙ rw (is_filled, take-filled_to at end old le, drop-filled end old, is_end) refl
    ∙ sym (written-some at bytes old some)
