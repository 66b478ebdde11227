-- The bytes of an empty journal.
use Rattle.std.proofs.Common.{◌≡◌, ℕ, ◌+◌, ◌<◌, ◌≤◌, Option, Some, None, List, [], ◌∷◌, ◌++◌, length, take, drop, refl, sym, ◌∙◌, ap, subst, arith}
use Rattle.disk_model.specs.Disk.{Reads, Torn, Holds}
use Rattle.disk_model.specs.Images.{Only}
use Rattle.disk_model.specs.Told.{Told, BothTold}
use Rattle.disk_model.proofs.ToldLemmas.{BothTold-joins}
use Rattle.ldar_journal.specs.Crash.{OnDisk}
use Rattle.ldar_journal.specs.Image.{header, OpensTo}
use Rattle.ldar_journal.proofs.CrashLemmas.{OnDisk-stable}

-- the header and a closed gate open to no frames
pub empty_opens : OpensTo (header ++ 0 ∷ []) []
empty_opens = (
  16,
  record {
    within = omega arith;
    front = record { each = tt; spells = refl };
    closed = λ e. cc;
    kept = record { differ = refl; fits = omega arith };
  },
)

nothing : (bytes : List ℕ) → length bytes ≤ 0 → bytes ≡ []
nothing [] none = refl
nothing (b ∷ bytes) none = absurd (omega arith)

-- these bytes written over an empty disk are exactly these bytes
over_nothing : (old new : List ℕ) → old ≡ [] → Holds 0 (header ++ 0 ∷ []) old new → new ≡ header ++ 0 ∷ []
over_nothing old new none holds =
    holds.inside (omega arith) ∙ subst (λ (l : List ℕ). take 0 l ++ (header ++ 0 ∷ []) ++ drop (0 + 17) l ≡ header ++ 0 ∷ []) (sym none) refl

-- a read that returned no byte, and a write of the empty journal, on an empty disk
pub laid_down : (old middle new : Option (List ℕ)) (into into' : List ℕ) (n : ℕ) → n ≤ 0 → 0 < length into
    → BothTold old middle (λ old new. (new ≡ old) × Reads 0 old into into' n)
    → BothTold middle new (λ old new. Torn 0 17 old new × Holds 0 (header ++ 0 ∷ []) old new)
    → BothTold old new (λ old new. (old ≡ []) × (new ≡ header ++ 0 ∷ []))
laid_down old middle new into into' n none room read wrote =
    BothTold-joins (λ old new. (new ≡ old) × Reads 0 old into into' n) (λ old new. Torn 0 17 old new × Holds 0 (header ++ 0 ∷ []) old new)
    (λ old new. (old ≡ []) × (new ≡ header ++ 0 ∷ []))
    (λ a b c first second.
    let empty : a ≡ [] = nothing a (first.1.at_end (omega arith) room) in
    (empty, over_nothing b c (first.0 ∙ empty) second.1)) old middle new read wrote

-- the new bytes open to no frames, and so does everything that a crash then leaves
pub laid_opens : (old new : Option (List ℕ)) (images : List ℕ → Type 0) → BothTold old new (λ old new. (old ≡ []) × (new ≡ header ++ 0 ∷ []))
    → Told new (λ bytes. Only bytes images) → OnDisk new images (λ image. OpensTo image [])
laid_opens old new images laid stable = OnDisk-stable (λ image. OpensTo image []) new images (told old new laid) stable
  where
    told : (old new : Option (List ℕ)) → BothTold old new (λ old new. (old ≡ []) × (new ≡ header ++ 0 ∷ [])) → Told new (λ bytes. OpensTo bytes [])
    told old None laid = tt
    told None (Some new) laid = absurd laid
    told (Some old) (Some new) laid = subst (λ (l : List ℕ). OpensTo l []) (sym laid.1) empty_opens

-- if a journal was created, the disk was empty before
pub nothing_stood : (P : Type 0) (old new : Option (List ℕ)) → BothTold old new (λ old new. (old ≡ []) × (new ≡ header ++ 0 ∷ []))
    → Told old (λ old. 0 < length old → P)
nothing_stood P None new laid = tt
nothing_stood P (Some old) None laid = absurd laid
nothing_stood P (Some old) (Some new) laid = λ some. absurd (omega (arith, ap length laid.0))
