use Rattle.std.proofs.Common.{◌≡◌, ℕ, ◌-◌, List, ◌++◌, length, take, drop, replicate, refl, sym, ap, subst, arith}
use Rattle.std.proofs.Math.Seq.{take-append_seam}
use Rattle.std.proofs.lemmas.List.{drop-replicate}
use Rattle.fact_kinds.specs.Name.{IsName, spelled_name}
use Rattle.fact_kinds.proofs.name.Name.new.Goals as goal

-- the name is the prefix of the twelve bytes up to the zero bytes
abbrev Kept : List ℕ → List ℕ → Type 0
Kept bytes name =
    (length (take (length name) bytes) ≡ length name) × (bytes ≡ spelled_name (take (length name) bytes)) × IsName (take (length name) bytes)

-- a name in its twelve bytes can be read back
kept : (name : List ℕ) → IsName name → Kept (spelled_name name) name
kept name is_name =
    let front = take-append_seam name (replicate (12 - length name) 0) in
    (ap length front, ap spelled_name (sym front), subst IsName (sym front) is_name)

-- the bytes, copied to the start of twelve zero bytes
copied : (name copy : List ℕ) → copy ≡ name → spelled_name name ≡ copy ++ drop (length name) (replicate {A = ℕ} 12 0)
copied name copy same = rw (same, drop-replicate {X = ℕ} (length name) 12 0) refl

pub invariant_of-result : goal.invariant_of-result
invariant_of-result c =
    let name : List ℕ = c.args.bytes.now in
    let is_name : IsName name = record { some = omega arith; fits = omega arith; letters = cc } in
    subst (λ bytes. Kept bytes name) (copied name c.copy_from_slice.new.self c.copy_from_slice.ensures.after) (kept name is_name)
