-- Laws of time for a disk whose clock counts its changes.
use Rattle.std.specs.Prelude.{◌≤◌, ℕ, List, [], ◌∷◌, length}
use Rattle.std.proofs.Common.{inl, inr, arith}
use Rattle.disk_model.specs.Moments.{Change, Images, Left}

-- an image that a crash now may leave is possible since each clock up to now
pub left_counts_now : (start : List ℕ) (past : List Change) (t : ℕ) (c : List ℕ) → t ≤ length past → Images start past c → Left start past t c
left_counts_now start [] t c le image = (le, image)
left_counts_now start (change ∷ past) t c le image = inl (le, image)

-- if a crash may have left an image since a clock, that clock is at most the current one
left_within : (start : List ℕ) (past : List Change) (t : ℕ) (c : List ℕ) → Left start past t c → t ≤ length past
left_within start [] t c left = left.0
left_within start (change ∷ past) t c left =
    elim left [
      | inl now ↦ now.0
      | inr earlier ↦ let within : t ≤ length past = left_within start past t c earlier in omega arith
    ]

-- a crash since now may have left exactly what it may leave now
pub left_only_now : (start : List ℕ) (past : List Change) (c : List ℕ) → Left start past (length past) c → Images start past c
left_only_now start [] c left = left.1
left_only_now start (change ∷ past) c left =
    elim left [
      | inl now ↦ now.1
      | inr earlier ↦ let within : length (change ∷ past) ≤ length past = left_within start past _ c earlier in absurd (omega arith)
    ]

-- an image that a crash may have left since a clock, it may have left since an earlier one
pub left_since_earlier : (start : List ℕ) (past : List Change) (s t : ℕ) (c : List ℕ) → s ≤ t → Left start past t c → Left start past s c
left_since_earlier start [] s t c le left = let within = left.0 in (omega arith, left.1)
left_since_earlier start (change ∷ past) s t c le left =
    elim left [
      | inl now ↦ let within = now.0 in inl (omega arith, now.1)
      | inr earlier ↦ inr (left_since_earlier start past s t c le earlier)
    ]
