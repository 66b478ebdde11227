-- Quarters that are skipped where no programme of skip periods was elected.
use Rattle.std.proofs.Common.{◌≡◌, ℕ, Bool, true, false, not, nat_eq, eqb-true, List, [], ◌∷◌, length, refl, arith}
use Rattle.ldar_law.specs.declared.election.ElectionEntry.{ElectionEntry}
use Rattle.ldar_law.specs.declared.tally.Tally.{Tally}
use Rattle.ldar_law.specs.Skips.{is_skipped, skipped_to}
use Rattle.unit_summaries.proofs.ListLemmas.{alike_numbers}

-- none are, whatever the counts
pub counts_not_asked : (tallies others : List Tally) (elections : List ElectionEntry) (startup quarter : ℕ) → length elections ≡ 0
    → skipped_to tallies elections startup quarter ≡ skipped_to others elections startup quarter
unfolding is_skipped
counts_not_asked tallies others [] startup quarter empty =
    alike_numbers (is_skipped tallies [] startup) (is_skipped others [] startup) quarter (λ q first last. refl)
counts_not_asked tallies others (e ∷ es) startup quarter empty = absurd (omega (arith, empty))

-- there is none where there is not one
pub none_elected : (elections : List ElectionEntry) → not (nat_eq (length elections) 0) ≡ false → length elections ≡ 0
none_elected elections none = not_less (nat_eq (length elections) 0) none (eqb-true (length elections) 0)
  where
    not_less : (b : Bool) → not b ≡ false → (b ≡ true → length elections ≡ 0) → length elections ≡ 0
    not_less true is then = then refl
    not_less false is then = absurd cc
