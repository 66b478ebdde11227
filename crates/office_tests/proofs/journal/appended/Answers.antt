use Rattle.std.proofs.Common.{◌≡◌, ◌≤◌, List, [], ◌∷◌, ◌++◌, length, refl, sym, ap, subst, arith}
use Rattle.fact_kinds.specs.declared.batch.Batch.{Batch}
use Rattle.ldar_journal.specs.Image.{batches_of, fact_count, IsKept}
use Rattle.ldar_journal.proofs.Positions.{IsKept-push}
use Rattle.office_tests.proofs.journal.appended.Goals as goal

-- a single batch may be kept if its facts fit
one_kept : (batch : Batch) → length batch.facts ≤ 512 → IsKept (batch ∷ [])
one_kept batch fits = IsKept-push [] batch refl (record { differ = refl; fits = omega arith }) (omega arith)

pub append-appended-requires-clause-kept : goal.append-appended-requires-clause-kept
append-appended-requires-clause-kept g c =
    let batch = c.in_ok-batch.batch in
    let slice : length c.as_slice.result.now ≡ length batch.facts = ap length c.as_slice.ensures.value in
    let kept = one_kept batch (omega (arith, slice, c.as_slice.ensures.in_range)) in
    subst (λ (frames : List (List Batch)). IsKept (batches_of frames ++ c.in_ok-frame.frame)) (sym c.in_ok-journal.ensures.value.0)
    (subst (λ (frame : List Batch). IsKept frame) (sym c.in_ok-frame.ensures.value) kept)
