use Rattle.std.proofs.Common.{◌≡◌, ℕ, ◌+◌, Some, List, length, sym, ◌∙◌, ap, subst, rules}
use Rattle.fact_kinds.specs.declared.batch.Batch.{Batch}
use Rattle.ldar_law.specs.declared.verdict.Verdict.TheVariants as verdicts
use Rattle.ldar_law.specs.Verdicts.{verdict_on}
use Rattle.office_book.proofs.OpeningLemmas.{all_taken, first_at, front_next, new_next, passes_next, room_next, ruly_next, spare_next}
use Rattle.office_book.proofs.intake.take_in.Goals as goal
use Rattle.office_views.specs.Viewed.{Viewed, held_of}

pub adopt-requires-clause-roomy : goal.adopt-requires-clause-roomy
adopt-requires-clause-roomy g c =
    room_next c.args.batches.now c.loop-batch.views.spare c.loop-batch.batch-index c.batch-item.result c.loop-batch-test.true c.batch-item.is
    c.loop-batch.invariant.spare

pub adopt-requires-clause-passes : goal.adopt-requires-clause-passes
adopt-requires-clause-passes g c =
    passes_next c.args.views.now.adopted c.args.batches.now c.loop-batch.batch-index c.batch-item.result c.loop-batch.views.adopted c.loop-batch-test.true
    c.batch-item.is c.requires.kept c.loop-batch.invariant.adopted (c.in-None.ensures.passes (search rules))

pub adopt-requires-clause-new_identity : goal.adopt-requires-clause-new_identity
adopt-requires-clause-new_identity g c =
    new_next c.args.views.now.adopted c.args.batches.now c.loop-batch.batch-index c.batch-item.result c.loop-batch.views.adopted c.loop-batch-test.true
    c.batch-item.is c.requires.kept c.loop-batch.invariant.adopted

pub loop-batch-preserved : goal.loop-batch-preserved
loop-batch-preserved g c =
    let history = c.args.views.now.adopted in
    let batches = c.args.batches.now in
    let i = c.loop-batch.batch-index in
    let batch = c.batch-item.result in
    let old = c.loop-batch.views in
    let was = c.loop-batch.invariant in
    let within = c.loop-batch-test.true in
    let passes = passes_next history batches i batch old.adopted within c.batch-item.is c.requires.kept was.adopted
    (c.in-None.ensures.passes (search rules)) in
    record {
      adopted = ap (λ (v : Viewed). v.adopted) c.adopt.ensures.value ∙ front_next history batches i batch old.adopted within c.batch-item.is was.adopted;
      spare = ap (λ (v : Viewed). v.spare) c.adopt.ensures.value ∙ spare_next batches old.spare i was.spare;
      ruly = ruly_next history batches i batch old.adopted within c.batch-item.is was.adopted was.ruly passes;
    }

pub returns-in-Some : goal.returns-in-Some
returns-in-Some g c =
    let batches = c.args.batches.now in
    let i = c.loop-batch.batch-index in
    let batch = c.batch-item.result in
    let was = c.loop-batch.invariant in
    let denied = c.in-Some.ensures.denied in
    record {
      value = first_at c.args.views.now.adopted batches i batch denied.0 c.in-Some.rule c.loop-batch-test.true c.batch-item.is was.ruly
          (subst (λ (l : List Batch). verdict_on l batch ≡ verdicts.Denied denied.0 c.in-Some.rule) was.adopted denied.1)
          ∙ ap (λ (n : ℕ). Some (n + 1, c.in-Some.rule)) (sym (c.counts-count.ensures.batches ∙ ap length was.adopted));
    }

pub returns : goal.returns
returns g c =
    let was = c.loop-batch.invariant in
    record {
      value = all_taken c.args.views.now.adopted c.args.batches.now c.loop-batch.batch-index (held_of c.loop-batch.views) c.loop-batch-test.false was.adopted was.spare
          was.ruly;
    }
