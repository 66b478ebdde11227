use Rattle.std.proofs.Common.{◌≡◌, ◌+◌, ◌<◌, ◌≤◌, List, [], ◌∷◌, ◌++◌, length, refl, sym, ◌∙◌, ap, subst, arith}
use Rattle.fact_kinds.specs.declared.batch.Batch.{Batch}
use Rattle.std.proofs.lemmas.Bool.{false≢true}
use Rattle.ldar_journal.specs.Window.{WindowState}
use Rattle.ldar_journal.proofs.ShelfLemmas.{IsCounted-fits}
use Rattle.ldar_journal.proofs.ReadingLemmas.{reading_on, not_kept_damaged, frame_fits, facts_grow, few_more, known_frames}
use Rattle.ldar_journal.proofs.reader.Opening.next_frame.Goals as goal

pub judge-requires-clause-fits : goal.judge-requires-clause-fits
judge-requires-clause-fits g c = let small = IsCounted-fits c.self.inside.place c.self.inside.frames c.self.invariant.0.counted in omega arith

pub returns-in_default-clause-damaged : goal.returns-in_default-clause-damaged
returns-in_default-clause-damaged g c =
    let old = c.self.inside in
    let judged = rw c.in-Whole.is at c.in_ok-judge.ensures.judged in
    let not_kept = rw c.deref.ensures.value at (c.in_default.ensures.not_kept refl).1 in
    rw (← c.self.view_is) (not_kept_damaged (g.D.Disk.content old.disk) (g.D.Disk.content c.judge.new.disk) old.place c.in-Whole.used old.frames
    c.judge.new.batches.items old.window.bytes c.self.invariant.0.behind judged c.self.invariant.0.counted.kept not_kept)

pub overflow_add-self : goal.overflow_add-self
overflow_add-self g c =
    let small = IsCounted-fits c.self.inside.place c.self.inside.frames c.self.invariant.0.counted in
    let whole = rw c.in-Whole.is at c.in_ok-judge.ensures.whole in
    let fits = frame_fits c.judge.new.batches.items whole.0 in
    omega (arith, whole.1)

pub invariant_of-self-in-Whole : goal.invariant_of-self-in-Whole
invariant_of-self-in-Whole g c =
    let old = c.self.inside in
    let batches = c.judge.new.batches.items in
    let judge = c.in_ok-judge.ensures in
    let whole = rw c.in-Whole.is at judge.whole in
    let found = rw c.in-Whole.is at judge.judged in
    let chapter : c.of.result ≡ batches = c.of.ensures.value ∙ c.deref-in-Whole.ensures.value in
    let frames : c.push.new.self ≡ old.frames ++ batches ∷ [] = c.push.ensures.value ∙ ap (λ (l : List Batch). old.frames ++ l ∷ []) chapter in
    let known = rw c.deref.ensures.value at c.in-Some.ensures.added in
    let bytes = ap (λ (w : WindowState). w.bytes) c.drop_front.ensures.value in (
      rw (frames, bytes) (reading_on (g.D.Disk.content old.disk) (g.D.Disk.content c.judge.new.disk) (g.D.Disk.images old.disk)
          (g.D.Disk.images c.judge.new.disk) old.place c.in-Whole.used old.frames batches
          old.window.bytes c.judge.new.window.bytes c.self.invariant.0 judge.reads.content judge.reads.images judge.ahead found whole.0 whole.1 whole.2
          known.kept),
      rw frames (known_frames old.frames batches c.add_frame.new.positions.identities c.in-Some.facts known),
      ap (λ (w : WindowState). w.size) c.drop_front.ensures.value ∙ judge.size ∙ c.self.invariant.2,
      λ is. absurd (false≢true is),
    )

pub returns-in-Some-clause-frame : goal.returns-in-Some-clause-frame
returns-in-Some-clause-frame g c = λ ok.
    let old = c.self.inside in
    let batches = c.judge.new.batches.items in
    let whole = rw c.in-Whole.is at c.in_ok-judge.ensures.whole in
    let chapter : c.of.result ≡ batches = c.of.ensures.value ∙ c.deref-in-Whole.ensures.value in
    let frames : c.push.new.self ≡ old.frames ++ batches ∷ [] = c.push.ensures.value ∙ ap (λ (l : List Batch). old.frames ++ l ∷ []) chapter in
    rw (← c.self.view_is) (frames, rw frames (facts_grow old.frames batches whole.0))

pub returns-in-Some-clause-few : goal.returns-in-Some-clause-few
returns-in-Some-clause-few g c = λ ok.
    let old = c.self.inside in
    let batches = c.judge.new.batches.items in
    let whole = rw c.in-Whole.is at c.in_ok-judge.ensures.whole in
    let chapter : c.of.result ≡ batches = c.of.ensures.value ∙ c.deref-in-Whole.ensures.value in
    let frames : c.push.new.self ≡ old.frames ++ batches ∷ [] = c.push.ensures.value ∙ ap (λ (l : List Batch). old.frames ++ l ∷ []) chapter in
    let known = rw c.deref.ensures.value at c.in-Some.ensures.added in
    rw frames (few_more old.frames batches c.self.invariant.0.counted.each whole.0 known.kept)
