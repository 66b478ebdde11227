use Rattle.std.proofs.Common.{◌≡◌, ◌≤◌, Ok, List, [], ◌∷◌, ◌++◌, length, refl, sym, ◌∙◌, ap, subst}
use Rattle.std.specs.Prelude.{IsTrue}
use Rattle.fact_kinds.specs.declared.batch.Batch.{Batch}
use Rattle.ldar_journal.specs.Image.{batches_of, IsKept}
use Rattle.ldar_journal.proofs.Histories.{batches_of-push}
use Rattle.ldar_law.specs.Verdicts.{is_ruly}
use Rattle.office_book.specs.Opened.{HasTaken}
use Rattle.office_book.proofs.OpeningLemmas.{frame_behind, taken_all, taken_behind}
use Rattle.office_book.proofs.opening.read_frame.Goals as goal
use Rattle.office_views.specs.Held.{Held}
use Rattle.office_views.specs.Viewed.{held_of}

pub returns-then-is_some-clause-taken : goal.returns-then-is_some-clause-taken
returns-then-is_some-clause-taken g c =
    let old = c.args.opening.now.frames in
    let batches = c.next_frame.new.batches.items in
    let intake = c.args.intake.now in
    let frames = (c.in_ok-next_frame.ensures.frame (ap Ok c.if-not-branch.false)).0 in
    subst (λ (l : List Batch). HasTaken l (held_of intake.views) intake.denied) (sym (ap batches_of frames ∙ batches_of-push old batches))
    (taken_behind (batches_of old) batches (held_of intake.views) (held_of intake.views) intake.denied (sym c.is_some.ensures ∙ c.if-is_some.true) c.requires.taken)

pub take_frame-requires-clause-kept : goal.take_frame-requires-clause-kept
take_frame-requires-clause-kept g c =
    let next = c.in_ok-next_frame.ensures in
    let intake = c.args.intake.now in
    let taken = taken_all (batches_of c.args.opening.now.frames) (held_of intake.views) intake.denied (sym c.is_some.ensures ∙ c.if-is_some.false) c.requires.taken in
    rw c.deref.ensures.value (subst IsKept (sym (frame_behind c.args.opening.now.frames c.next_frame.new.self.frames c.next_frame.new.batches.items
    (held_of intake.views) (next.frame (ap Ok c.if-not-branch.false)).0 taken.0)) next.kept)

pub take_frame-requires-clause-few : goal.take_frame-requires-clause-few
take_frame-requires-clause-few g c =
    let next = c.in_ok-next_frame.ensures in
    let intake = c.args.intake.now in
    let taken = taken_all (batches_of c.args.opening.now.frames) (held_of intake.views) intake.denied (sym c.is_some.ensures ∙ c.if-is_some.false) c.requires.taken in
    rw c.deref.ensures.value (subst (λ (l : List Batch). length l ≤ 8_000_000) (sym (frame_behind c.args.opening.now.frames c.next_frame.new.self.frames
    c.next_frame.new.batches.items (held_of intake.views) (next.frame (ap Ok c.if-not-branch.false)).0 taken.0)) (next.few (ap Ok c.if-not-branch.false)))

pub take_frame-requires-clause-ruly : goal.take_frame-requires-clause-ruly
take_frame-requires-clause-ruly g c =
    let intake = c.args.intake.now in
    let taken = taken_all (batches_of c.args.opening.now.frames) (held_of intake.views) intake.denied (sym c.is_some.ensures ∙ c.if-is_some.false) c.requires.taken in
    subst (λ (h : Held). IsTrue (is_ruly h.adopted)) (sym taken.0) taken.1

pub returns-clause-taken : goal.returns-clause-taken
returns-clause-taken g c =
    let next = c.in_ok-next_frame.ensures in
    let intake = c.args.intake.now in
    let taken = taken_all (batches_of c.args.opening.now.frames) (held_of intake.views) intake.denied (sym c.is_some.ensures ∙ c.if-is_some.false) c.requires.taken in
    rw (sym (frame_behind c.args.opening.now.frames c.next_frame.new.self.frames c.next_frame.new.batches.items (held_of intake.views)
    (next.frame (ap Ok c.if-not-branch.false)).0 taken.0)) (rw c.deref.ensures.value at c.in_ok-intake.ensures.value)
