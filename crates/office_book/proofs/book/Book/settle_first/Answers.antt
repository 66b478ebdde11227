use Rattle.std.proofs.Common.{Ok, inl, inr, refl, ◌∙◌, ap}
use Rattle.office_book.proofs.BookLemmas.{book_still, book_gone, moves_still, moves_gone, moves_stand}
use Rattle.office_book.proofs.MoveLemmas.{moves_stays}
use Rattle.office_book.proofs.book.Book.settle_first.Goals as goal

pub returns-then-not-settling-clause-moves : goal.returns-then-not-settling-clause-moves
returns-then-not-settling-clause-moves g c =
    let d = g.D.Disk in
    rw (← c.self.view_is) (moves_stays d.content d.images d.left d.clock d.name d.faults c.self.inside.journal c.self.invariant.stands)

pub invariant_of-self : goal.invariant_of-self
invariant_of-self g c =
    let d = g.D.Disk in
    let still = c.in_err-settle.ensures.still in
    book_still d.content d.images c.self.inside.journal c.settle.new.self c.self.inside.archive c.self.inside.copies.items c.self.invariant still.0 still.1
    c.settle.ensures.images

pub returns-in_err-settle-clause-moves : goal.returns-in_err-settle-clause-moves
returns-in_err-settle-clause-moves g c =
    let d = g.D.Disk in
    let settle = c.settle.ensures in
    let still = c.in_err-settle.ensures.still in
    rw (← c.self.view_is) (moves_still d.content d.images d.left d.clock d.name d.faults c.self.inside.journal c.settle.new.self still.0 still.1
    settle.keeps settle.unchanged settle.any_moment settle.images)

pub invariant_of-self-in-Gone : goal.invariant_of-self-in-Gone
invariant_of-self-in-Gone g c =
    let d = g.D.Disk in
    let settle = c.in_ok-settle.ensures in
    book_gone d.content d.images c.self.inside.journal c.settle.new.self c.self.inside.archive c.self.inside.copies.items c.clear-in-Gone.new.self.items
    c.self.invariant
    (settle.gone (ap Ok c.in-Gone.is)) settle.settled c.clear-in-Gone.ensures.items c.settle.ensures.images

pub returns-in-Stands-clause-moves : goal.returns-in-Stands-clause-moves
returns-in-Stands-clause-moves g c =
    let d = g.D.Disk in
    let settle = c.settle.ensures in
    let was = c.in_ok-settle.ensures in
    let doubt = c.settling.ensures.in_doubt c.if-not-settling.false in
    rw (← c.self.view_is) (moves_stand d.content d.images d.left d.clock d.name d.faults c.self.inside.journal c.settle.new.self doubt
    (was.stands (ap Ok c.in-Stands.is)) was.settled settle.keeps settle.unchanged settle.any_moment settle.images)

pub returns-in-Gone-clause-moves : goal.returns-in-Gone-clause-moves
returns-in-Gone-clause-moves g c =
    let d = g.D.Disk in
    let settle = c.settle.ensures in
    let was = c.in_ok-settle.ensures in
    rw (← c.self.view_is) (moves_gone d.content d.images d.left d.clock d.name d.faults c.self.inside.journal c.settle.new.self
    (was.gone (ap Ok c.in-Gone.is)) was.settled settle.keeps settle.unchanged settle.any_moment settle.images)

-- the frames

pub returns-then-not-settling-clause-frames : goal.returns-then-not-settling-clause-frames
returns-then-not-settling-clause-frames g c = inl refl

pub returns-in_err-settle-clause-frames : goal.returns-in_err-settle-clause-frames
returns-in_err-settle-clause-frames g c = inl (c.in_err-settle.ensures.still.0 ∙ ap (λ s. s.frames) c.self.view_is)

pub returns-in-Stands-clause-frames : goal.returns-in-Stands-clause-frames
returns-in-Stands-clause-frames g c =
    let doubt = c.settling.ensures.in_doubt c.if-not-settling.false in
    inr (rw (← c.self.view_is) (doubt, c.in_ok-settle.ensures.stands (ap Ok c.in-Stands.is)))

pub returns-in-Gone-clause-frames : goal.returns-in-Gone-clause-frames
returns-in-Gone-clause-frames g c = inl (c.in_ok-settle.ensures.gone (ap Ok c.in-Gone.is) ∙ ap (λ s. s.frames) c.self.view_is)
