use Rattle.std.proofs.Common.{ap, refl, sym, subst, ◌∙◌}
use Rattle.disk_model.specs.Faults.{Rose}
use Rattle.ldar_journal.specs.Image.{batches_of}
use Rattle.office_book.specs.Moves.{Moves}
use Rattle.office_book.specs.Safe.{state_of}
use Rattle.office_book.proofs.BookLemmas.{certain_state}
use Rattle.office_book.proofs.MoveLemmas.{moves_nothing}
use Rattle.office_book.proofs.ViewLemmas.{serves_shown, shown_ruled, shown_faultless}
use Rattle.office_book.proofs.book.Book.show.Goals as goal

pub returns-clause-serves : goal.returns-clause-serves
returns-clause-serves g c =
    let history = batches_of c.args.self.now.frames in
    let d = g.D.Disk in
    let after = c.shown.new.self in
    serves_shown (Rose (d.faults c.args.self.now.disk) (d.faults after.disk)) history c.args.request.now (state_of after) c.requires.view
    (ap state_of c.shown.ensures.unchanged ∙ certain_state c.args.self.now history refl c.requires.settled)
    c.shown.result c.reply_to.result c.reply_to.ensures.value c.shown.ensures.value

pub returns-clause-moves : goal.returns-clause-moves
returns-clause-moves g c =
    let d = g.D.Disk in
    subst (λ s. Moves d.content d.images d.left d.clock d.name d.faults c.args.self.now s 1) (sym c.shown.ensures.unchanged)
    (moves_nothing d.content d.images d.left d.clock d.name d.faults c.args.self.now c.stands.ensures.law)

pub returns-clause-ruled : goal.returns-clause-ruled
returns-clause-ruled g c = shown_ruled c.shown.result c.reply_to.result c.reply_to.ensures.value

pub returns-clause-no_fault : goal.returns-clause-no_fault
returns-clause-no_fault g c = shown_faultless c.shown.result c.reply_to.result c.reply_to.ensures.value
