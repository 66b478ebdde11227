use Rattle.std.proofs.Common.{[], refl, sym, ◌∙◌, subst, arith}
use Rattle.disk_model.specs.Faults.{Rose}
use Rattle.ldar_journal.proofs.CrashLemmas.{AnswersInRoom-weaker, not_err}
use Rattle.ldar_journal.proofs.ShelfLemmas.{from_ok}
use Rattle.ldar_journal.specs.Crash.{AnswersInRoom}
use Rattle.office_book.specs.Room.{IsNoFault}
use Rattle.office_book.proofs.KeepLemmas.{from_err}
use Rattle.office_book.proofs.MoveLemmas.{serves_call, faults_call}
use Rattle.office_book.proofs.book.Book.view.Goals as goal

pub returns-then-is_err-clause-value : goal.returns-then-is_err-clause-value
returns-then-is_err-clause-value g c =
    let d = g.D.Disk in
    let settle = c.settle_first in
    let failed = sym c.is_err.ensures.value ∙ c.if-is_err.true in
    faults_call d.content d.images d.left d.clock d.name d.faults g.met.D.Disk.only_now c.args.self.now settle.new.self c.args.request.now [] []
    settle.ensures.moves (from_err settle.result failed settle.ensures.cause) (from_err settle.result failed settle.ensures.doubt)
    (from_err settle.result failed settle.ensures.still) tt refl (omega arith)

pub show-requires-clause-settled : goal.show-requires-clause-settled
show-requires-clause-settled g c =
    let settle = c.settle_first in
    (from_ok settle.result (sym c.is_err.ensures.value ∙ c.if-is_err.false) settle.ensures.found).1.certain

pub returns-clause-value : goal.returns-clause-value
returns-clause-value g c =
    let d = g.D.Disk in
    let settle = c.settle_first in
    let found = from_ok settle.result (sym c.is_err.ensures.value ∙ c.if-is_err.false) settle.ensures.found in
    serves_call d.content d.images d.left d.clock d.name d.faults g.met.D.Disk.only_now (Rose (d.faults settle.new.self.disk) (d.faults c.show.new.self.disk))
    c.args.self.now settle.new.self c.show.new.self found.0 c.args.request.now [] c.show.result [] found.1 settle.ensures.moves c.show.ensures.moves
    (λ why. why) c.show.ensures.serves refl (omega arith)

pub returns-clause-ruled : goal.returns-clause-ruled
returns-clause-ruled g c = c.show.ensures.ruled

-- with nothing in doubt

pub returns-then-is_err-clause-unchanged : goal.returns-then-is_err-clause-unchanged
returns-then-is_err-clause-unchanged g c =
    let settle = c.settle_first in
    λ none. absurd (from_err settle.result (sym c.is_err.ensures.value ∙ c.if-is_err.true) settle.ensures.doubt none)

pub returns-clause-unchanged : goal.returns-clause-unchanged
returns-clause-unchanged g c = λ none. c.show.ensures.unchanged ∙ c.settle_first.ensures.nothing none

-- on a disk with a known room

pub returns-then-is_err-clause-roomy : goal.returns-then-is_err-clause-roomy
returns-then-is_err-clause-roomy g c =
    let settle = c.settle_first in
    let failed = sym c.is_err.ensures.value ∙ c.if-is_err.true in
    AnswersInRoom-weaker g.D.Disk.room g.D.Disk.clock 2 2 c.args.self.now.disk settle.new.self.disk _ _ (omega arith)
    (λ room went is. not_err settle.result failed went) settle.ensures.roomy

pub returns-clause-roomy : goal.returns-clause-roomy
returns-clause-roomy g c =
    let d = g.D.Disk in
    let settle = c.settle_first in
    subst (λ s. AnswersInRoom d.room d.clock 2 c.args.self.now.disk s.disk (λ _. IsNoFault c.show.result)) (sym c.show.ensures.unchanged)
    (AnswersInRoom-weaker d.room d.clock 2 2 c.args.self.now.disk settle.new.self.disk _ _ (omega arith)
    (λ room went. c.show.ensures.no_fault) settle.ensures.roomy)
