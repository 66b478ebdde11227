use Rattle.std.proofs.Common.{List, refl, subst, arith}
use Rattle.disk_model.specs.Faults.{Rose}
use Rattle.fact_kinds.specs.declared.batch.Batch.{Batch}
use Rattle.ldar_journal.proofs.CrashLemmas.{AnswersInRoom-weaker}
use Rattle.ldar_journal.specs.Image.{batches_of}
use Rattle.office_book.specs.Moves.{Moves}
use Rattle.office_book.specs.Room.{HasRoom}
use Rattle.office_book.specs.Safe.{state_of}
use Rattle.office_book.specs.Serving.{certain}
use Rattle.office_book.proofs.BookLemmas.{certain_state}
use Rattle.office_book.proofs.GroupLemmas.{serves_whole, quiet}
use Rattle.office_book.proofs.MoveLemmas.{moves_nothing}
use Rattle.office_book.proofs.RoomLemmas.{room_stays, faultless}
use Rattle.office_book.proofs.book.Book.keep.Goals as goal

pub returns-in-Err-clause-serves : goal.returns-in-Err-clause-serves
returns-in-Err-clause-serves g c =
    let faults = g.D.Disk.faults c.args.self.now.disk in
    let history = batches_of c.args.self.now.frames in
    serves_whole (Rose faults faults) history history c.args.requests.now c.leave.new.replies (state_of c.args.self.now) c.leave.ensures.unwritten.serves
    (certain_state c.args.self.now history refl c.requires.settled)

pub returns-in-Err-clause-ruled : goal.returns-in-Err-clause-ruled
returns-in-Err-clause-ruled g c = c.leave.ensures.unwritten.ruled

pub returns-in-Err-clause-moves : goal.returns-in-Err-clause-moves
returns-in-Err-clause-moves g c =
    let d = g.D.Disk in
    moves_nothing d.content d.images d.left d.clock d.name d.faults c.args.self.now c.stands.ensures.law

pub returns-in-Err-clause-roomy : goal.returns-in-Err-clause-roomy
returns-in-Err-clause-roomy g c =
    let history = batches_of c.args.self.now.frames in
    room_stays g.D.Disk.room g.D.Disk.clock 4 c.args.self.now.disk _
    (λ room has. faultless history c.args.requests.now c.leave.new.replies (certain history) c.leave.ensures.unwritten.serves)

pub returns-in-Ok-clause-untouched : goal.returns-in-Ok-clause-untouched
returns-in-Ok-clause-untouched g c = λ nothing.
    let both = quiet _ (batches_of c.args.self.now.frames) c.args.requests.now c.write_sorted.new.replies (state_of c.write_sorted.new.self)
    c.write_sorted.ensures.serves nothing in
    c.write_sorted.ensures.untouched both.0 both.1

pub returns-in-Ok-clause-roomy : goal.returns-in-Ok-clause-roomy
returns-in-Ok-clause-roomy g c =
    AnswersInRoom-weaker g.D.Disk.room g.D.Disk.clock 4 4 c.args.self.now.disk c.write_sorted.new.self.disk _ _ (omega arith)
    (λ room kept has. kept (subst (λ (l : List Batch). HasRoom c.args.self.now.frames l room) c.in-Ok.ensures.sorted.adds has)) c.write_sorted.ensures.roomy
