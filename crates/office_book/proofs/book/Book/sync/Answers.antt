use Rattle.std.proofs.Common.{◌≡◌, List, length, replicate, sym, ◌∙◌, ap, subst, arith}
use Rattle.ldar_journal.proofs.ShelfLemmas.{from_ok}
use Rattle.ldar_journal.proofs.CrashLemmas.{AnswersInRoom-weaker, AnswersInRoom-joins, not_err}
use Rattle.ldar_journal.specs.Image.{batches_of}
use Rattle.std.specs.List.{AllByRecursion}
use Rattle.ldar_law.specs.declared.reply.Reply.{Reply}
use Rattle.ldar_law.specs.declared.reply.Reply.TheVariants as replied
use Rattle.office_interface.specs.Asking.{HasRule}
use Rattle.office_book.specs.Room.{AddsNothing}
use Rattle.office_book.proofs.AskLemmas.{all_faults, faults_group, serves_group, faults_ruled}
use Rattle.office_book.proofs.KeepLemmas.{from_err}
use Rattle.office_book.proofs.RoomLemmas.{room_after}
use Rattle.office_book.proofs.book.Book.sync.Goals as goal

pub returns-then-is_err-clause-value : goal.returns-then-is_err-clause-value
returns-then-is_err-clause-value g c =
    let d = g.D.Disk in
    let settle = c.settle_first in
    let failed = sym c.is_err.ensures.value ∙ c.if-is_err.true in
    faults_group d.content d.images d.left d.clock d.name d.faults g.met.D.Disk.only_now c.args.self.now settle.new.self c.args.requests.now
    c.put_faults.new.replies c.requires.some c.requires.fits settle.ensures.moves
    (from_err settle.result failed settle.ensures.cause) (from_err settle.result failed settle.ensures.doubt)
    (from_err settle.result failed settle.ensures.still)
    (all_faults c.put_faults.new.replies c.args.replies.now c.put_faults.ensures.items ∙ ap (λ n. replicate n replied.Fault) c.requires.each)

pub returns-then-is_err-clause-ruled : goal.returns-then-is_err-clause-ruled
returns-then-is_err-clause-ruled g c =
    subst (λ (l : List Reply). AllByRecursion HasRule l) (sym (all_faults c.put_faults.new.replies c.args.replies.now c.put_faults.ensures.items)) (faults_ruled (length c.args.replies.now))

pub returns-then-is_err-clause-untouched : goal.returns-then-is_err-clause-untouched
returns-then-is_err-clause-untouched g c = λ none nothing.
    let settle = c.settle_first in
    absurd (from_err settle.result (sym c.is_err.ensures.value ∙ c.if-is_err.true) settle.ensures.doubt none)

pub keep-requires-clause-settled : goal.keep-requires-clause-settled
keep-requires-clause-settled g c =
    let settle = c.settle_first in
    (from_ok settle.result (sym c.is_err.ensures.value ∙ c.if-is_err.false) settle.ensures.found).1.certain

pub returns-clause-value : goal.returns-clause-value
returns-clause-value g c =
    let d = g.D.Disk in
    let settle = c.settle_first in
    let found = from_ok settle.result (sym c.is_err.ensures.value ∙ c.if-is_err.false) settle.ensures.found in
    serves_group d.content d.images d.left d.clock d.name d.faults g.met.D.Disk.only_now c.args.self.now settle.new.self c.keep.new.self found.0
    c.args.requests.now c.keep.new.replies c.requires.some c.requires.fits found.1 settle.ensures.moves c.keep.ensures.moves c.keep.ensures.serves

pub returns-clause-untouched : goal.returns-clause-untouched
returns-clause-untouched g c = λ none nothing.
    let same = c.settle_first.ensures.nothing none in
    c.keep.ensures.untouched (subst (λ s. AddsNothing (batches_of s.frames) (batches_of c.keep.new.self.frames) c.args.requests.now c.keep.new.replies)
    (sym same) nothing) ∙ same

-- on a disk with a known room

pub returns-then-is_err-clause-roomy : goal.returns-then-is_err-clause-roomy
returns-then-is_err-clause-roomy g c =
    let settle = c.settle_first in
    let failed = sym c.is_err.ensures.value ∙ c.if-is_err.true in
    AnswersInRoom-weaker g.D.Disk.room g.D.Disk.clock 2 6 c.args.self.now.disk settle.new.self.disk _ _ (omega arith)
    (λ room went has. absurd (not_err settle.result failed went)) settle.ensures.roomy

pub returns-clause-roomy : goal.returns-clause-roomy
returns-clause-roomy g c =
    let settle = c.settle_first in
    AnswersInRoom-joins g.D.Disk.room g.D.Disk.clock 2 4 c.args.self.now.disk settle.new.self.disk c.keep.new.self.disk _ _ _
    (λ room went kept has. kept (room_after c.args.self.now settle.new.self c.args.requests.now room settle.ensures.frames has))
    settle.ensures.roomy c.keep.ensures.roomy
