use Rattle.std.proofs.Common.{◌≡◌, ◌⊎◌, ◌-◌, ◌<◌, ◌+◌, [], ◌++◌, List, length, take, replicate, refl, sym, ◌∙◌, ap, subst, arith}
use Rattle.std.proofs.lemmas.List.{append-nil}
use Rattle.disk_model.specs.Faults.{Rose}
use Rattle.fact_kinds.specs.declared.batch.Batch.{Batch}
use Rattle.ldar_journal.specs.Image.{batches_of}
use Rattle.ldar_journal.proofs.CrashLemmas.{AnswersInRoom-weaker}
use Rattle.ldar_law.specs.declared.reply.Reply.{Reply}
use Rattle.ldar_law.specs.declared.reply.Reply.TheVariants as replied
use Rattle.ldar_law.specs.Machine.{State}
use Rattle.std.specs.List.{AllByRecursion}
use Rattle.office_book.specs.Archive.{MayCome}
use Rattle.office_interface.specs.Asking.{HasRule}
use Rattle.office_book.specs.Grouped.{IsUnwritten}
use Rattle.office_book.specs.Room.{IsNoFault}
use Rattle.office_book.specs.Safe.{state_of}
use Rattle.office_book.specs.Serving.{certain, uncertain, Serves}
use Rattle.office_book.proofs.AskLemmas.{serves_each, faults_are, faults_ruled, faults_each}
use Rattle.office_book.proofs.BookLemmas.{certain_state}
use Rattle.office_book.proofs.GroupLemmas.{serves_whole, faults_follow, before_within, before_some, added_within, cut_ruled, none_held, some_held, not_grown, fault_among}
use Rattle.office_book.proofs.MoveLemmas.{moves_nothing}
use Rattle.office_book.proofs.RoomLemmas.{room_stays, faultless}
use Rattle.office_book.proofs.book.Book.write_sorted.Goals as goal

-- nothing is added

pub returns-then-is_empty-clause-serves : goal.returns-then-is_empty-clause-serves
returns-then-is_empty-clause-serves g c =
    let faults = g.D.Disk.faults c.args.self.now.disk in
    let history = batches_of c.args.self.now.frames in
    let sorted = c.requires.sorted in
    let batches = c.args.sorted.batches.items in
    let empty = none_held batches c.args.sorted.batches.len c.args.sorted.batches.ok.0 (sym c.is_empty.ensures ∙ c.if-is_empty.true) in
    serves_whole (Rose faults faults) history (history ++ batches) c.args.requests.now c.args.replies.now (state_of c.args.self.now) sorted.serves
    (certain_state c.args.self.now history refl c.requires.settled ∙ ap certain (sym (append-nil history)
    ∙ ap (λ (l : List Batch). history ++ l) (sym empty)))

pub returns-then-is_empty-clause-ruled : goal.returns-then-is_empty-clause-ruled
returns-then-is_empty-clause-ruled g c = c.requires.sorted.ruled

pub returns-then-is_empty-clause-moves : goal.returns-then-is_empty-clause-moves
returns-then-is_empty-clause-moves g c =
    let d = g.D.Disk in
    moves_nothing d.content d.images d.left d.clock d.name d.faults c.args.self.now c.stands.ensures.law

-- the batches that are written

pub write-requires-clause-fits : goal.write-requires-clause-fits
write-requires-clause-fits g c =
    let history = batches_of c.args.self.now.frames in
    let within = added_within history c.args.requests.now in
    let long = ap length c.requires.sorted.adds in
    omega arith

pub write-requires-clause-may_come : goal.write-requires-clause-may_come
write-requires-clause-may_come g c = c.requires.sorted.may_come

-- they are kept

pub returns-in-Stands-clause-serves : goal.returns-in-Stands-clause-serves
returns-in-Stands-clause-serves g c =
    let faulty = Rose (g.D.Disk.faults c.args.self.now.disk) (g.D.Disk.faults c.write.new.self.disk) in
    let history = batches_of c.args.self.now.frames in
    serves_whole faulty history (history ++ c.args.sorted.batches.items) c.args.requests.now c.args.replies.now (state_of c.write.new.self)
    c.requires.sorted.serves c.in-Stands.ensures.value

pub returns-in-Stands-clause-ruled : goal.returns-in-Stands-clause-ruled
returns-in-Stands-clause-ruled g c = c.requires.sorted.ruled

pub returns-in-Stands-clause-untouched : goal.returns-in-Stands-clause-untouched
returns-in-Stands-clause-untouched g c = λ none same.
    let batches = c.args.sorted.batches.items in
    let full = some_held batches c.args.sorted.batches.len c.args.sorted.batches.ok.0 (sym c.is_empty.ensures ∙ c.if-is_empty.false) in
    absurd (not_grown (batches_of c.args.self.now.frames) batches full (sym (ap (λ (s : State). s.history) c.in-Stands.ensures.value) ∙ same))

-- a disk error

pub returns-in-Fault-clause-serves : goal.returns-in-Fault-clause-serves
returns-in-Fault-clause-serves g c =
    let faulty = Rose (g.D.Disk.faults c.args.self.now.disk) (g.D.Disk.faults c.write.new.self.disk) in
    let history = batches_of c.args.self.now.frames in
    let next = state_of c.write.new.self in
    let sorted = c.requires.sorted in
    let said = c.args.replies.now in
    let first = c.args.sorted.first in
    let batches = c.args.sorted.batches.items in
    let left = length said - first in
    let faults = replicate left replied.Fault in
    let within = before_within history c.args.requests.now in
    let is = sorted.before in
    let many = faults_each left in
    let full = some_held batches c.args.sorted.batches.len c.args.sorted.batches.ok.0 (sym c.is_empty.ensures ∙ c.if-is_empty.false) in
    let wrote = c.in-Fault.ensures.value in
    subst (λ (l : List Reply). Serves faulty history c.args.requests.now l next) (sym c.put_faults.ensures.items)
    (faults_follow faulty history c.args.requests.now said (history ++ batches) next first faults sorted.serves is wrote.0
    (subst (λ (l : List Batch). (next ≡ certain history) ⊎ (next ≡ uncertain history l)) (sym sorted.adds) wrote.1)
    (λ empty. full (sym sorted.adds ∙ empty)) (faults_are left) (omega (arith, c.requires.each)))

pub returns-in-Fault-clause-ruled : goal.returns-in-Fault-clause-ruled
returns-in-Fault-clause-ruled g c =
    let left = length c.args.replies.now - c.args.sorted.first in
    subst (λ (l : List Reply). AllByRecursion HasRule l) (sym c.put_faults.ensures.items)
    (cut_ruled c.args.sorted.first c.args.replies.now (replicate left replied.Fault) c.requires.sorted.ruled (faults_ruled left))

pub returns-in-Fault-clause-untouched : goal.returns-in-Fault-clause-untouched
returns-in-Fault-clause-untouched g c = λ none same.
    let sorted = c.requires.sorted in
    let batches = c.args.sorted.batches.items in
    let full = some_held batches c.args.sorted.batches.len c.args.sorted.batches.ok.0 (sym c.is_empty.ensures ∙ c.if-is_empty.false) in
    let less = before_some (batches_of c.args.self.now.frames) c.args.requests.now (λ empty. full (sym sorted.adds ∙ empty)) in
    let is = sorted.before in
    absurd (fault_among (take c.args.sorted.first c.args.replies.now) (length c.args.replies.now - c.args.sorted.first)
    (omega (arith, c.requires.each)) (subst (λ (l : List Reply). AllByRecursion IsNoFault l) c.put_faults.ensures.items none))

-- out of memory

pub leave-requires-clause-next : goal.leave-requires-clause-next
leave-requires-clause-next g c =
    c.requires.next ∙ ap (λ s. length (batches_of s.frames) + 1) (sym (c.in-Memory.ensures.untouched refl))

pub leave-requires-clause-may_come : goal.leave-requires-clause-may_come
leave-requires-clause-may_come g c = subst (λ s. MayCome (batches_of s.frames) []) (sym (c.in-Memory.ensures.untouched refl)) c.requires.may_come

pub returns-in-Memory-clause-serves : goal.returns-in-Memory-clause-serves
returns-in-Memory-clause-serves g c =
    let faulty = Rose (g.D.Disk.faults c.args.self.now.disk) (g.D.Disk.faults c.write.new.self.disk) in
    let history = batches_of c.args.self.now.frames in
    let next = state_of c.write.new.self in
    let stays = c.in-Memory.ensures.value in
    let left = c.leave.new.replies in
    let unwritten = subst (λ (l : List Batch). IsUnwritten l c.args.requests.now left) (ap (λ (s : State). s.history) stays) c.leave.ensures.unwritten in
    serves_whole faulty history history c.args.requests.now left next unwritten.serves stays

pub returns-in-Memory-clause-ruled : goal.returns-in-Memory-clause-ruled
returns-in-Memory-clause-ruled g c = c.leave.ensures.unwritten.ruled

pub returns-in-Memory-clause-untouched : goal.returns-in-Memory-clause-untouched
returns-in-Memory-clause-untouched g c = λ none same. c.in-Memory.ensures.untouched refl

-- on a disk with a known room

pub returns-then-is_empty-clause-roomy : goal.returns-then-is_empty-clause-roomy
returns-then-is_empty-clause-roomy g c =
    let history = batches_of c.args.self.now.frames in
    room_stays g.D.Disk.room g.D.Disk.clock 4 c.args.self.now.disk _
    (λ room has. faultless history c.args.requests.now c.args.replies.now (certain (history ++ c.args.sorted.batches.items)) c.requires.sorted.serves)

pub returns-in-Stands-clause-roomy : goal.returns-in-Stands-clause-roomy
returns-in-Stands-clause-roomy g c =
    let history = batches_of c.args.self.now.frames in
    AnswersInRoom-weaker g.D.Disk.room g.D.Disk.clock 4 4 c.args.self.now.disk c.write.new.self.disk _ _ (omega arith) (λ room kept has.
    faultless history c.args.requests.now c.args.replies.now (certain (history ++ c.args.sorted.batches.items)) c.requires.sorted.serves)
    c.write.ensures.roomy

pub returns-in-Fault-clause-roomy : goal.returns-in-Fault-clause-roomy
returns-in-Fault-clause-roomy g c =
    AnswersInRoom-weaker g.D.Disk.room g.D.Disk.clock 4 4 c.args.self.now.disk c.write.new.self.disk _ _ (omega arith)
    (λ room kept has. absurd (kept has refl)) c.in-Fault.ensures.roomy

pub returns-in-Memory-clause-roomy : goal.returns-in-Memory-clause-roomy
returns-in-Memory-clause-roomy g c =
    let history = batches_of c.write.new.self.frames in
    AnswersInRoom-weaker g.D.Disk.room g.D.Disk.clock 4 4 c.args.self.now.disk c.write.new.self.disk _ _ (omega arith)
    (λ room kept has. faultless history c.args.requests.now c.leave.new.replies (certain history) c.leave.ensures.unwritten.serves) c.write.ensures.roomy

pub put_faults-requires : goal.put_faults-requires
put_faults-requires g c =
    let within = before_within (batches_of c.args.self.now.frames) c.args.requests.now in
    let is = c.requires.sorted.before in
    record { within = omega (arith, c.requires.each) }
