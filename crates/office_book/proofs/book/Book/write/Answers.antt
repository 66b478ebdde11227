use Rattle.std.proofs.Common.{◌≡◌, inl, inr, [], ◌∷◌, ◌++◌, ◌+◌, ◌≤◌, ◌≢◌, List, length, refl, sym, ◌∙◌, ap, subst, arith, rules}
use Rattle.std.proofs.lemmas.Bool.{false≢true}
use Rattle.std.proofs.lemmas.List.{take_all}
use Rattle.disk_model.specs.Faults.{Rose}
use Rattle.fact_kinds.specs.declared.batch.Batch.{Batch}
use Rattle.ldar_journal.specs.Crash.{AnswersInRoom}
use Rattle.ldar_journal.specs.Image.{batches_of, end_of, IsKept}
use Rattle.ldar_journal.proofs.CrashLemmas.{AnswersInRoom-weaker}
use Rattle.ldar_journal.proofs.Histories.{batches_of-push}
use Rattle.office_book.specs.Archive.{MayCome}
use Rattle.office_book.specs.declared.frame.Written.TheVariants as written
use Rattle.office_book.specs.Moves.{Moves}
use Rattle.office_book.specs.Room.{HasRoom}
use Rattle.office_book.specs.Serving.{certain}
use Rattle.office_book.proofs.BookLemmas.{may_stay, may_join, certain_state, doubtful_state, added_state, stands_on, book_settled, book_doubtful}
use Rattle.office_book.proofs.BookLemmas.{moves_added, moves_torn, moves_shut}
use Rattle.office_book.proofs.MoveLemmas.{moves_nothing}
use Rattle.office_book.proofs.RoomLemmas.{room_stays}
use Rattle.office_book.proofs.book.Book.write.Goals as goal

pub make_ready-requires-clause-some : goal.make_ready-requires-clause-some
make_ready-requires-clause-some g c = rw c.as_slice-added.ensures.value c.requires.some

pub make_ready-requires-clause-fits : goal.make_ready-requires-clause-fits
make_ready-requires-clause-fits g c = rw c.as_slice-added.ensures.value c.requires.fits

-- out of memory

pub invariant_of-self : goal.invariant_of-self
invariant_of-self g c =
    let j = c.self.inside.journal in
    let settled = ap (λ s. s.doubt) c.self.view_is ∙ c.requires.settled in
    book_settled g.D.Disk.content g.D.Disk.images j c.make_ready.new.archive c.self.inside.copies.items settled
    (may_stay (batches_of j.frames) j.doubt c.self.invariant.may_come) (c.make_ready.ensures.adopted ∙ c.self.invariant.adopted)
    (c.self.invariant.copied ∙ settled) c.self.invariant.stands

pub returns-in_default-clause-value : goal.returns-in_default-clause-value
returns-in_default-clause-value g c =
    certain_state c.self.inside.journal (batches_of c.args.self.now.frames) (ap (λ s. batches_of s.frames) c.self.view_is)
    (ap (λ s. s.doubt) c.self.view_is ∙ c.requires.settled)

pub returns-in_default-clause-moves : goal.returns-in_default-clause-moves
returns-in_default-clause-moves g c =
    let d = g.D.Disk in
    let j = c.self.inside.journal in
    subst (λ s. Moves d.content d.images d.left d.clock d.name d.faults s j 1) c.self.view_is
    (moves_nothing d.content d.images d.left d.clock d.name d.faults j c.self.invariant.stands)

-- the frame is appended

pub append-requires-clause-settled : goal.append-requires-clause-settled
append-requires-clause-settled g c = ap (λ s. s.doubt) c.self.view_is ∙ c.requires.settled

pub append-requires-clause-kept : goal.append-requires-clause-kept
append-requires-clause-kept g c =
    subst (λ (l : List Batch). IsKept (batches_of c.self.inside.journal.frames ++ l)) (sym (c.in-Ok.ensures.frame ∙ c.as_slice-added.ensures.value))
    (subst (λ s. IsKept (batches_of s.frames ++ c.args.batches.items)) (sym c.self.view_is) c.requires.may_come.kept)

-- it is kept

pub adopt-requires-clause-roomy : goal.adopt-requires-clause-roomy
adopt-requires-clause-roomy g c =
    let spare = c.in-Ok.ensures.roomy in
    let long = ap length spare in
    take_all (length c.as_slice-added.result.now) c.make_ready.new.archive.spare (omega arith) ∙ spare

pub adopt-requires-clause-may_come : goal.adopt-requires-clause-may_come
adopt-requires-clause-may_come g c =
    subst (λ (l : List Batch). MayCome l c.as_slice-added.result.now)
    (sym (c.make_ready.ensures.adopted ∙ c.self.invariant.adopted ∙ ap (λ s. batches_of s.frames) c.self.view_is))
    (subst (λ (l : List Batch). MayCome (batches_of c.args.self.now.frames) l) (sym c.as_slice-added.ensures.value) c.requires.may_come)

pub invariant_of-self-in-Ok-append : goal.invariant_of-self-in-Ok-append
invariant_of-self-in-Ok-append g c =
    let d = g.D.Disk in
    let j = c.self.inside.journal in
    let new = c.append.new.self in
    let added = c.in-Ok-append.ensures.value in
    let batches = c.args.batches.items in
    let frames : batches_of new.frames ≡ batches_of j.frames ++ batches =
    ap batches_of added.0 ∙ batches_of-push j.frames _
    ∙ ap (λ (l : List Batch). batches_of j.frames ++ l) (c.in-Ok.ensures.frame ∙ c.as_slice-added.ensures.value) in
    book_settled d.content d.images new c.adopt.new.self c.self.inside.copies.items added.1
    (subst (λ (l : List Batch). MayCome l []) (sym frames) (may_join (batches_of j.frames) batches
    (subst (λ s. MayCome (batches_of s.frames) batches) (sym c.self.view_is) c.requires.may_come)))
    (c.adopt.ensures.adopted ∙ ap (λ (l : List Batch). l ++ c.as_slice-added.result.now) (c.make_ready.ensures.adopted ∙ c.self.invariant.adopted)
    ∙ ap (λ (l : List Batch). batches_of j.frames ++ l) c.as_slice-added.ensures.value ∙ sym frames)
    (c.self.invariant.copied ∙ ap (λ s. s.doubt) c.self.view_is ∙ c.requires.settled)
    (stands_on d.content d.images new c.append.ensures.images)

pub returns-in-Ok-append-clause-value : goal.returns-in-Ok-append-clause-value
returns-in-Ok-append-clause-value g c =
    let added = c.in-Ok-append.ensures.value in
    added_state c.self.inside.journal c.append.new.self _ added.0 added.1
    ∙ ap (λ (l : List Batch). certain (batches_of c.self.inside.journal.frames ++ l)) (c.in-Ok.ensures.frame ∙ c.as_slice-added.ensures.value)
    ∙ ap (λ s. certain (batches_of s.frames ++ c.args.batches.items)) c.self.view_is

pub returns-in-Ok-append-clause-moves : goal.returns-in-Ok-append-clause-moves
returns-in-Ok-append-clause-moves g c =
    let d = g.D.Disk in
    let append = c.append.ensures in
    let added = c.in-Ok-append.ensures.value in
    subst (λ s. Moves d.content d.images d.left d.clock d.name d.faults s c.append.new.self 1) c.self.view_is
    (moves_added d.content d.images d.left d.clock d.name d.faults c.self.inside.journal c.append.new.self _ added.0 added.1
    append.keeps append.grows append.any_moment append.images)

-- it is in doubt

pub invariant_of-self-then-this : goal.invariant_of-self-then-this
invariant_of-self-then-this g c =
    let d = g.D.Disk in
    let new = c.append.new.self in
    let batches = c.args.batches.items in
    let same = c.as_slice-added.ensures.value in
    let torn = c.in-Err-true.ensures in
    let frames = ap batches_of torn.not_added in
    book_doubtful d.content d.images new c.make_ready.new.archive batches batches (torn.in_doubt (search rules) ∙ c.in-Ok.ensures.frame ∙ same)
    (subst (λ (l : List Batch). MayCome l batches) (sym frames) (subst (λ s. MayCome (batches_of s.frames) batches) (sym c.self.view_is) c.requires.may_come))
    (c.make_ready.ensures.adopted ∙ c.self.invariant.adopted ∙ sym frames) (c.in-Ok.ensures.roomy ∙ same) refl
    (stands_on d.content d.images new c.append.ensures.images)

pub returns-in-Err-true-clause-value : goal.returns-in-Err-true-clause-value
returns-in-Err-true-clause-value g c =
    let torn = c.in-Err-true.ensures in (
      subst (λ s. Rose (g.D.Disk.faults s.disk) (g.D.Disk.faults c.append.new.self.disk)) c.self.view_is torn.cause,
      inr (doubtful_state c.append.new.self (batches_of c.args.self.now.frames) c.args.batches.items
          (ap batches_of torn.not_added ∙ ap (λ s. batches_of s.frames) c.self.view_is)
          (torn.in_doubt (search rules) ∙ c.in-Ok.ensures.frame ∙ c.as_slice-added.ensures.value)),
    )

pub returns-in-Err-true-clause-moves : goal.returns-in-Err-true-clause-moves
returns-in-Err-true-clause-moves g c =
    let d = g.D.Disk in
    let append = c.append.ensures in
    let torn = c.in-Err-true.ensures in
    subst (λ s. Moves d.content d.images d.left d.clock d.name d.faults s c.append.new.self 1) c.self.view_is
    (moves_torn d.content d.images d.left d.clock d.name d.faults c.self.inside.journal c.append.new.self _
    (ap (λ s. s.doubt) c.self.view_is ∙ c.requires.settled) torn.not_added (torn.in_doubt (search rules))
    append.keeps append.grows append.any_moment append.images)

-- it is not written

pub invariant_of-self-else-this : goal.invariant_of-self-else-this
invariant_of-self-else-this g c =
    let d = g.D.Disk in
    let j = c.self.inside.journal in
    let new = c.append.new.self in
    let torn = c.in-Err-false.ensures in
    let frames = ap batches_of torn.not_added in
    book_settled d.content d.images new c.make_ready.new.archive c.self.inside.copies.items (torn.gate_shut (search rules))
    (subst (λ (l : List Batch). MayCome l []) (sym frames) (may_stay (batches_of j.frames) j.doubt c.self.invariant.may_come))
    (c.make_ready.ensures.adopted ∙ c.self.invariant.adopted ∙ sym frames)
    (c.self.invariant.copied ∙ ap (λ s. s.doubt) c.self.view_is ∙ c.requires.settled)
    (stands_on d.content d.images new c.append.ensures.images)

pub returns-in-Err-false-clause-value : goal.returns-in-Err-false-clause-value
returns-in-Err-false-clause-value g c =
    let torn = c.in-Err-false.ensures in (
      subst (λ s. Rose (g.D.Disk.faults s.disk) (g.D.Disk.faults c.append.new.self.disk)) c.self.view_is torn.cause,
      inl (certain_state c.append.new.self (batches_of c.args.self.now.frames)
          (ap batches_of torn.not_added ∙ ap (λ s. batches_of s.frames) c.self.view_is) (torn.gate_shut (search rules))),
    )

pub returns-in-Err-false-clause-moves : goal.returns-in-Err-false-clause-moves
returns-in-Err-false-clause-moves g c =
    let d = g.D.Disk in
    let append = c.append.ensures in
    let torn = c.in-Err-false.ensures in
    subst (λ s. Moves d.content d.images d.left d.clock d.name d.faults s c.append.new.self 1) c.self.view_is
    (moves_shut d.content d.images d.left d.clock d.name d.faults c.self.inside.journal c.append.new.self
    (ap (λ s. s.doubt) c.self.view_is ∙ c.requires.settled) torn.not_added (torn.gate_shut (search rules))
    append.keeps append.grows (torn.any_moment_shut (search rules)) append.images)

-- on a disk with a known room

pub returns-in_default-clause-roomy : goal.returns-in_default-clause-roomy
returns-in_default-clause-roomy g c =
    let d = g.D.Disk in
    let j = c.self.inside.journal in
    subst (λ s. AnswersInRoom d.room d.clock 4 s.disk j.disk (λ room. HasRoom s.frames c.args.batches.items room → written.Memory ≢ written.Fault))
    c.self.view_is (room_stays d.room d.clock 4 j.disk _ (λ room has is. cc))

pub returns-in-Ok-append-clause-roomy : goal.returns-in-Ok-append-clause-roomy
returns-in-Ok-append-clause-roomy g c =
    let d = g.D.Disk in
    let j = c.self.inside.journal in
    let new = c.append.new.self in
    subst (λ s. AnswersInRoom d.room d.clock 4 s.disk new.disk (λ room. HasRoom s.frames c.args.batches.items room → written.Stands ≢ written.Fault))
    c.self.view_is (AnswersInRoom-weaker d.room d.clock 4 4 j.disk new.disk _ _ (omega arith) (λ room kept has is. cc) c.append.ensures.roomy)

pub returns-in-Err-true-clause-roomy : goal.returns-in-Err-true-clause-roomy
returns-in-Err-true-clause-roomy g c =
    let d = g.D.Disk in
    let j = c.self.inside.journal in
    let new = c.append.new.self in
    let same = c.in-Ok.ensures.frame ∙ c.as_slice-added.ensures.value in
    subst (λ s. AnswersInRoom d.room d.clock 4 s.disk new.disk (λ room. HasRoom s.frames c.args.batches.items room → written.Fault ≢ written.Fault))
    c.self.view_is (AnswersInRoom-weaker d.room d.clock 4 4 j.disk new.disk _ _ (omega arith) (λ room kept has is. absurd (false≢true
    (kept (subst (λ (l : List Batch). end_of (j.frames ++ l ∷ []) + 1 ≤ room) (sym same) has)))) c.in-Err-true.ensures.roomy)

pub returns-in-Err-false-clause-roomy : goal.returns-in-Err-false-clause-roomy
returns-in-Err-false-clause-roomy g c =
    let d = g.D.Disk in
    let j = c.self.inside.journal in
    let new = c.append.new.self in
    let same = c.in-Ok.ensures.frame ∙ c.as_slice-added.ensures.value in
    subst (λ s. AnswersInRoom d.room d.clock 4 s.disk new.disk (λ room. HasRoom s.frames c.args.batches.items room → written.Fault ≢ written.Fault))
    c.self.view_is (AnswersInRoom-weaker d.room d.clock 4 4 j.disk new.disk _ _ (omega arith) (λ room kept has is. absurd (false≢true
    (kept (subst (λ (l : List Batch). end_of (j.frames ++ l ∷ []) + 1 ≤ room) (sym same) has)))) c.in-Err-false.ensures.roomy)
