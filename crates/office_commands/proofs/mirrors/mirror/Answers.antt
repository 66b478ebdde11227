use Rattle.std.proofs.Common.{List, ℕ, refl, inl, inr, subst, sym}
use Rattle.disk_model.specs.Faults.{Rose}
use Rattle.ldar_journal.specs.Shelf.{Shelf}
use Rattle.office_mirror.specs.MirrorRun.{TakesAnswers}
use Rattle.office_commands.proofs.EndLemmas.{cause_by, not_opened, refused_cause}
use Rattle.office_commands.proofs.MirrorLemmas.{is_mirrored, mirror_keeps, mirrored_cause}
use Rattle.office_commands.proofs.TaskLemmas.{keeps_along}
use Rattle.office_commands.proofs.mirrors.mirror.Goals as goal

-- the journal was opened, and the answers taken
pub returns-in-Ok-clause-ends : goal.returns-in-Ok-clause-ends
returns-in-Ok-clause-ends g c = λ filed.
    let d = g.D.Disk in
    let k = g.K.Sink in
    let left = g.S.Source.left in
    let book = c.in-Ok.book in
    let ended = c.take_answers-ended in
    let end = c.into_book.result in
    let took = ended.ensures.takes in
    let pieces = k.pieces c.args.output.now in
    let pieces' = k.pieces ended.new.sink in
    let started = subst (λ (s : Shelf g.row.D.Denot). TakesAnswers d.content d.left d.clock d.name d.faults s ended.new.mirror pieces pieces' took.0 took.2)
    c.new-mirror.ensures.value took.4 in
    let taken = subst (λ (s : Shelf g.row.D.Denot). TakesAnswers d.content d.left d.clock d.name d.faults book s pieces pieces' took.0 took.2)
    (sym c.into_book.ensures.value) started in
    inr (is_mirrored d.content d.images d.left d.clock d.name d.faults g.met.D.Disk.only_now g.met.D.Disk.since_earlier c.args.disk c.into_disk.result book end
    c.status_mirrored.result ended.result
    (record { unread = left c.args.input.now; pieces = pieces; output_faults = k.faults c.args.output.now; filed = filed })
    (record { unread = left ended.new.source; pieces = pieces'; output_faults = k.faults ended.new.sink; filed = filed })
    took.0 took.1 took.2 c.in-Ok.ensures.opens c.in-Ok.ensures.settled c.in-Ok.ensures.ruly c.in-Ok.ensures.any_moment c.in-Ok.ensures.durable
    c.in-Ok.ensures.keeps c.status_mirrored.ensures.value took.3 taken took.5 c.into_disk.ensures.value c.into_disk.ensures.stands)

pub returns-in-Ok-clause-cause : goal.returns-in-Ok-clause-cause
returns-in-Ok-clause-cause g c =
    let ended = c.take_answers-ended in
    mirrored_cause ended.result c.status_mirrored.result _ _ _ _ c.status_mirrored.ensures.value ended.ensures.read_fault ended.ensures.write_fault

pub returns-in-Ok-clause-keeps : goal.returns-in-Ok-clause-keeps
returns-in-Ok-clause-keeps g c =
    let d = g.D.Disk in
    let book = c.in-Ok.book in
    let ended = c.take_answers-ended in
    let end = c.into_book.result in
    let took = ended.ensures.takes in
    let pieces = g.K.Sink.pieces c.args.output.now in
    let pieces' = g.K.Sink.pieces ended.new.sink in
    let started = subst (λ (s : Shelf g.row.D.Denot). TakesAnswers d.content d.left d.clock d.name d.faults s ended.new.mirror pieces pieces' took.0 took.2)
    c.new-mirror.ensures.value took.4 in
    let taken = subst (λ (s : Shelf g.row.D.Denot). TakesAnswers d.content d.left d.clock d.name d.faults book s pieces pieces' took.0 took.2)
    (sym c.into_book.ensures.value) started in
    keeps_along d.content d.images d.left d.clock d.name d.faults g.met.D.Disk.only_now g.met.D.Disk.since_earlier c.args.disk c.into_disk.result book end
    c.in-Ok.ensures.keeps
    (mirror_keeps d.content d.images d.left d.clock d.name d.faults g.met.D.Disk.only_now g.met.D.Disk.since_earlier book end pieces pieces' took.0 took.2
    taken) c.into_disk.ensures.value

-- it was not opened
pub returns-in-Err-clause-ends : goal.returns-in-Err-clause-ends
returns-in-Err-clause-ends g c = λ filed.
    let d = g.D.Disk in
    inl (record {
      silent = (refl, refl);
      filed = refl;
      shut = not_opened d.content d.images d.left d.clock d.faults c.args.disk c.in-Err.error.disk c.in-Err.error.why c.refusal.result
          c.in-Err.ensures.refused c.in-Err.ensures.any_moment c.refusal.ensures.value;
    })

pub returns-in-Err-clause-cause : goal.returns-in-Err-clause-cause
returns-in-Err-clause-cause g c =
    refused_cause c.in-Err.error.why c.refusal.result _ _ _ _ c.refusal.ensures.value c.in-Err.ensures.cause
