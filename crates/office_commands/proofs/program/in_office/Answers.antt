use Rattle.std.proofs.Common.{refl, inl, inr, subst, sym}
use Rattle.disk_model.specs.Faults.{Rose}
use Rattle.office_commands.proofs.EndLemmas.{cause_by, not_opened, refused_cause}
use Rattle.office_commands.proofs.FaultLemmas.{rose_since}
use Rattle.office_commands.proofs.TaskLemmas.{keeps_along, task_ends, task_keeps}
use Rattle.office_commands.proofs.program.in_office.Goals as goal

-- the journal was opened, and the task done
pub returns-in-Ok-clause-ends : goal.returns-in-Ok-clause-ends
returns-in-Ok-clause-ends g c =
    let d = g.D.Disk in
    let status = c.do_task-status in
    inr (task_ends d.content d.images d.left d.clock d.name d.faults g.met.D.Disk.only_now g.met.D.Disk.since_earlier c.args.task status.result
    c.args.disk c.into_disk.result c.in-Ok.book status.new.book _ _ c.in-Ok.ensures.opens c.in-Ok.ensures.settled c.in-Ok.ensures.ruly
    c.in-Ok.ensures.any_moment c.in-Ok.ensures.durable c.in-Ok.ensures.keeps status.ensures.does c.into_disk.ensures.value c.into_disk.ensures.stands)

pub returns-in-Ok-clause-cause : goal.returns-in-Ok-clause-cause
returns-in-Ok-clause-cause g c =
    let d = g.D.Disk in
    let status = c.do_task-status in
    cause_by status.result _ _ _ _ _ _ _ _ (λ rose. rose) (λ rose. rose)
    (λ rose. subst (λ (x : g.row.D.Denot). Rose (d.faults c.args.disk) (d.faults x)) (sym c.into_disk.ensures.value)
    (rose_since (d.faults c.args.disk) (d.faults c.in-Ok.book.disk) (d.faults status.new.book.disk) c.in-Ok.ensures.keeps.count rose)) (λ rose. rose)
    status.ensures.cause

pub returns-in-Ok-clause-keeps : goal.returns-in-Ok-clause-keeps
returns-in-Ok-clause-keeps g c =
    let d = g.D.Disk in
    let status = c.do_task-status in
    keeps_along d.content d.images d.left d.clock d.name d.faults g.met.D.Disk.only_now g.met.D.Disk.since_earlier c.args.disk c.into_disk.result
    c.in-Ok.book status.new.book c.in-Ok.ensures.keeps
    (task_keeps d.content d.images d.left d.clock d.name d.faults g.met.D.Disk.only_now g.met.D.Disk.since_earlier c.args.task status.result c.in-Ok.book
    status.new.book _ _ status.ensures.does) c.into_disk.ensures.value

-- it was not opened
pub returns-in-Err-clause-ends : goal.returns-in-Err-clause-ends
returns-in-Err-clause-ends g c =
    let d = g.D.Disk in
    inl (record {
      silent = (refl, refl);
      filed = refl;
      shut = not_opened d.content d.images d.left d.clock d.faults c.args.disk c.in-Err.error.disk c.in-Err.error.why c.refusal.result
          c.in-Err.ensures.refused c.in-Err.ensures.any_moment c.refusal.ensures.value;
    })

pub returns-in-Err-clause-cause : goal.returns-in-Err-clause-cause
returns-in-Err-clause-cause g c =
    refused_cause c.in-Err.error.why c.refusal.result _ _ _ _ c.refusal.ensures.value c.in-Err.ensures.cause
