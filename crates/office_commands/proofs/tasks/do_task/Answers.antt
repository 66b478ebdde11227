use Rattle.std.proofs.Common.{refl}
use Rattle.office_commands.specs.declared.command.Task.TheVariants.{Dock, Drain, Import, Seals, Ask}
use Rattle.office_commands.proofs.EndLemmas.{ended_cause}
use Rattle.office_commands.proofs.ImportLemmas.{import_disk, run_faulty, takes_text}
use Rattle.office_commands.proofs.TaskLemmas.{does_for}
use Rattle.office_commands.proofs.tasks.do_task.Goals as goal

-- dock
pub returns-in-Dock-clause-does : goal.returns-in-Dock-clause-does
returns-in-Dock-clause-does g c =
    let talk = c.dock.ensures.talk in
    does_for _ g.D.Disk.clock c.args.task Dock _ _ _ _ _ c.in-Dock.is (
      c.dock.result,
      c.status_of.ensures.value,
      (talk.0, talk.1, talk.2, talk.3, record { stretch = talk.4; within = talk.6 }, talk.5),
    )

pub returns-in-Dock-clause-cause : goal.returns-in-Dock-clause-cause
returns-in-Dock-clause-cause g c =
    ended_cause c.dock.result c.status_of.result _ _ _ _ c.status_of.ensures.value c.dock.ensures.read_fault c.dock.ensures.write_fault

-- drain
pub returns-in-Drain-clause-does : goal.returns-in-Drain-clause-does
returns-in-Drain-clause-does g c =
    let talk = c.session.ensures.talk in
    does_for _ g.D.Disk.clock c.args.task Drain _ _ _ _ _ c.in-Drain.is (
      c.session.result,
      c.status_of-in-Drain.ensures.value,
      (talk.0, talk.1, talk.2, talk.3, record { stretch = talk.4; within = talk.6 }, talk.5),
    )

pub returns-in-Drain-clause-cause : goal.returns-in-Drain-clause-cause
returns-in-Drain-clause-cause g c =
    ended_cause c.session.result c.status_of-in-Drain.result _ _ _ _ c.status_of-in-Drain.ensures.value c.session.ensures.read_fault
    c.session.ensures.write_fault

-- import
pub returns-in-Import-clause-does : goal.returns-in-Import-clause-does
returns-in-Import-clause-does g c =
    let talk = c.import.ensures.talk in
    does_for _ g.D.Disk.clock c.args.task (Import c.in-Import.number c.in-Import.sort) _ _ _ _ _ c.in-Import.is (
      talk.0,
      talk.1,
      talk.2,
      takes_text talk.0 _ _ talk.1 talk.4.stretch.each talk.3,
      talk.4,
      talk.5,
    )

pub returns-in-Import-clause-cause : goal.returns-in-Import-clause-cause
returns-in-Import-clause-cause g c =
    let d = g.D.Disk in
    let ensures = c.import.ensures in
    let talk = ensures.talk in (
      ensures.read_fault,
      ensures.write_fault,
      λ is. run_faulty d.content d.left d.clock d.name d.faults c.args.book.now c.import.new.book talk.4.stretch.calls talk.0 talk.4.stretch.run talk.4.stretch.turns
          (import_disk c.in-Import.sort c.in-Import.number _ c.import.result talk.0 talk.1 _ talk.2 is talk.5),
      λ is. absurd (ensures.no_filing is),
    )

-- seals
pub returns-in-Seals-clause-does : goal.returns-in-Seals-clause-does
returns-in-Seals-clause-does g c =
    does_for _ g.D.Disk.clock c.args.task (Seals c.in-Seals.unit c.in-Seals.day) _ _ _ _ _ c.in-Seals.is (c.seals.ensures.unchanged, c.seals.ensures.shows)

-- ask
pub returns-in-Ask-clause-does : goal.returns-in-Ask-clause-does
returns-in-Ask-clause-does g c =
    does_for _ g.D.Disk.clock c.args.task (Ask c.in-Ask.question) _ _ _ _ _ c.in-Ask.is (c.answer.ensures.unchanged, refl, c.answer.ensures.answers)
