use Rattle.std.proofs.Common.{◌≤◌, ◌∙◌, inl, inr, sym, subst, ap, map, MutBor}
use Rattle.disk_model.specs.Faults.{Rose}
use Rattle.std.specs.String.{string_bytes}
use Rattle.office_commands.specs.Command.{command_in}
use Rattle.office_commands.specs.Run.{Ends}
use Rattle.office_commands.specs.Scene.{seen, streams}
use Rattle.office_commands.proofs.EndLemmas.{cause_by}
use Rattle.office_commands.proofs.StatusLemmas.{exit_read, exit_disk, exit_filing}
use Rattle.office_commands.proofs.program.run.Goals as goal

-- what `disk` refers to at the end is what the reference that was handed back refers to: it has the name of the one that was lent
pub returns-clause-ends : goal.returns-clause-ends
returns-clause-ends g c =
    let d = g.D.Disk in
    let status = c.run_over-status.result.0 in
    let over = c.run_over-status.ensures in
    let new = c.run_over-status.new in
    let at = streams g.S.Source.left g.K.Sink.pieces g.K.Sink.faults g.F.Filing.on_file in
    let see = seen d.content d.images d.left d.clock d.faults in
    let last = c.disk-1.given.1 (sym over.keeps.name) in (
      status,
      c.note.ensures.noted,
      cause_by status _ _ _ _ _ _ _ _ (λ rose. rose) (λ rose. rose)
          (λ rose. subst (λ (x : g.row.D.Denot). Rose (d.faults c.args.disk.now) (d.faults x)) (sym last) rose) (λ rose. rose) over.cause,
      elim over.ends [
        | inl wanting ↦ inl (wanting.0, wanting.1, wanting.2, wanting.3, last ∙ ap (λ (r : MutBor g.row.D.Denot). r.now) wanting.4)
        | inr ends ↦ inr (subst (λ (x : g.row.D.Denot). Ends (command_in (map string_bytes c.args.words.now)) status
            (at c.args.input.now c.args.output.now c.args.filing.now) (at new.input new.output new.filing) (see c.args.disk.now) (see x)) (sym last) ends)
      ],
    )

pub returns-clause-read_fault : goal.returns-clause-read_fault
returns-clause-read_fault g c is =
    c.run_over-status.ensures.cause.0 (exit_read c.run_over-status.result.0 _ _ _ _ c.note.result c.note.ensures.noted is)

pub returns-clause-write_fault : goal.returns-clause-write_fault
returns-clause-write_fault g c is =
    elim (c.note.ensures.cause is) [ inl was ↦ inl (c.run_over-status.ensures.cause.1 was) | inr rose ↦ inr rose ]

pub returns-clause-disk_fault : goal.returns-clause-disk_fault
returns-clause-disk_fault g c is =
    let over = c.run_over-status.ensures in
    subst (λ (x : g.row.D.Denot). Rose (g.D.Disk.faults c.args.disk.now) (g.D.Disk.faults x)) (sym (c.disk-1.given.1 (sym over.keeps.name)))
    (over.cause.2 (exit_disk c.run_over-status.result.0 _ _ _ _ c.note.result c.note.ensures.noted is))

pub returns-clause-filing_fault : goal.returns-clause-filing_fault
returns-clause-filing_fault g c is =
    c.run_over-status.ensures.cause.3 (exit_filing c.run_over-status.result.0 _ _ _ _ c.note.result c.note.ensures.noted is)

pub returns-clause-disk_count : goal.returns-clause-disk_count
returns-clause-disk_count g c =
    let over = c.run_over-status.ensures in
    subst (λ (x : g.row.D.Denot). g.D.Disk.faults c.args.disk.now ≤ g.D.Disk.faults x) (sym (c.disk-1.given.1 (sym over.keeps.name))) over.keeps.count

pub returns-clause-time : goal.returns-clause-time
returns-clause-time g c =
    let over = c.run_over-status.ensures in
    subst (λ (x : g.row.D.Denot). g.D.Disk.clock c.args.disk.now ≤ g.D.Disk.clock x) (sym (c.disk-1.given.1 (sym over.keeps.name))) over.keeps.time
