use Rattle.std.proofs.Common.{Some, refl, sym, ap}
use Rattle.office_commands.specs.declared.command.Command.TheVariants.{Init, Amended, Drill, Mirror}
use Rattle.office_commands.proofs.TaskLemmas.{ends_for}
use Rattle.office_commands.proofs.program.run_command.Goals as goal

pub returns-in-Init-clause-ends : goal.returns-in-Init-clause-ends
returns-in-Init-clause-ends g c =
    ends_for (Some Init) _ c.init-status.result _ _ _ _ (sym (ap Some c.in-Init.is)) ((refl, refl), c.init-status.ensures.made)

pub returns-in-Amended-clause-ends : goal.returns-in-Amended-clause-ends
returns-in-Amended-clause-ends g c =
    let ensures = c.amended-status.ensures in
    ends_for (Some (Amended c.in-Amended.pair)) _ c.amended-status.result _ _ _ _ (sym (ap Some c.in-Amended.is))
    (record { unread = refl; filed = ensures.reports; ends = ensures.ends })

pub returns-in-Drill-clause-ends : goal.returns-in-Drill-clause-ends
returns-in-Drill-clause-ends g c =
    ends_for (Some (Drill c.in-Drill.seed c.in-Drill.size)) _ c.drill.result.0 _ _ _ _ (sym (ap Some c.in-Drill.is)) (refl, refl, c.drill.ensures.ends)

pub returns-in-Mirror-clause-ends : goal.returns-in-Mirror-clause-ends
returns-in-Mirror-clause-ends g c =
    ends_for (Some Mirror) _ c.mirror.result.0 _ _ _ _ (sym (ap Some c.in-Mirror.is)) (c.mirror.ensures.ends (g.F.Filing.on_file c.args.filing.now))
