use Rattle.std.proofs.Common.{[], ◌∙◌, ap}
use Rattle.std.specs.Prelude.{sum_by}
use Rattle.std.proofs.lemmas.List.{take_all}
use Rattle.fact_store.specs.Kept.{facts_in}
use Rattle.ldar_law.specs.Judged.{register_with}
use Rattle.ldar_law.specs.ShareLaws.{counts_as_valve, counts_as_difficult, adds}
use Rattle.batch_rules.proofs.valves.share_of_all.Goals as goal

pub returns-clause-valves : goal.returns-clause-valves
returns-clause-valves c =
    c.loop-component.invariant.valves
    ∙ ap (sum_by (adds (counts_as_valve c.args.unit c.args.day) (register_with (facts_in c.args.register.now) [])))
    (take_all c.loop-component.component-index c.args.components.now c.loop-component-test.false)

pub returns-clause-difficult : goal.returns-clause-difficult
returns-clause-difficult c =
    c.loop-component.invariant.difficult
    ∙ ap (sum_by (adds (counts_as_difficult c.args.unit c.args.day) (register_with (facts_in c.args.register.now) [])))
    (take_all c.loop-component.component-index c.args.components.now c.loop-component-test.false)
