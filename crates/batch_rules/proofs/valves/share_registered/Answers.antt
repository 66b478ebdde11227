use Rattle.std.proofs.Common.{◌≡◌, [], refl, sym, ap, ◌∙◌}
use Rattle.std.specs.Prelude.{sum_by}
use Rattle.fact_store.specs.Kept.{facts_in}
use Rattle.ldar_law.specs.Judged.{register_with}
use Rattle.ldar_law.specs.ShareLaws.{counts_as_valve, counts_as_difficult, adds, count_in}
use Rattle.ldar_law.proofs.ShareLemmas.{members_count}
use Rattle.batch_rules.proofs.valves.share_registered.Goals as goal

pub returns-clause-value : goal.returns-clause-value
returns-clause-value c =
    let held = facts_in c.args.register.now in
    let unit = c.args.unit in
    let day = c.args.day in
    let counts = members_count unit day held c.members.ensures.once.components in
    let valves : c.share_of_all.result.valves ≡ count_in (counts_as_valve unit day) (register_with held []) =
    c.share_of_all.ensures.valves ∙ ap (sum_by (adds (counts_as_valve unit day) (register_with held []))) c.members.ensures.value ∙ sym counts.0 in
    let difficult : c.share_of_all.result.difficult ≡ count_in (counts_as_difficult unit day) (register_with held []) =
    c.share_of_all.ensures.difficult ∙ ap (sum_by (adds (counts_as_difficult unit day) (register_with held []))) c.members.ensures.value ∙ sym counts.1 in
    rw (sym valves, sym difficult) refl
