use Rattle.std.proofs.Common.{◌≡◌, ◌≤◌, [], take}
use Rattle.std.specs.Prelude.{sum_by}
use Rattle.fact_store.specs.Kept.{facts_in}
use Rattle.ldar_law.specs.Judged.{register_with}
use Rattle.ldar_law.specs.ShareLaws.{counts_as_valve, counts_as_difficult, adds}
use Rattle.batch_rules.proofs.valves.share_of_all.Given as goal

abbrev pub invariant-loop-component : goal.invariant-loop-component
invariant-loop-component l = record {
  valves : l.share.valves ≡ sum_by (adds (counts_as_valve l.unit l.day) (register_with (facts_in l.register) [])) (take l.component-index l.components);
  difficult : l.share.difficult ≡ sum_by (adds (counts_as_difficult l.unit l.day) (register_with (facts_in l.register) [])) (take l.component-index l.components);
  few : (l.share.valves ≤ l.component-index) × (l.share.difficult ≤ l.component-index);
}
