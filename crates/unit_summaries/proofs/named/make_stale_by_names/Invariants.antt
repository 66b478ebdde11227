use Rattle.std.proofs.Common.{take}
use Rattle.std.specs.List.{list_any}
use Rattle.fact_kinds.specs.Named.{component_of, unit_of, is_numbered}
use Rattle.unit_summaries.specs.Rows.{Stales}
use Rattle.unit_summaries.proofs.named.make_stale_by_names.Given as goal

abbrev pub invariant-loop-fact : goal.invariant-loop-fact
invariant-loop-fact l = record {
  components : Stales (λ n. list_any (λ fact. is_numbered (component_of fact.body) n) (take l.fact-index l.facts)) l.initial.components l.components;
  units : Stales (λ u. list_any (λ fact. is_numbered (unit_of fact.body) u) (take l.fact-index l.facts)) l.initial.units l.units;
}
