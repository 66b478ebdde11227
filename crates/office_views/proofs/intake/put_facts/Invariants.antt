use Rattle.std.proofs.Common.{◌≡◌, ◌++◌, take, drop}
use Rattle.std.specs.List.{AllByRecursion}
use Rattle.fact_kinds.specs.Facts.{entries_of}
use Rattle.fact_kinds.specs.Fields.{IsFact}
use Rattle.fact_store.specs.Coming.{stored}
use Rattle.office_views.proofs.intake.put_facts.Given as goal

abbrev pub invariant-loop-index : goal.invariant-loop-index
invariant-loop-index l = record {
  stored : stored l.store ≡ record { arrived = l.initial.store.arrived ++ take l.index (entries_of l.batch); spare = drop l.index l.initial.store.spare };
  listed : l.store.listed ≡ l.initial.store.listed;
  in_range : AllByRecursion IsFact (take l.index l.batch.facts);
}
