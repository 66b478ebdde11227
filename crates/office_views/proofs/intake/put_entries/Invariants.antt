use Rattle.std.proofs.Common.{◌≡◌, ◌++◌, length, take, drop, filter}
use Rattle.fact_kinds.specs.Facts.{entries_of}
use Rattle.ldar_law.specs.Slices.{is_registered, register_facts}
use Rattle.office_views.proofs.intake.put_entries.Given as goal

abbrev pub invariant-loop-index : goal.invariant-loop-index
invariant-loop-index l = l.register ≡ record {
  arrived = l.initial.register.arrived ++ register_facts (take l.index (entries_of l.batch));
  spare = drop (length (filter (λ fact. is_registered fact.body) (take l.index l.batch.facts))) l.initial.register.spare;
}
