use Rattle.std.proofs.Common.{◌≡◌, ◌++◌}
use Rattle.ldar_law.specs.Spans as law
use Rattle.leak_tags.specs.Walking.{Walks, rest_of}
use Rattle.leak_tags.proofs.spans.spans_by_walk.Given as goal

abbrev pub invariant-loop-place : goal.invariant-loop-place
invariant-loop-place l = record {
  walks : Walks l.kind l.walk l.events l.place;
  spans : law.spans_of l.kind l.events ≡ l.spans.items ++ rest_of l.kind l.events l.walk.tag l.place;
}
