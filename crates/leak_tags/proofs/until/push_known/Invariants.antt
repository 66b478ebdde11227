use Rattle.std.proofs.Common.{◌≡◌, ◌+◌, ◌≤◌, ◌++◌, take, drop, map, count_by, nat_le, vec_len, vec_capacity}
use Rattle.ldar_law.specs.SpansByDay.{span_on, detected_by}
use Rattle.leak_tags.proofs.until.push_known.Given as goal

abbrev pub invariant-loop-span : goal.invariant-loop-span
invariant-loop-span l = record {
  put : l.out.items ≡ l.initial.out.items ++ map (span_on l.day l.kind l.front) (detected_by l.day (take l.span-index l.spans));
  roomy : vec_len l.out + count_by (λ span. nat_le span.detected.day l.day) (drop l.span-index l.spans) ≤ vec_capacity l.out;
}
