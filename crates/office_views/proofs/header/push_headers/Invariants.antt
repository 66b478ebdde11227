use Rattle.std.proofs.Common.{◌≡◌, ◌+◌, ◌++◌, ◌<◌, ◌≤◌, length, take, vec_len, vec_capacity}
use Rattle.std.specs.List.{AllByRecursion}
use Rattle.office_views.specs.Headers.{headers_of}
use Rattle.office_views.specs.Inside.{facts_stated}
use Rattle.office_views.proofs.header.push_headers.Given as goal
use Rattle.fact_kinds.specs.declared.limits.TheConstants.{BATCH_FACTS}

abbrev pub invariant-loop-batch : goal.invariant-loop-batch
invariant-loop-batch l = record {
  pushed : l.headers.items ≡ l.initial.headers.items ++ headers_of l.fn.first (take l.batch-index l.batches);
  next : l.next ≡ l.fn.first + length (facts_stated (take l.batch-index l.batches));
  long : vec_len l.headers ≡ vec_len l.initial.headers + l.batch-index;
  room : vec_len l.initial.headers + length l.batches ≤ vec_capacity l.headers;
  filled : AllByRecursion (λ batch. (0 < length batch.facts) × (length batch.facts ≤ BATCH_FACTS)) (take l.batch-index l.batches);
}
