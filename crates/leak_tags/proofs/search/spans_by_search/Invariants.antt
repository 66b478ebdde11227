use Rattle.std.proofs.Common.{◌≡◌, ◌++◌, take, drop}
use Rattle.list_words.specs.Words.{each_from}
use Rattle.ldar_law.specs.Spans as law
use Rattle.leak_tags.proofs.search.spans_by_search.Given as goal

abbrev pub invariant-loop-place : goal.invariant-loop-place
invariant-loop-place l =
    law.spans_of l.kind l.events
    ≡ l.spans.items ++ each_from (law.span_at l.kind l.events) (take l.place l.events) (drop l.place l.events)
