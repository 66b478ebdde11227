use Rattle.std.proofs.Common.{◌≡◌, drop, map}
use Rattle.httparse.specs.Spans.{header_bytes}
use Rattle.handheld_http.specs.Heads as heads
use Rattle.handheld_http.proofs.fields.value_of.Given as goal

abbrev pub invariant-loop-field : goal.invariant-loop-field
invariant-loop-field l =
    heads.value_of l.name (map (header_bytes l.head) (drop l.field-index l.fields)) ≡ heads.value_of l.name (map (header_bytes l.head) l.fields)
