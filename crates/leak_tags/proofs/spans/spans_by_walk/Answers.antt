use Rattle.std.proofs.Common.{◌≡◌, ◌++◌, length, sym, ap, ◌∙◌, arith}
use Rattle.leak_tags.specs.Walking.{rest_of}
use Rattle.leak_tags.proofs.spans.spans_by_walk.Goals as goal

pub returns : goal.returns
returns c =
    let kind = c.args.kind in
    let events = c.args.events.now in
    let at_end : c.loop-place.place ≡ length events = omega (arith, c.loop-place-test.false, c.loop-place.auto.place-end) in
    record {
      value =
          c.in_ok-put-2.ensures.pushed
          ∙ ap (λ rest. c.loop-place.spans.items ++ rest)
          (c.rest-open.ensures.value kind events ∙ ap (λ n. rest_of kind events c.loop-place.walk.tag n) (sym at_end))
          ∙ sym c.loop-place.invariant.spans;
    }
