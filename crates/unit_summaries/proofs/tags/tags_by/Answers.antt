use Rattle.std.proofs.Common.{◌++◌, [], ◌∷◌, filter, map, sym, ap, ◌∙◌, arith}
use Rattle.std.proofs.lemmas.List.{take_all}
use Rattle.ldar_law.specs.Tags as law
use Rattle.unit_summaries.proofs.ListLemmas.{mapped_more}
use Rattle.unit_summaries.proofs.tags.tags_by.Goals as goal

pub loop-span-preserved : goal.loop-span-preserved
loop-span-preserved c =
    let l = c.loop-span in
    let events = c.args.events.now in
    let spans = c.args.spans.now in
    let span = c.span-item.result in
    let tag = law.tag_of c.args.component events c.args.stops.now in
    let put = c.in_ok-add_tag.ensures.put events (c.deref-in-loop-span-2.ensures.value ∙ c.in_ok-attempts.ensures.value)
    (c.deref-in-loop-span.ensures.value ∙ c.in_ok-own.ensures.value
    ∙ ap (λ ds. filter (λ d. law.is_within span d.key) ds) (c.deref.ensures.value ∙ c.in_ok-delays.ensures.value)) in
    put ∙ ap (λ ts. ts ++ tag span ∷ []) l.invariant
    ∙ sym (mapped_more tag spans l.span-index span c.loop-span-test.true c.span-item.is)

pub returns : goal.returns
returns c =
    let l = c.loop-span in
    let tag = law.tag_of c.args.component c.args.events.now c.args.stops.now in
    record { value = l.invariant ∙ ap (map tag) (take_all l.span-index c.args.spans.now (omega arith)) }
