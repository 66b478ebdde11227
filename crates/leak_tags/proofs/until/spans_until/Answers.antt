use Rattle.std.proofs.Common.{◌≡◌, ◌++◌, [], map, sym, ap, ◌∙◌}
use Rattle.std.proofs.lemmas.List.{append-nil}
use Rattle.ldar_law.specs.SpansByDay.{events_to}
use Rattle.ldar_law.specs.SpansByDay.{span_on, detected_by}
use Rattle.leak_tags.proofs.UntilLemmas.{known_spans, none_detected}
use Rattle.leak_tags.proofs.until.spans_until.Goals as goal

pub returns-then-detected-eq0-clause-put : goal.returns-then-detected-eq0-clause-put
returns-then-detected-eq0-clause-put c =
    let a = c.args in
    let known = map (span_on a.day a.kind (events_to a.day a.events.now)) in
    let none : detected_by a.day a.spans.now ≡ [] =
    none_detected a.day a.spans.now (sym c.count_detected-detected.ensures.value ∙ c.if-detected-eq0.true) in
    sym (ap (λ tags. a.out.now.items ++ tags)
    (known_spans a.day a.kind a.events.now a.spans.now c.requires.of_all c.requires.ordered ∙ ap known none)
    ∙ append-nil a.out.now.items)

pub returns-clause-put : goal.returns-clause-put
returns-clause-put c =
    let a = c.args in
    c.push_known.ensures.put
    ∙ ap (λ items. items ++ map (span_on a.day a.kind c.front_of-front.result.now) (detected_by a.day a.spans.now)) c.reserve.ensures.items
    ∙ ap (λ front. a.out.now.items ++ map (span_on a.day a.kind front) (detected_by a.day a.spans.now)) c.front_of-front.ensures.value
    ∙ ap (λ tags. a.out.now.items ++ tags)
    (sym (known_spans a.day a.kind a.events.now a.spans.now c.requires.of_all c.requires.ordered))
