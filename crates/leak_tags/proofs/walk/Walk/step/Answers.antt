use Rattle.std.proofs.Common.{◌+◌, ◌∷◌, Some, None, refl, sym, ap, ◌∙◌, arith}
use Rattle.leak_tags.specs.declared.open_leaks.OpenLeaks.{OpenLeaks}
use Rattle.leak_tags.specs.OpenLeaks.{with_event}
use Rattle.leak_tags.specs.Walking.{tags_from, rest_of}
use Rattle.leak_tags.proofs.WalkLemmas.{walks_past, walks_open, rest_open, walks_on, rest_on, walks_shut, rest_shut}
use Rattle.leak_tags.proofs.walk.Walk.step.Goals as goal

pub returns-then-is_open-clause-walks : goal.returns-then-is_open-clause-walks
returns-then-is_open-clause-walks c =
    walks_on c.args.kind c.args.events.now c.args.place c.index-events-place.result c.requires.in_range c.index-events-place.is
    c.args.self.now c.requires.walks
    (record { tag = c.args.self.now.tag; leaks = c.take.new.self; next = c.args.self.now.next; pair = c.args.self.now.pair }) c.in-Some.tag
    c.in-Some.is c.in-Some.is c.take.ensures.value refl refl (sym c.if-is_open.ensures.value)

pub returns-then-is_open-clause-rest : goal.returns-then-is_open-clause-rest
returns-then-is_open-clause-rest c =
    ap (λ tag. rest_of c.args.kind c.args.events.now tag c.args.place) c.in-Some.is
    ∙ rest_on c.args.kind c.args.events.now c.args.place c.index-events-place.result c.requires.in_range c.index-events-place.is
    c.args.self.now c.requires.walks
    c.take.new.self c.in-Some.tag c.in-Some.is c.take.ensures.value (sym c.if-is_open.ensures.value)
    ∙ sym (ap (λ tag. rest_of c.args.kind c.args.events.now tag (c.args.place + 1)) c.in-Some.is)

pub returns-in-Some-clause-walks : goal.returns-in-Some-clause-walks
returns-in-Some-clause-walks c =
    walks_shut c.args.kind c.args.events.now c.args.place c.index-events-place.result c.requires.in_range c.index-events-place.is
    c.args.self.now c.requires.walks
    (record { tag = None; leaks = c.take.new.self; next = c.args.self.now.next; pair = Some c.pair_of-pair.result }) c.in-Some.tag c.in-Some.is refl
    c.take.new.self c.take.ensures.value refl c.pair_of-pair.ensures.value (sym c.if-is_open.ensures.value)

pub returns-in-Some-clause-rest : goal.returns-in-Some-clause-rest
returns-in-Some-clause-rest c =
    ap (λ tag. rest_of c.args.kind c.args.events.now tag c.args.place) c.in-Some.is
    ∙ rest_shut c.args.kind c.args.events.now c.args.place c.index-events-place.result c.requires.in_range c.index-events-place.is
    c.args.self.now c.requires.walks
    c.take.new.self c.in-Some.tag c.in-Some.is c.take.ensures.value (sym c.if-is_open.ensures.value)
    ∙ ap (λ span. span ∷ tags_from c.args.kind c.args.events.now (c.args.place + 1)) (sym c.closed.ensures.value)

pub returns-then-not-is_leak-clause-walks : goal.returns-then-not-is_leak-clause-walks
returns-then-not-is_leak-clause-walks c =
    walks_past c.args.kind c.args.events.now c.args.place c.index-events-place.result c.requires.in_range c.index-events-place.is
    c.args.self.now c.requires.walks
    c.in_default.is (sym c.if-not-is_leak.ensures.value)

pub returns-clause-walks : goal.returns-clause-walks
returns-clause-walks c =
    walks_open c.args.kind c.args.events.now c.args.place c.index-events-place.result c.requires.in_range c.index-events-place.is
    c.args.self.now c.requires.walks
    (record {
      tag = Some (record { detected = c.index-events-place.result.key; attempted = c.moved_to-next.result.day });
      leaks = c.take-2.new.self;
      next = c.moved_to-next.result;
      pair = c.args.self.now.pair;
    })
    (record { detected = c.index-events-place.result.key; attempted = c.moved_to-next.result.day }) c.in_default.is (sym c.if-not-is_leak.ensures.value) refl
    (c.take-2.ensures.value ∙ ap (λ (leaks : OpenLeaks). with_event c.args.kind leaks c.index-events-place.result) c.none-self.ensures.value)
    c.moved_to-next.ensures.value refl

pub returns-clause-rest : goal.returns-clause-rest
returns-clause-rest c =
    rest_open c.args.kind c.args.events.now c.args.place c.index-events-place.result c.requires.in_range c.index-events-place.is
    c.args.self.now c.requires.walks
    c.moved_to-next.result.day c.in_default.is (sym c.if-not-is_leak.ensures.value)
    (sym (c.moved_to-next.ensures.value (c.args.place + 1) (omega arith) c.moved_to-next.ensures.end))
