use Rattle.std.proofs.Common.{◌++◌, length, take, filter, sym, ap, ◌∙◌}
use Rattle.fact_store.specs.Coming.{Coming, stored}
use Rattle.fact_store.specs.Kept.{Kept}
use Rattle.ldar_law.specs.Slices.{is_registered}
use Rattle.office_views.proofs.SoundLemmas.{roomy, roomy_viewed, viewed, adopted_is, noted_is}
use Rattle.office_views.proofs.views.Views.reserve.Goals as goal

pub invariant_of-self-2 : goal.invariant_of-self-2
invariant_of-self-2 c =
    let inside = c.self.inside in
    let sound = c.self.invariant.0 in
    let batches = c.args.batches.now in
    let facts = c.deref.ensures.value ∙ c.in_ok-facts.ensures.value in
    let came = ap (λ (k : Coming). k.arrived) c.in_ok-make_room.ensures.stored in
    let entered = ap (λ (k : Kept). k.arrived) c.in_ok-make_room.ensures.entered in
    let room = ap (λ (k : Coming). k.spare) c.in_ok-make_room.ensures.stored ∙ facts in
    let entry_room = ap (λ (k : Kept). k.spare) c.in_ok-make_room.ensures.entered ∙ ap (filter (λ fact. is_registered fact.body)) facts in
    let pushed = rw (c.truncate.ensures.items, c.reserve.ensures.items, c.self.invariant.1) at c.push_headers.ensures.value in (
      (
        take inside.adopted sound.0 ++ batches,
        roomy sound.0 (stored inside.store) inside.register inside.headers.items inside.adopted sound.1 batches
            (stored c.make_room.new.store) c.make_room.new.register c.push_headers.new.headers.items came entered room entry_room pushed
            c.push_headers.ensures.filled,
      ),
      c.self.invariant.1 ∙ ap length (sym came),
      rw c.in_ok-make_room.ensures.stored c.self.invariant.2,
    )

pub returns-clause-ok : goal.returns-clause-ok
returns-clause-ok c =
    let inside = c.self.inside in
    let sound = c.self.invariant.0 in
    let batches = c.args.batches.now in
    let facts = c.deref.ensures.value ∙ c.in_ok-facts.ensures.value in
    let came = ap (λ (k : Coming). k.arrived) c.in_ok-make_room.ensures.stored in
    let entered = ap (λ (k : Kept). k.arrived) c.in_ok-make_room.ensures.entered in
    let room = ap (λ (k : Coming). k.spare) c.in_ok-make_room.ensures.stored ∙ facts in
    let entry_room = ap (λ (k : Kept). k.spare) c.in_ok-make_room.ensures.entered ∙ ap (filter (λ fact. is_registered fact.body)) facts in
    let pushed = rw (c.truncate.ensures.items, c.reserve.ensures.items, c.self.invariant.1) at c.push_headers.ensures.value in
    let now = roomy sound.0 (stored inside.store) inside.register inside.headers.items inside.adopted sound.1 batches (stored c.make_room.new.store)
    c.make_room.new.register
    c.push_headers.new.headers.items came entered room entry_room pushed c.push_headers.ensures.filled in
    viewed (take inside.adopted sound.0 ++ batches) (stored c.make_room.new.store) c.make_room.new.register c.push_headers.new.headers.items inside.adopted
    now inside.summaries.answered
    ∙ roomy_viewed sound.0 (stored inside.store) inside.register inside.headers.items inside.adopted sound.1 batches inside.summaries.answered
    ∙ ap (λ ns. record { adopted = take inside.adopted sound.0; spare = batches; answered = ns })
    (sym (noted_is sound.0 (stored inside.store) inside.register inside.headers.items inside.adopted sound.1 c.args.self.now c.self.view_is))
    ∙ ap (λ bs. record { adopted = bs; spare = batches; answered = c.args.self.now.answered })
    (sym (adopted_is sound.0 (stored inside.store) inside.register inside.headers.items inside.adopted sound.1 c.args.self.now c.self.view_is))
