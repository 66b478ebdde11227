use Rattle.std.proofs.Common.{◌≡◌, map, get_or, sym, ap, ◌∙◌, subst, arith}
use Rattle.std.proofs.lemmas.List.{take_all}
use Rattle.fact_store.specs.Kept.{facts_in}
use Rattle.history_laws.specs.DayLaws.{up_to}
use Rattle.history_laws.proofs.RegisterUpTo.{components_are_of_all_members}
use Rattle.history_laws.proofs.UpTo.{ascending_are_in_order}
use Rattle.ldar_law.specs.Equipment.{members_of}
use Rattle.ldar_law.proofs.SliceLemmas.{register_facts_suffice}
use Rattle.unit_summaries.specs.Known.{AreInOrder, IsInOrder, known_by}
use Rattle.unit_summaries.proofs.CostLemmas.{any_default}
use Rattle.unit_summaries.proofs.ListLemmas.{all_pushed}
use Rattle.unit_summaries.proofs.MemberLemmas.{known_among, known_more, member_said}
use Rattle.unit_summaries.proofs.members.known_members.Goals as goal

pub member_on-requires-clause-said : goal.member_on-requires-clause-said
member_on-requires-clause-said c =
    let facts = facts_in c.args.store.now in
    let unit = c.args.unit in
    let numbers = c.members-number-items.result.now in
    let same : numbers ≡ members_of unit facts =
    c.members-number-items.ensures.value ∙ ap (members_of unit) c.requires.register ∙ (register_facts_suffice unit facts).1.members in
    member_said facts _ _ unit c.args.summaries.now c.requires.sound c.requires.renewed numbers same c.loop-number.number-index 0 c.loop-number-test.true

pub loop-number-preserved : goal.loop-number-preserved
loop-number-preserved c =
    let facts = up_to c.args.day (facts_in c.args.store.now) in
    let numbers = c.members-number-items.result.now in
    let i = c.loop-number.number-index in
    let n = get_or numbers i 0 in
    record {
      value = ap (map (known_by facts)) c.in_ok-add.ensures.put
          ∙ known_more facts numbers i n c.member_on.result c.loop-number.known.items c.loop-number-test.true
          (any_default numbers i 0 n c.loop-number-test.true) c.member_on.ensures.value c.loop-number.invariant.value;
      ordered = subst AreInOrder (sym c.in_ok-add.ensures.put)
          (all_pushed IsInOrder c.loop-number.known.items c.member_on.result c.loop-number.invariant.ordered c.member_on.ensures.ordered);
    }

pub returns : goal.returns
returns c =
    let facts = facts_in c.args.store.now in
    let unit = c.args.unit in
    let numbers = c.members-number-items.result.now in
    let same : numbers ≡ members_of unit facts =
    c.members-number-items.ensures.value ∙ ap (members_of unit) c.requires.register ∙ (register_facts_suffice unit facts).1.members in
    record {
      value = c.loop-number.invariant.value
          ∙ ap (known_among (up_to c.args.day facts)) (take_all c.loop-number.number-index numbers (omega arith) ∙ same)
          ∙ sym (components_are_of_all_members c.args.day unit facts (ascending_are_in_order facts c.requires.ordered) c.requires.once);
      ordered = c.loop-number.invariant.ordered;
    }
