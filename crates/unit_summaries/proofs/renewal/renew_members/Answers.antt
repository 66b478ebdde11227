use Rattle.std.proofs.Common.{◌≡◌, true, take, get_or, ap, ◌∙◌, subst, arith}
use Rattle.std.specs.Prelude.{Contains}
use Rattle.std.specs.List.{AllByRecursion}
use Rattle.std.proofs.lemmas.List.{take_all}
use Rattle.std.proofs.lemmas.List.Elements.{Contains-get_or}
use Rattle.fact_store.specs.Kept.{facts_in}
use Rattle.history_laws.proofs.MemberLemmas.{members_stand_in_unit}
use Rattle.ldar_law.specs.Equipment.{members_of}
use Rattle.ldar_law.proofs.SliceLemmas.{register_facts_suffice}
use Rattle.unit_summaries.specs.Rows.{is_fresh}
use Rattle.unit_summaries.specs.Says.{Says}
use Rattle.unit_summaries.proofs.CostLemmas.{all_fits, any_default, next_fits, next_sum, pool, pool_is}
use Rattle.unit_summaries.proofs.RowLemmas.{all_next, all_weaker, renews_then}
use Rattle.unit_summaries.proofs.renewal.renew_members.Goals as goal

pub renew_member-requires-clause-member : goal.renew_member-requires-clause-member
renew_member-requires-clause-member g c =
    let facts = facts_in c.args.lists.now.store.now in
    let unit = c.args.unit in
    let members = c.members-number-items.result.now in
    let i = c.loop-number.number-index in
    let n = get_or members i 0 in
    let are : members ≡ members_of unit facts =
    c.members-number-items.ensures.value ∙ ap (members_of unit) c.requires.register ∙ (register_facts_suffice unit facts).1.members in
    let stands = members_stand_in_unit facts unit n c.requires.once
    (subst (λ ms. Contains ms n) are (Contains-get_or members i 0 c.loop-number-test.true)) in
    (stands.0, stands.1, stands.2)

pub renew_member-requires-clause-held : goal.renew_member-requires-clause-held
renew_member-requires-clause-held g c =
    let facts = facts_in c.args.lists.now.store.now in
    let members = c.members-number-items.result.now in
    let i = c.loop-number.number-index in
    let n = get_or members i 0 in
    let are : members ≡ members_of c.args.unit facts =
    c.members-number-items.ensures.value ∙ ap (members_of c.args.unit) c.requires.register ∙ (register_facts_suffice c.args.unit facts).1.members in
    subst (λ ms. Contains ms n) are (Contains-get_or members i 0 c.loop-number-test.true)

pub returns-in_err-renew_member-clause-value : goal.returns-in_err-renew_member-clause-value
returns-in_err-renew_member-clause-value g c =
    renews_then (Says (facts_in c.args.lists.now.store.now)) c.args.table.now c.loop-number.table c.renew_member.new.table
    c.loop-number.invariant.value c.renew_member.ensures.value

pub returns-in_err-renew_member-clause-counted : goal.returns-in_err-renew_member-clause-counted
returns-in_err-renew_member-clause-counted g c = λ news touch.
    let facts = facts_in c.args.lists.now.store.now in
    let unit = c.args.unit in
    let members = c.members-number-items.result.now in
    let l = c.loop-number in
    let i = l.number-index in
    let n = get_or members i 0 in
    let are : members ≡ members_of unit facts =
    c.members-number-items.ensures.value ∙ ap (members_of unit) c.requires.register ∙ (register_facts_suffice unit facts).1.members in
    let is = any_default members i 0 n c.loop-number-test.true in
    omega (
      arith,
      c.renew_member.ensures.counted (pool facts news unit c.args.table.now l.table members are i n c.loop-number-test.true is l.invariant.value.fresh touch)
          (pool_is facts news unit c.args.table.now l.table members are i n c.loop-number-test.true is l.invariant.value.fresh touch),
      l.invariant.counted news touch,
      next_fits facts news unit c.args.table.now l.table members are i n c.loop-number-test.true is l.invariant.value.fresh touch,
    )

pub loop-number-preserved : goal.loop-number-preserved
loop-number-preserved g c =
    let facts = facts_in c.args.lists.now.store.now in
    let unit = c.args.unit in
    let members = c.members-number-items.result.now in
    let l = c.loop-number in
    let i = l.number-index in
    let n = get_or members i 0 in
    let are : members ≡ members_of unit facts =
    c.members-number-items.ensures.value ∙ ap (members_of unit) c.requires.register ∙ (register_facts_suffice unit facts).1.members in
    let is = any_default members i 0 n c.loop-number-test.true in
    record {
      value = renews_then (Says facts) c.args.table.now l.table c.renew_member.new.table l.invariant.value c.renew_member.ensures.value;
      fresh = all_next (λ m. is_fresh c.renew_member.new.table m ≡ true) members i n c.loop-number-test.true is
          (all_weaker (λ m. is_fresh l.table m ≡ true) (λ m. is_fresh c.renew_member.new.table m ≡ true) c.renew_member.ensures.value.fresh
          (take i members) l.invariant.fresh)
          c.in_ok-renew_member.ensures.fresh;
      kept = c.renew_member.ensures.kept;
      ready = c.in_ok-renew_member.ensures.ready;
      counted = λ news touch.
          omega (
            arith,
            c.in_ok-renew_member.ensures.left
                (pool facts news unit c.args.table.now l.table members are i n c.loop-number-test.true is l.invariant.value.fresh touch)
                (pool_is facts news unit c.args.table.now l.table members are i n c.loop-number-test.true is l.invariant.value.fresh touch),
            l.invariant.counted news touch,
            next_sum facts news unit c.args.table.now l.table members are i n c.loop-number-test.true is l.invariant.value.fresh touch,
          );
    }

pub returns-clause-fresh : goal.returns-clause-fresh
returns-clause-fresh g c =
    let facts = facts_in c.args.lists.now.store.now in
    let unit = c.args.unit in
    let members = c.members-number-items.result.now in
    let l = c.loop-number in
    let are : members ≡ members_of unit facts =
    c.members-number-items.ensures.value ∙ ap (members_of unit) c.requires.register ∙ (register_facts_suffice unit facts).1.members in
    subst (AllByRecursion (λ n. is_fresh l.table n ≡ true)) (take_all l.number-index members (omega arith) ∙ are) l.invariant.fresh

pub returns-clause-counted : goal.returns-clause-counted
returns-clause-counted g c = λ news touch.
    let facts = facts_in c.args.lists.now.store.now in
    let unit = c.args.unit in
    let members = c.members-number-items.result.now in
    let l = c.loop-number in
    let are : members ≡ members_of unit facts =
    c.members-number-items.ensures.value ∙ ap (members_of unit) c.requires.register ∙ (register_facts_suffice unit facts).1.members in
    omega (arith, l.invariant.counted news touch, all_fits facts news unit members are l.number-index)
