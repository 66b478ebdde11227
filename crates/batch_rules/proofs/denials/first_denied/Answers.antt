use Rattle.std.proofs.Common.{◌≡◌, ℕ, ◌+◌, ◌≤◌, true, max, cond, None, Some, List, length, take, get_or, sym, ap, ◌∙◌, subst, arith}
use Rattle.fact_kinds.specs.Stated.{Stated}
use Rattle.fact_store.specs.Kept.{facts_in}
use Rattle.ldar_law.specs.Slices.{is_registered}
use Rattle.batch_rules.specs.Among.{are_up_to, entered_or_0}
use Rattle.batch_rules.specs.Known.{batch_of, register_at, register_by}
use Rattle.batch_rules.specs.Passed.{ArePassed, with_asked}
use Rattle.batch_rules.proofs.DenialLemmas.{denied_here, passed_here, denial_past, nothing_else}
use Rattle.batch_rules.proofs.KnownLemmas.{up_to_one_more}
use Rattle.batch_rules.proofs.PassedLemmas.{passed_with, length-with_asked}
use Rattle.batch_rules.proofs.ShareSteps.{reach_stays, reach_within}
use Rattle.batch_rules.proofs.denials.first_denied.Goals as goal

pub returns-in-Some : goal.returns-in-Some
returns-in-Some c =
    let whole = c.args.whole in
    let i = c.loop-index.index in
    let fact = get_or whole.front.now i c.index-whole-index.result in
    let is = ap (get_or whole.front.now i) c.index-whole-index.is in
    let some : c.judged-rule.result.0 ≡ Some c.in-Some.rule = c.in-Some.is in
    record {
      value = sym (c.loop-index.invariant.so_far
          ∙ denied_here (facts_in whole.register.now) (batch_of whole) i fact c.loop-index-test.true is
          c.in-Some.rule (sym c.judged-rule.ensures.rule ∙ some));
    }

pub loop-index-preserved : goal.loop-index-preserved
loop-index-preserved c =
    let whole = c.args.whole in
    let i = c.loop-index.index in
    let fact = get_or whole.front.now i c.index-whole-index.result in
    let is = ap (get_or whole.front.now i) c.index-whole-index.is in
    let before = c.loop-index.reach in
    let none : c.judged-rule.result.0 ≡ None = nothing_else c.judged-rule.result.0 c.in_default.not-Some in
    let entered : is_registered c.fact.inside.body ≡ is_registered fact.body = ap (λ s. is_registered s.body) c.fact.view_is in
    let added = c.add.ensures.value ∙ ap (λ (s : Stated). with_asked c.judged-rule.result.1 s.day c.loop-index.passed) c.fact.view_is in
    let reach = c.after-reach.ensures.count ∙ ap (λ b. cond b (i + 1) before.count) entered in
    let greatest = c.after-reach.ensures.greatest ∙ ap (λ (s : Stated). max before.greatest (entered_or_0 s.body)) c.fact.view_is in
    record {
      so_far = c.loop-index.invariant.so_far
          ∙ passed_here (facts_in whole.register.now) (batch_of whole) i fact c.loop-index-test.true is
          (sym c.judged-rule.ensures.rule ∙ none);
      within = subst (λ n. n ≤ i + 1) (sym reach) (reach_within (is_registered fact.body) i before.count c.loop-index.invariant.within);
      passed = subst (ArePassed (register_at whole)) (sym added)
          (passed_with (register_at whole) c.judged-rule.result.1 fact.day c.loop-index.passed c.loop-index.invariant.passed
          (c.judged-rule.ensures.passed none));
      few = subst (λ (xs : List (ℕ × ℕ)). length xs ≤ i + 1) (sym added)
          (omega (arith, length-with_asked c.judged-rule.result.1 fact.day c.loop-index.passed, c.loop-index.invariant.few));
      known = ap (register_by whole) reach
          ∙ reach_stays 0 0 whole i fact c.loop-index-test.true is before.count c.loop-index.invariant.known;
      up_to = subst (λ n. are_up_to (Some n) (take (i + 1) whole.front.now) ≡ true) (sym greatest)
          (up_to_one_more before.greatest whole.front.now i fact c.loop-index-test.true is c.loop-index.invariant.up_to);
    }

pub returns : goal.returns
returns c =
    let whole = c.args.whole in
    record {
      value = sym (c.loop-index.invariant.so_far
          ∙ denial_past (facts_in whole.register.now) (batch_of whole) c.loop-index.index c.loop-index-test.false);
    }
