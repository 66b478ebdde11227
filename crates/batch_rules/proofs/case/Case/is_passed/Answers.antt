use Rattle.std.proofs.Common.{◌≡◌, true, false, sym, ap, ◌∙◌, subst}
use Rattle.std.specs.List.{list_any}
use Rattle.ldar_law.specs.Judged.{Case}
use Rattle.batch_rules.specs.Cases.{case_at}
use Rattle.batch_rules.specs.Passed.{is_reached, is_of}
use Rattle.batch_rules.proofs.PassedLemmas.{passed_where}
use Rattle.batch_rules.proofs.case.Case.is_passed.Goals as goal

pub returns : goal.returns
returns c =
    let inside = c.self.inside in
    let case = case_at inside.fact.now inside.index inside.known inside.whole in
    record {
      passed = λ has.
          let day = c.day.ensures.value ∙ ap (λ (k : Case). k.entry.0.day) (sym c.self.view_is) in
          let found : list_any (is_of c.args.unit case.entry.0.day) inside.passed.now ≡ true =
          sym (c.has.ensures.value ∙ ap (λ d. list_any (is_of c.args.unit d) inside.passed.now) day) ∙ has in
          subst (λ (k : Case). is_reached k c.args.unit ≡ false) c.self.view_is (passed_where case c.args.unit inside.passed.now c.self.invariant.passed found);
    }
