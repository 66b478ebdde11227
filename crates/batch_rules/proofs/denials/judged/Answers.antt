use Rattle.std.proofs.Common.{sym, ap, ◌∙◌, subst}
use Rattle.std.specs.Prelude.{IfSome}
use Rattle.ldar_law.specs.Judged.{Case}
use Rattle.ldar_law.specs.Verdicts.{least_rule}
use Rattle.batch_rules.specs.Passed.{IsPassed}
use Rattle.batch_rules.proofs.DenialLemmas.{case_is}
use Rattle.batch_rules.proofs.KnownLemmas.{up_to_fewer}
use Rattle.batch_rules.proofs.PassedLemmas.{passes_share}
use Rattle.batch_rules.proofs.denials.judged.Goals as goal

pub up_to-known-requires-clause-up_to : goal.up_to-known-requires-clause-up_to
up_to-known-requires-clause-up_to c =
    up_to_fewer c.args.reach.greatest c.args.reach.count c.args.index c.args.whole.now.front.now c.requires.within c.requires.up_to

pub newly_asked-requires : goal.newly_asked-requires
newly_asked-requires c = record { passes = passes_share c.new-case.result (sym c.least_rule.ensures.value ∙ c.in-None.is) }

pub returns-in-Some : goal.returns-in-Some
returns-in-Some c =
    let case = c.new-case.ensures.value
    ∙ case_is c.args.fact.now c.args.index c.up_to-known.result c.args.whole.now (c.up_to-known.ensures.value ∙ c.requires.known) in
    record { rule = sym c.in-Some.is ∙ c.least_rule.ensures.value ∙ ap least_rule case; passed = λ none. tt }

pub returns-in-None : goal.returns-in-None
returns-in-None c =
    let case = c.new-case.ensures.value
    ∙ case_is c.args.fact.now c.args.index c.up_to-known.result c.args.whole.now (c.up_to-known.ensures.value ∙ c.requires.known) in
    record {
      rule = sym c.in-None.is ∙ c.least_rule.ensures.value ∙ ap least_rule case;
      passed = λ none. subst (λ (k : Case). IfSome c.newly_asked.result (λ unit. IsPassed k.whole (unit, k.entry.0.day)))
          c.new-case.ensures.value c.newly_asked.ensures.passed;
    }
