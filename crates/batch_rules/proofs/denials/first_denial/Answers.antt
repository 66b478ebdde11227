use Rattle.std.proofs.Common.{List, ap, ◌∙◌}
use Rattle.fact_kinds.specs.declared.batch.Batch.{Batch}
use Rattle.fact_kinds.specs.Stated.{Stated}
use Rattle.fact_store.specs.Kept.{facts_in}
use Rattle.ldar_law.specs.Verdicts.{denial_after}
use Rattle.batch_rules.proofs.denials.first_denial.Goals as goal

pub returns : goal.returns
returns c =
    let batch = c.args.batch.now in
    let with_facts : List Stated → Batch = λ fs. record { handheld = batch.handheld; number = batch.number; facts = fs } in
    record {
      value = c.first_denied.ensures.value
          ∙ ap (λ fs. denial_after (facts_in c.args.register.now) (with_facts fs)) c.as_slice.ensures.value;
    }
