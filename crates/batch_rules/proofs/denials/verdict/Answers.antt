use Rattle.std.proofs.Common.{◌≡◌, ◌+◌, List, length, ap, ◌∙◌}
use Rattle.fact_kinds.specs.Stated.{Stated}
use Rattle.ldar_law.specs.Verdicts.{denial_after, first_denial, facts_with, verdict_by}
use Rattle.ldar_law.proofs.RegisterLemmas.{register_decides}
use Rattle.batch_rules.proofs.denials.verdict.Goals as goal

pub returns : goal.returns
returns c = record {
  value = λ history holds held.
      let batch = c.args.batch.now in
      let denial = c.first_denial-denial.ensures.value ∙ ap (λ facts. denial_after facts batch) holds ∙ register_decides history batch in
      let count : c.args.held + length c.as_slice.result.now ≡ facts_with history batch =
      ap (λ (fs : List Stated). c.args.held + length fs) c.as_slice.ensures.value ∙ ap (λ n. n + length batch.facts) held in
      c.verdict_found.ensures.value
      ∙ ap (λ o. verdict_by o (c.args.held + length c.as_slice.result.now)) denial
      ∙ ap (λ n. verdict_by (first_denial history batch) n) count;
}
