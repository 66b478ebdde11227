use Rattle.std.proofs.Common.{◌≡◌, ◌≤◌, true, Some, length, take}
use Rattle.fact_store.specs.Kept.{facts_in}
use Rattle.ldar_law.specs.Verdicts.{denial_after}
use Rattle.batch_rules.specs.Known.{batch_of, register_at, register_by}
use Rattle.batch_rules.specs.Passed.{ArePassed}
use Rattle.batch_rules.specs.Among.{are_up_to}
use Rattle.batch_rules.proofs.DenialLemmas.{denial_from}
use Rattle.batch_rules.proofs.denials.first_denied.Given as goal

abbrev pub invariant-loop-index : goal.invariant-loop-index
invariant-loop-index l = record {
  so_far : denial_after (facts_in l.whole.register.now) (batch_of l.whole) ≡ denial_from (facts_in l.whole.register.now) (batch_of l.whole) l.index;
  within : l.reach.count ≤ l.index;
  passed : ArePassed (register_at l.whole) l.passed;
  few : length l.passed ≤ l.index;
  known : register_by l.whole l.reach.count ≡ register_by l.whole l.index;
  up_to : are_up_to (Some l.reach.greatest) (take l.index l.whole.front.now) ≡ true;
}
