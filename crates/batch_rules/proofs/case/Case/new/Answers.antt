use Rattle.batch_rules.specs.Cases.{kind_and_class_asked}
use Rattle.batch_rules.proofs.case.Case.new.Goals as goal

pub invariant_of-result : goal.invariant_of-result
unfolding kind_and_class_asked
invariant_of-result c = record {
  few = c.requires.few;
  whole_few = c.requires.whole_few;
  asked = c.asked-asked.ensures.value;
  passed = c.requires.passed;
}
