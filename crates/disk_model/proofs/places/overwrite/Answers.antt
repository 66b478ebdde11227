use Rattle.std.proofs.Common.{tests, rules}
use Rattle.disk_model.proofs.Overwrite.{filled_holds, filled_written}
use Rattle.disk_model.proofs.places.overwrite.Goals as goal

pub returns-clause-value : goal.returns-clause-value
returns-clause-value c = filled_written _ c.in-Some.end _ _ _ _ (search (tests, rules)) c.in-Some.ensures.1 c.in_ok-reach.ensures.value c.put_in.ensures.value

pub returns-clause-holds : goal.returns-clause-holds
returns-clause-holds c = filled_holds _ c.in-Some.end _ _ _ _ (search (tests, rules)) c.in-Some.ensures.1 c.in_ok-reach.ensures.value c.put_in.ensures.value
