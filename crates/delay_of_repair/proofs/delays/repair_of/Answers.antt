use Rattle.delay_of_repair.proofs.CountedLemmas.{none_where_ignored, found_last}
use Rattle.delay_of_repair.proofs.delays.repair_of.Goals as goal

pub returns-clause-none : goal.returns-clause-none
returns-clause-none c =
    none_where_ignored c.args.detected c.args.attempts.now c.args.stops.now c.args.delays.now c.walked.result.counted c.walked.ensures.counted

pub returns-clause-found : goal.returns-clause-found
returns-clause-found c =
    found_last c.args.detected c.args.attempts.now c.args.stops.now c.args.delays.now c.walked.result.counted c.walked.ensures.counted
