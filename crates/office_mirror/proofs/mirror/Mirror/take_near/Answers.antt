use Rattle.office_mirror.proofs.mirror.Mirror.take_near.Goals as goal

pub returns-clause-unchanged : goal.returns-clause-unchanged
returns-clause-unchanged g c = λ start held is. absurd (c.take_batches.ensures.no_gap start held is)
