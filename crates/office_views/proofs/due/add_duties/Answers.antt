use Rattle.office_views.proofs.due.add_duties.Goals as goal

pub duties_of-requires-clause-ordered : goal.duties_of-requires-clause-ordered
duties_of-requires-clause-ordered c = (c.requires.ordered.classes, c.requires.ordered.events)
