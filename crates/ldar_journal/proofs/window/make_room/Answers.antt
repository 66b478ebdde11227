use Rattle.ldar_journal.proofs.WindowLemmas.{moved_to_front}
use Rattle.ldar_journal.proofs.window.make_room.Goals as goal

pub returns-clause-value : goal.returns-clause-value
returns-clause-value c = moved_to_front _ _ c.args.start c.args.end c.requires.ordered c.requires.in_range c.copy_within.ensures.items
