use Rattle.std.proofs.Common.{append_assoc, rules}
use Rattle.ldar_law.specs.Texts.{delayed_line}
use Rattle.view_texts.proofs.delays.put_delay.Goals as goal

pub returns : goal.returns
unfolding delayed_line
returns c = search (rules, append_assoc)
