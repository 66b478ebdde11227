use Rattle.std.proofs.Common.{append_assoc, rules}
use Rattle.office_commands.proofs.drill.batches_lines.Goals as goal

pub returns : goal.returns
returns c = simp append_assoc (search rules)
