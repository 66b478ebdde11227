use Rattle.std.proofs.Common.{[]}
use Rattle.ldar_ports.proofs.TakesLemmas.{takes_none}
use Rattle.office_commands.proofs.import.text_of.Goals as goal

-- no room for the window
pub returns-in_default-clause-taken : goal.returns-in_default-clause-taken
returns-in_default-clause-taken g c = ([], takes_none (g.S.Source.left c.args.input.now), tt, tt)

-- a call of the input failed
pub returns-in-Err-clause-taken : goal.returns-in-Err-clause-taken
returns-in-Err-clause-taken g c = let taken = c.fill_from.ensures.taken in (taken.0, taken.1, tt, tt)
