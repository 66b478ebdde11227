use Rattle.std.proofs.Common.{append_assoc, rules}
use Rattle.ldar_law.specs.Texts.{route_line}
use Rattle.view_texts.proofs.routes.put_route.Goals as goal

pub returns : goal.returns
unfolding route_line
returns c = search (rules, append_assoc)
