use Rattle.std.proofs.lemmas.Option.{IfSome_then}
use Rattle.batch_positions.proofs.TreeLemmas.{lates_found, lates_none}
use Rattle.batch_positions.proofs.late_tree.LateTree.find.Goals as goal

pub returns-clause-found : goal.returns-clause-found
returns-clause-found c =
    rw (← c.self.view_is) (IfSome_then c.find_in.result c.find_in.ensures.found
    (λ position found. lates_found c.self.inside.nodes.items (record { identity = c.args.identity; position = position }) found.0 found.1
    (rw c.deref.ensures.value at found.2) found.3))

pub returns-clause-none : goal.returns-clause-none
returns-clause-none c = λ none.
    rw (← c.self.view_is) (lates_none c.self.inside.nodes.items c.args.identity (rw c.deref.ensures.value at (c.find_in.ensures.none none)))
