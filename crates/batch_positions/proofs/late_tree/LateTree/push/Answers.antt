use Rattle.std.proofs.Common.{◌≡◌, ◌+◌, List, [], ◌∷◌, ◌++◌, length, map, sym, ◌∙◌, ap, subst}
use Rattle.std.proofs.lemmas.List.{map-append}
use Rattle.batch_positions.specs.declared.late_tree.Node.{Node}
use Rattle.batch_positions.specs.LateTree.{Hangs, path_of, IsTree}
use Rattle.batch_positions.proofs.TreeLemmas.{tree_grows, lates_stay, written_back}
use Rattle.batch_positions.proofs.late_tree.LateTree.push.Goals as goal

pub invariant_of-self : goal.invariant_of-self
invariant_of-self c =
    let old = c.self.inside.nodes.items in
    let new = c.hang.new.nodes in
    let long : c.self.inside.nodes.len ≡ length old = sym c.deref_mut.ensures.len ∙ ap length c.deref_mut.ensures.value in
    let hangs : Hangs (length old + 1) (path_of c.args.late.identity) old new =
    rw (c.len.ensures, long, c.path_of.ensures.value, c.deref_mut.ensures.value) at c.hang.ensures.value in
    let items = c.push_reserved.ensures.items ∙ ap (λ (l : List Node). l ++ record { late = c.args.late; low = 0; high = 0 } ∷ [])
    (written_back new old c.self.inside.nodes.len hangs.lates.same long) in
    subst IsTree (sym items) (tree_grows old new (record { late = c.args.late; low = 0; high = 0 }) c.self.invariant hangs)

pub returns-clause-lates : goal.returns-clause-lates
returns-clause-lates c =
    let old = c.self.inside.nodes.items in
    let new = c.hang.new.nodes in
    let long : c.self.inside.nodes.len ≡ length old = sym c.deref_mut.ensures.len ∙ ap length c.deref_mut.ensures.value in
    let hangs : Hangs (length old + 1) (path_of c.args.late.identity) old new =
    rw (c.len.ensures, long, c.path_of.ensures.value, c.deref_mut.ensures.value) at c.hang.ensures.value in
    let items = c.push_reserved.ensures.items ∙ ap (λ (l : List Node). l ++ record { late = c.args.late; low = 0; high = 0 } ∷ [])
    (written_back new old c.self.inside.nodes.len hangs.lates.same long) in
    rw (← c.self.view_is) (ap (map (λ (node : Node). node.late)) items
    ∙ map-append (λ (node : Node). node.late) new (record { late = c.args.late; low = 0; high = 0 } ∷ [])
    ∙ ap (λ l. l ++ c.args.late ∷ []) (lates_stay old new hangs.lates))
