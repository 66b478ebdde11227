use Rattle.std.proofs.Common.{◌≡◌, ◌-◌, ◌<◌, length, map, take, refl, sym, ◌∙◌, ap, subst, arith}
use Rattle.std.proofs.lemmas.List.{length-map, take-map}
use Rattle.batch_positions.specs.declared.late_tree.Node.{Node}
use Rattle.batch_positions.specs.LateTree.{CutsOff, IsTree}
use Rattle.batch_positions.proofs.TreeLemmas.{tree_shrinks, lates_stay, written_back, last_of}
use Rattle.batch_positions.proofs.late_tree.LateTree.pop.Goals as goal

pub invariant_of-self : goal.invariant_of-self
invariant_of-self c =
    let old = c.self.inside.nodes.items in
    let new = c.cut_last.new.nodes in
    let long : c.self.inside.nodes.len ≡ length old = sym c.deref_mut.ensures.len ∙ ap length c.deref_mut.ensures.value in
    let cuts : CutsOff (length old) old new = rw c.deref_mut.ensures.value at c.cut_last.ensures.value in
    let back = written_back new old c.self.inside.nodes.len cuts.lates.same long in
    let some : 0 < length (map (λ (node : Node). node.late) old) = rw (← c.self.view_is) at c.requires.some in
    let same = cuts.lates.same in
    let last = last_of new (omega (arith, length-map old (λ (node : Node). node.late))) in
    let front : c.pop.new.self.items ≡ take (length new - 1) new = c.pop.ensures.rest ∙ ap (take (c.self.inside.nodes.len - 1)) back
    ∙ ap (λ n. take (n - 1) new) (long ∙ sym same) in
    subst IsTree (sym front) (tree_shrinks old new (take (length new - 1) new) last.0 (length old) c.self.invariant cuts last.1 refl)

pub returns-clause-lates : goal.returns-clause-lates
returns-clause-lates c =
    let old = c.self.inside.nodes.items in
    let new = c.cut_last.new.nodes in
    let long : c.self.inside.nodes.len ≡ length old = sym c.deref_mut.ensures.len ∙ ap length c.deref_mut.ensures.value in
    let cuts : CutsOff (length old) old new = rw c.deref_mut.ensures.value at c.cut_last.ensures.value in
    let back = written_back new old c.self.inside.nodes.len cuts.lates.same long in
    let front : c.pop.new.self.items ≡ take (length old - 1) new = c.pop.ensures.rest ∙ ap (take (c.self.inside.nodes.len - 1)) back
    ∙ ap (λ n. take (n - 1) new) long in
    rw (← c.self.view_is) (ap (map (λ (node : Node). node.late)) front ∙ sym (take-map (λ (node : Node). node.late) (length old - 1) new)
    ∙ ap (take (length old - 1)) (lates_stay old new cuts.lates)
    ∙ ap (λ n. take (n - 1) (map (λ (node : Node). node.late) old)) (sym (length-map old (λ (node : Node). node.late))))
