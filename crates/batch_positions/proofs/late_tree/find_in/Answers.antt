use Rattle.std.proofs.Common.{sym}
use Rattle.batch_positions.proofs.TreeLemmas.{at_position-within, way_on, ended, nowhere, elsewhere, differs_by}
use Rattle.batch_positions.proofs.late_tree.find_in.Goals as goal

pub returns-in-None-clause-none : goal.returns-in-None-clause-none
returns-in-None-clause-none c = λ none at node here same.
    let other = differs_by c.in-Some.node.late.identity c.args.identity c.eq.result c.eq.ensures c.if-eq.false in
    let within = at_position-within c.args.nodes.now at node here in
    ended c.args.nodes.now at c.loop-node.path c.loop-node.place (c.in-None.ensures.none none) within.1
    (elsewhere c.args.nodes.now at c.loop-node.place node c.in-Some.node c.args.identity here same (sym c.in-Some.ensures.value) other)
    (c.loop-node.invariant at node here same)

pub loop-node-preserved : goal.loop-node-preserved
loop-node-preserved c = λ at node here same.
    let other = differs_by c.in-Some.node.late.identity c.args.identity c.eq.result c.eq.ensures c.if-eq.false in
    way_on c.args.nodes.now at c.loop-node.path c.loop-node.place c.in-Some-child_at.child c.in-Some-child_at.ensures.found
    (elsewhere c.args.nodes.now at c.loop-node.place node c.in-Some.node c.args.identity here same (sym c.in-Some.ensures.value) other)
    (c.loop-node.invariant at node here same)

pub returns-clause-none : goal.returns-clause-none
returns-clause-none c = λ none at node here same.
    nowhere c.args.nodes.now at c.loop-node.path c.loop-node.place node (sym c.in_default.ensures.value) here (c.loop-node.invariant at node here same)
