use Rattle.std.proofs.Common.{sym, subst, arith}
use Rattle.list_words.specs.Order.{Ascends}
use Rattle.fact_kinds.specs.Facts.{is_earlier}
use Rattle.ldar_law.specs.Equipment.{election_entered, elections_of}
use Rattle.unit_summaries.proofs.ListLemmas.{given_done}
use Rattle.unit_summaries.proofs.ReadLemmas.{elections_in_order}
use Rattle.unit_summaries.proofs.entries.elections_of.Goals as goal

pub returns-clause-ordered : goal.returns-clause-ordered
returns-clause-ordered c =
    let a = c.args in
    let facts = a.facts.now in
    let made = given_done (λ e. election_entered a.number e.0 e.1.body) c.loop-e.elections.items (elections_of a.number facts) facts c.loop-e.e-index
    (omega arith) c.loop-e.invariant in
    subst (Ascends (λ a b. is_earlier a.key b.key)) (sym made) (elections_in_order a.number facts c.requires.ordered)
