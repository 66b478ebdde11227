use Rattle.std.proofs.Common.{sym, subst, arith}
use Rattle.list_words.specs.Order.{Ascends}
use Rattle.fact_kinds.specs.Facts.{is_earlier}
use Rattle.ldar_law.specs.Equipment.{class_at, classes_of}
use Rattle.unit_summaries.proofs.ListLemmas.{given_done}
use Rattle.unit_summaries.proofs.ReadLemmas.{classes_in_order}
use Rattle.unit_summaries.proofs.entries.classes_of.Goals as goal

pub returns-clause-ordered : goal.returns-clause-ordered
returns-clause-ordered c =
    let a = c.args in
    let facts = a.facts.now in
    let made = given_done (class_at a.number) c.loop-e.classes.items (classes_of a.number facts) facts c.loop-e.e-index (omega arith) c.loop-e.invariant in
    subst (Ascends (λ a b. is_earlier a.0 b.0)) (sym made) (classes_in_order a.number facts c.requires.ordered)
