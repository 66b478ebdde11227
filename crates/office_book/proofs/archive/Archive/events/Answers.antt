use Rattle.std.proofs.Common.{Option, sym, subst}
use Rattle.std.proofs.lemmas.Result.{IfOk-weaker}
use Rattle.ldar_law.specs.declared.history.History.{History}
use Rattle.office_book.proofs.EventOrder.{IsInKeyOrder, history_in_order}
use Rattle.office_book.proofs.archive.Archive.events.Goals as goal

pub returns-clause-ordered : goal.returns-clause-ordered
returns-clause-ordered c =
    IfOk-weaker c.events_of_views.result _ _
    (λ history is. subst (λ (o : Option History). IsInKeyOrder o) (sym is)
    (history_in_order c.args.component c.args.day c.self.inside.views.adopted c.self.invariant.kept.differ))
    c.events_of_views.ensures.value
