use Rattle.std.proofs.Common.{◌≡◌, ap, subst, ◌∙◌}
use Rattle.ldar_journal.specs.Image.{batches_of}
use Rattle.ldar_law.specs.Shown.{shown}
use Rattle.office_views.specs.Answers.{IsShown}
use Rattle.office_book.proofs.book.Book.shown.Goals as goal

pub returns-clause-value : goal.returns-clause-value
returns-clause-value g c =
    let adopted = c.self.invariant.adopted ∙ ap (λ s. batches_of s.frames) c.self.view_is in
    subst (λ l. IsShown c.show.result (shown l c.args.request.now)) adopted c.show.ensures.value
