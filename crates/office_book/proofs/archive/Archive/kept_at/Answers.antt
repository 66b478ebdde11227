use Rattle.std.proofs.Common.{sym, ◌∙◌, ap, subst}
use Rattle.batch_positions.specs.Positions.{position_in}
use Rattle.ldar_law.specs.Machine.{IsNew}
use Rattle.office_views.specs.Held.{Held}
use Rattle.office_book.proofs.HistoryLemmas.{standing_kept, standing_new}
use Rattle.office_book.proofs.archive.Archive.kept_at.Goals as goal

pub returns-in-Some-clause-kept : goal.returns-in-Some-clause-kept
returns-in-Some-clause-kept c =
    let known = c.self.inside.positions.identities in
    rw (← c.self.view_is) (standing_kept c.self.inside.views.adopted known c.args.batch.now c.in-Some.position c.is_kept_at-same.result c.self.invariant.known
    (ap (λ i. position_in i known) (sym c.identity.ensures.value) ∙ sym c.in-Some.ensures.value) c.is_kept_at-same.ensures.value)

pub returns-in-None-clause-is_new : goal.returns-in-None-clause-is_new
returns-in-None-clause-is_new c = λ none.
    let known = c.self.inside.positions.identities in
    subst (λ (h : Held). IsNew h.adopted c.args.batch.now) c.self.view_is
    (standing_new c.self.inside.views.adopted known c.args.batch.now c.self.invariant.known
    (ap (λ i. position_in i known) (sym c.identity.ensures.value) ∙ sym c.in-None.ensures.value))
