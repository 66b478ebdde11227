use Rattle.std.proofs.Common.{◌≡◌, ◌∙◌, ap, subst, rules}
use Rattle.ldar_journal.specs.Image.{batches_of}
use Rattle.ldar_law.specs.Machine.{IsNew}
use Rattle.office_book.specs.Archive.{IsKeptAt}
use Rattle.office_book.proofs.AmongLemmas.{standing_more, kept_among, new_among}
use Rattle.office_book.proofs.book.Book.kept_at.Goals as goal

pub returns-in-Some-clause-kept : goal.returns-in-Some-clause-kept
returns-in-Some-clause-kept g c =
    let history = batches_of c.args.self.now.frames in
    let same : c.self.inside.archive.adopted ≡ history = c.self.invariant.adopted ∙ ap (λ s. batches_of s.frames) c.self.view_is in
    let kept = c.in-Some.kept in
    standing_more history c.args.others.now c.args.batch.now kept.0 kept.1
    (subst (λ l. IsKeptAt l c.args.batch.now kept.0 kept.1) same c.in-Some.ensures.kept)

pub returns-in-None-clause-kept : goal.returns-in-None-clause-kept
returns-in-None-clause-kept g c =
    let history = batches_of c.args.self.now.frames in
    let same : c.self.inside.archive.adopted ≡ history = c.self.invariant.adopted ∙ ap (λ s. batches_of s.frames) c.self.view_is in
    kept_among history c.args.others.now c.args.batch.now c.args.next c.among.result
    (subst (λ l. IsNew l c.args.batch.now) same (c.in-None.ensures.is_new (search rules))) c.requires.next c.among.ensures.found

pub returns-in-None-clause-is_new : goal.returns-in-None-clause-is_new
returns-in-None-clause-is_new g c =
    let history = batches_of c.args.self.now.frames in
    let same : c.self.inside.archive.adopted ≡ history = c.self.invariant.adopted ∙ ap (λ s. batches_of s.frames) c.self.view_is in
    new_among history c.args.others.now c.args.batch.now c.args.next c.among.result
    (subst (λ l. IsNew l c.args.batch.now) same (c.in-None.ensures.is_new (search rules))) c.requires.next c.among.ensures.none
