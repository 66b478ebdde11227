use Rattle.std.proofs.Common.{◌≡◌, [], ◌∷◌, List, inl, refl, subst, rules}
use Rattle.std.proofs.lemmas.List.{append-nil}
use Rattle.fact_kinds.specs.declared.batch.Batch.{Batch}
use Rattle.ldar_journal.specs.Image.{batches_of}
use Rattle.ldar_law.specs.declared.verdict.Verdict.TheVariants.{Pass}
use Rattle.ldar_law.specs.Machine.{IsNew}
use Rattle.ldar_law.specs.Verdicts.{verdict_on}
use Rattle.office_book.specs.Grouped.{IsSaid}
use Rattle.office_book.specs.Serving.{certain}
use Rattle.office_book.proofs.KeepLemmas.{adds_it, serves_said}
use Rattle.office_book.proofs.book.Book.unwritten.Goals as goal

pub returns-in-Some-clause-serves : goal.returns-in-Some-clause-serves
returns-in-Some-clause-serves g c =
    let history = batches_of c.args.self.now.frames in
    let said = subst (λ (l : List Batch). IsSaid l c.args.batch.now c.in-Some.reply) (append-nil history) c.in-Some.ensures.said in
    serves_said _ history c.args.batch.now c.in-Some.reply (certain history) said.answers refl

pub returns-in-Some-clause-ruled : goal.returns-in-Some-clause-ruled
returns-in-Some-clause-ruled g c = c.in-Some.ensures.said.ruled

pub returns-in-None-clause-serves : goal.returns-in-None-clause-serves
returns-in-None-clause-serves g c =
    let history = batches_of c.args.self.now.frames in
    let batch = c.args.batch.now in
    let new = subst (λ (l : List Batch). IsNew l batch) (append-nil history) (c.in-None.ensures.is_new (search rules)) in
    let passes = subst (λ (l : List Batch). verdict_on l batch ≡ Pass) (append-nil history) (c.in-None.ensures.passes (search rules)) in
    (inl (batch, adds_it history batch new passes), refl)
