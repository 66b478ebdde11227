use Rattle.std.proofs.Common.{◌≡◌, ◌+◌, List, [], ◌∷◌, ◌++◌, length, sym, ◌∙◌, ap, subst, arith, length-append, rules}
use Rattle.fact_kinds.specs.declared.batch.Batch.{Batch}
use Rattle.ldar_journal.specs.Image.{batches_of}
use Rattle.ldar_law.specs.declared.reply.Reply.TheVariants as replies
use Rattle.ldar_law.specs.declared.verdict.Verdict.TheVariants.{Pass}
use Rattle.ldar_law.specs.Machine.{IsNew}
use Rattle.ldar_law.specs.Verdicts.{verdict_on}
use Rattle.office_book.specs.Grouped.{IsTold, IsSaid}
use Rattle.office_book.proofs.GroupLemmas.{told_said, told_added}
use Rattle.office_book.proofs.book.Book.told.Goals as goal

pub returns-in-Some : goal.returns-in-Some
returns-in-Some g c =
    let history = batches_of c.args.self.now.frames in
    let others = c.args.others.now.items in
    record {
      told = told_said history c.args.batch.now others c.in-Some.reply c.requires.may_come
          (subst (λ (l : List Batch). IsSaid (history ++ l) c.args.batch.now c.in-Some.reply) c.deref.ensures.value c.in-Some.ensures.said);
    }

pub returns : goal.returns
returns g c =
    let history = batches_of c.args.self.now.frames in
    let others = c.args.others.now.items in
    let batch = c.args.batch.now in
    let position = c.args.next + c.len.result in
    let same = c.deref.ensures.value in
    let more : c.push.new.self.items ≡ others ++ batch ∷ [] = c.in_ok-push.ensures.items ∙ ap (λ (b : Batch). others ++ b ∷ []) c.in_ok-copy_of.ensures.value in
    let place : position ≡ length (history ++ others) + 1 =
    omega (arith, length-append history others, c.args.others.now.ok.0, c.len.ensures, c.requires.next) in
    record {
      told = subst (λ (l : List Batch). IsTold history batch others l (replies.Receipt batch.handheld batch.number position)) (sym more)
          (told_added history batch others position c.requires.may_come
          (subst (λ (l : List Batch). IsNew (history ++ l) batch) same (c.in_default.ensures.is_new (search rules)))
          (subst (λ (l : List Batch). verdict_on (history ++ l) batch ≡ Pass) same (c.in_default.ensures.passes (search rules))) place);
    }
