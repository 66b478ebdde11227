use Rattle.std.proofs.Common.{◌++◌, sym, rules}
use Rattle.ldar_journal.specs.Image.{batches_of}
use Rattle.office_book.proofs.KeepLemmas.{said_kept, said_denied, said_full}
use Rattle.office_book.proofs.book.Book.refusal.Goals as goal

pub returns-in-Some-clause-said : goal.returns-in-Some-clause-said
returns-in-Some-clause-said g c =
    said_kept (batches_of c.args.self.now.frames ++ c.args.others.now) c.args.batch.now c.in-Some.position c.in-Some.same c.reply_kept.result
    c.in-Some.ensures.kept c.reply_kept.ensures.value

pub returns-in-Denied-clause-said : goal.returns-in-Denied-clause-said
returns-in-Denied-clause-said g c =
    said_denied (batches_of c.args.self.now.frames ++ c.args.others.now) c.args.batch.now c.in-Denied.fact c.in-Denied.rule
    (c.in_default.ensures.is_new (search rules)) (sym c.in-Denied.ensures.value)

pub returns-in-Full-clause-said : goal.returns-in-Full-clause-said
returns-in-Full-clause-said g c =
    said_full (batches_of c.args.self.now.frames ++ c.args.others.now) c.args.batch.now c.in-Full.facts
    (c.in_default.ensures.is_new (search rules)) (sym c.in-Full.ensures.value)

pub returns-in-Pass-clause-is_new : goal.returns-in-Pass-clause-is_new
returns-in-Pass-clause-is_new g c = λ none. c.in_default.ensures.is_new (search rules)

pub returns-in-Pass-clause-passes : goal.returns-in-Pass-clause-passes
returns-in-Pass-clause-passes g c = λ none. sym c.in-Pass.ensures.value
