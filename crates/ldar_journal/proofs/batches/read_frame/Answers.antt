use Rattle.std.proofs.Common.{◌≡◌, Ok, List, ◌++◌, sym, ◌∙◌, ap}
use Rattle.fact_kinds.specs.declared.batch.Batch.{Batch}
use Rattle.ldar_journal.specs.Image.{batches_of}
use Rattle.ldar_journal.proofs.Histories.{batches_of-push}
use Rattle.ldar_journal.proofs.batches.read_frame.Goals as goal

pub returns-clause-read : goal.returns-clause-read
returns-clause-read g c =
    let old = c.args.opening.now.frames in
    let batches = c.next_frame.new.batches.items in
    let frames = (c.in_ok-next_frame.ensures.frame (ap Ok c.if-not-branch.false)).0 in
    c.in_ok-append.ensures.items ∙ ap (λ (l : List Batch). l ++ batches) c.requires.read ∙ sym (ap batches_of frames ∙ batches_of-push old batches)
