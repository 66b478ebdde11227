use Rattle.std.proofs.Common.{Option, Some, None, List, [], refl, subst}
use Rattle.std.proofs.lemmas.List.{append-nil}
use Rattle.fact_kinds.specs.declared.batch.Batch.{Batch}
use Rattle.office_mirror.specs.declared.head.AnswerHead.{AnswerHead}
use Rattle.office_mirror.specs.AnswerGrammar.{BeginsAnswer}
use Rattle.office_mirror.specs.Reader.{AreSoFar, read_so_far}
use Rattle.office_mirror.proofs.AnswerLemmas.{nothing_begins}
use Rattle.office_mirror.proofs.PieceLemmas.{head_begins, piece_begins}
use Rattle.office_mirror.proofs.HeadLemmas.{none_begin}
use Rattle.office_mirror.proofs.reader.AnswerReader.begins.Goals as goal

-- what was read of an answer begins one
begins_so_far : (head : Option AnswerHead) (bs : List Batch) → AreSoFar head bs → BeginsAnswer (read_so_far head bs)
begins_so_far None bs are = head_begins [] (none_begin [] refl).1
begins_so_far (Some head) bs are =
    let ranges = are.0 in
    subst BeginsAnswer (append-nil (read_so_far (Some head) bs))
    (piece_begins head bs ranges.1.0.1 ranges.1.1.0.1 are.2 are.1 [] nothing_begins)

pub returns : goal.returns
returns c = record {
  law = subst BeginsAnswer c.self.view_is (begins_so_far c.self.inside.head c.self.inside.batches.items c.self.invariant.0);
}
