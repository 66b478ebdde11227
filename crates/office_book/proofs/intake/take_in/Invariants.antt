use Rattle.std.proofs.Common.{◌≡◌, ◌++◌, take, drop}
use Rattle.std.specs.Prelude.{IsTrue}
use Rattle.ldar_law.specs.Verdicts.{is_ruly}
use Rattle.office_book.proofs.intake.take_in.Given as goal

abbrev pub invariant-loop-batch : goal.invariant-loop-batch
invariant-loop-batch g l = record {
  adopted : l.views.adopted ≡ l.fn.views.adopted ++ take l.batch-index l.batches;
  spare : l.views.spare ≡ drop l.batch-index l.batches;
  ruly : IsTrue (is_ruly (l.fn.views.adopted ++ take l.batch-index l.batches));
}
