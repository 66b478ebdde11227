use Rattle.std.proofs.Common.{◌≡◌, ◌+◌, ◌++◌, take, drop, map}
use Rattle.fact_kinds.specs.Identity.{identity_of}
use Rattle.office_book.proofs.archive.adopt_all.Given as goal

abbrev pub invariant-loop-batch : goal.invariant-loop-batch
invariant-loop-batch g l = record {
  adopted : l.views.adopted ≡ l.fn.views.adopted ++ take l.batch-index l.batches;
  spare : l.views.spare ≡ drop l.batch-index l.fn.views.spare;
  known : l.positions.identities ≡ map identity_of l.views.adopted;
  room : l.positions.room + l.batch-index ≡ l.fn.positions.room;
}
