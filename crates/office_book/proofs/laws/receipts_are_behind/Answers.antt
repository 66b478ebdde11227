use Rattle.office_book.proofs.ReceiptLemmas.{receipts_are_behind}
use Rattle.office_book.proofs.laws.receipts_are_behind.Goals as goal

pub returns : goal.returns
returns g c = record {
  law = λ old new calls leads.
      receipts_are_behind g.D.Disk.content g.D.Disk.left g.D.Disk.clock g.D.Disk.name g.D.Disk.faults old new calls leads;
}
