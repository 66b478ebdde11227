use Rattle.std.proofs.Common.{List, sym, subst}
use Rattle.fact_kinds.specs.declared.batch.Batch.{Batch}
use Rattle.ldar_journal.specs.Image.{batches_of}
use Rattle.ldar_journal.specs.Shelf.{Shelf}
use Rattle.office_book.specs.Safe.{Leads, state_of}
use Rattle.office_commands.specs.declared.drill.Asked.TheVariants as asks
use Rattle.office_commands.specs.Drills.{requests_for, EndsAsks, EndsDrill}
use Rattle.office_commands.proofs.DrillLemmas.{all_settled, is_through, stop_rose}
use Rattle.office_commands.proofs.drill.drill_in.Goals as goal

-- all was answered
pub tell-requires : goal.tell-requires
tell-requires g c =
    let d = g.D.Disk in
    let asked = c.in-Done.ensures.ends in
    record {
      settled = all_settled d.content d.images d.left d.clock d.name d.faults c.args.book.now c.ask_each.new.book asked.0
          (requests_for c.in-Ok.batches.items) c.requires.settled asked.1 asked.2;
    }

pub returns-in-Done-clause-ends : goal.returns-in-Done-clause-ends
returns-in-Done-clause-ends g c =
    let d = g.D.Disk in
    let a = c.args in
    let asked = c.in-Done.ensures.ends in
    let pieces = g.K.Sink.pieces in
    let same = sym c.tell.ensures.unchanged in (
      asked.0,
      subst (λ (b : Shelf g.row.D.Denot). Leads d.content d.left d.clock d.name d.faults a.book.now asked.0 b) same asked.1,
      subst (λ (b : Shelf g.row.D.Denot). EndsDrill a.seed a.size (batches_of a.book.now.frames) c.tell.result asked.0 (state_of b)
          (pieces a.output.now) (pieces c.tell.new.output)) same
          (is_through d.content d.images d.left d.clock d.name d.faults a.seed a.size c.tell.result a.book.now c.ask_each.new.book asked.0
          (pieces a.output.now) (pieces c.tell.new.output) c.requires.size c.requires.settled asked.1
          (subst (λ (l : List Batch). EndsAsks asks.Done (requests_for l) asked.0) c.in-Ok.ensures.value asked.2) c.tell.ensures.tells),
    )

-- the disk failed
pub returns-in-Fault-clause-cause : goal.returns-in-Fault-clause-cause
returns-in-Fault-clause-cause g c =
    let d = g.D.Disk in
    let asked = c.in-Fault.ensures.ends in (
      λ is. absurd cc,
      λ is. absurd cc,
      λ is. stop_rose d.content d.images d.left d.clock d.name d.faults c.args.book.now c.ask_each.new.book asked.0
          (requests_for c.in-Ok.batches.items) asked.1 asked.2,
      λ is. absurd cc,
    )
