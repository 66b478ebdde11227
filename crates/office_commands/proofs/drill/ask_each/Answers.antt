use Rattle.std.proofs.Common.{ℕ, List, [], ◌∷◌, ◌++◌, length, take, sym, ◌∙◌, ap, subst}
use Rattle.std.proofs.Math.Seq.{take-length}
use Rattle.std.proofs.lemmas.Iterator.Adapters.{YieldsList-from_vec}
use Rattle.std.proofs.lemmas.Iterator.Consumers.{YieldsList-turn, YieldsList-end}
use Rattle.std.proofs.lemmas.List.{length_push}
use Rattle.fact_kinds.specs.declared.batch.Batch.{Batch}
use Rattle.office_book.specs.SafeLaws.{leads_stays, leads_joins}
use Rattle.office_commands.specs.declared.drill.Asked.TheVariants as asks
use Rattle.office_commands.specs.Drills.{requests_for, EndsAsks}
use Rattle.office_commands.proofs.DrillLemmas.{none_asked, goes_on, stops_at}
use Rattle.office_commands.proofs.drill.ask_each.Goals as goal

-- at first nothing is asked
pub loop-batch-init : goal.loop-batch-init
loop-batch-init g c = let d = g.D.Disk in ([], leads_stays d.content d.left d.clock d.name d.faults c.args.book.now, none_asked)

-- one more is answered
pub loop-batch-preserved : goal.loop-batch-preserved
loop-batch-preserved g c =
    let d = g.D.Disk in
    let turn = YieldsList-turn (YieldsList-from_vec c.args.batches.items (cc) (cc)) c.loop-batch.yielded _ c.loop-batch.yielded_by _ c.next.new.self
    c.in-Some.batch c.in-Some.is c.next.ensures.steps in
    let so_far = c.loop-batch.invariant in
    let asked = c.in-Done.ensures.ends in (
      so_far.0 ++ asked.0,
      leads_joins d.content d.left d.clock d.name d.faults c.args.book.now c.loop-batch.book c.ask_pair.new.book so_far.0 asked.0 so_far.1 asked.1,
      subst (λ (n : ℕ). EndsAsks asks.Done (requests_for (take n c.args.batches.items)) (so_far.0 ++ asked.0))
          (sym (length_push c.loop-batch.yielded c.in-Some.batch))
          (goes_on c.args.batches.items (length c.loop-batch.yielded) c.in-Some.batch so_far.0 asked.0 turn.0 turn.1 so_far.2 asked.2),
    )

-- one is not
pub returns-in_default : goal.returns-in_default
returns-in_default g c =
    let d = g.D.Disk in
    let turn = YieldsList-turn (YieldsList-from_vec c.args.batches.items (cc) (cc)) c.loop-batch.yielded _ c.loop-batch.yielded_by _ c.next.new.self
    c.in-Some.batch c.in-Some.is c.next.ensures.steps in
    let so_far = c.loop-batch.invariant in
    let asked = c.ask_pair.ensures.ends in
    record {
      ends = (
        so_far.0 ++ asked.0,
        leads_joins d.content d.left d.clock d.name d.faults c.args.book.now c.loop-batch.book c.ask_pair.new.book so_far.0 asked.0 so_far.1 asked.1,
        stops_at c.ask_pair.result c.args.batches.items (length c.loop-batch.yielded) c.in-Some.batch so_far.0 asked.0 turn.0 turn.1
            c.in_default.not-Done so_far.2 asked.2,
      );
    }

-- each is
pub returns : goal.returns
returns g c =
    let batches = c.args.batches.items in
    let end = YieldsList-end (YieldsList-from_vec batches (cc) (cc)) c.loop-batch.yielded _ c.loop-batch.yielded_by _ c.next.new.self c.in-None.is c.next.ensures.steps in
    let so_far = c.loop-batch.invariant in
    record {
      ends = (
        so_far.0,
        so_far.1,
        subst (λ (l : List Batch). EndsAsks asks.Done (requests_for l) so_far.0) (ap (λ (n : ℕ). take n batches) end.1 ∙ take-length batches) so_far.2,
      );
    }
