use Rattle.std.proofs.Common.{take}
use Rattle.std.proofs.lemmas.Result.{on_ok_weaker}
use Rattle.fact_store.specs.Naming.{named_by}
use Rattle.fact_store.proofs.ListingLemmas.{slice_behind}
use Rattle.fact_store.proofs.PartLemmas.{counted_part}
use Rattle.fact_store.proofs.index.Index.count_part.Goals as goal

pub returns : goal.returns
returns c =
    let index = c.args.self.now in
    let came = take c.args.to c.args.arrived.now in
    record {
      counted = on_ok_weaker c.add_counts.result
          (counted_part (named_by index.naming) index.listed c.args.from c.args.to c.args.arrived.now c.args.counts.now.items c.add_counts.new.counts.items
          c.requires.part c.requires.within c.requires.counted)
          (rw (c.min-first.ensures, c.max.ensures) at (rw (slice_behind c.min-first.result came) at c.add_counts.ensures.value));
    }
