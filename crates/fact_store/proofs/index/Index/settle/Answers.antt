use Rattle.std.proofs.Common.{[], refl}
use Rattle.fact_store.specs.Naming.{named_by}
use Rattle.fact_store.proofs.ListingLemmas.{can_sort, front_ascends, keeps_listed}
use Rattle.fact_store.proofs.PartLemmas.{all_roomy, all_turned}
use Rattle.fact_store.proofs.index.Index.settle.Goals as goal

pub settle_lists-requires-clause-sortable : goal.settle_lists-requires-clause-sortable
settle_lists-requires-clause-sortable c =
    let index = c.args.self.now in
    let arrived = c.args.arrived.now in
    can_sort (named_by index.naming) index.listed arrived c.requires.apart index.lists.items (all_turned index.naming arrived [] index c.requires.turned)

pub settle_lists-requires-clause-fronts : goal.settle_lists-requires-clause-fronts
settle_lists-requires-clause-fronts c =
    let index = c.args.self.now in
    let arrived = c.args.arrived.now in
    front_ascends (named_by index.naming) index.listed arrived c.requires.apart index.lists.items (all_turned index.naming arrived [] index c.requires.turned)
    c.args.counts.now c.requires.counted

pub returns : goal.returns
returns c =
    let index = c.args.self.now in
    let arrived = c.args.arrived.now in
    record {
      value = λ naming spare keeps. record {
        by = keeps.by;
        all = refl;
        lists = keeps_listed (named_by naming) index.listed arrived c.requires.apart index.lists.items (all_turned naming arrived spare index keeps) spare
            c.settle_lists.new.lists.items (all_roomy naming arrived spare index keeps) c.settle_lists.ensures.value c.settle_lists.ensures.room;
      };
    }
