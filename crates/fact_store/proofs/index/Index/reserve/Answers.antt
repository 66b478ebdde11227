use Rattle.std.proofs.Common.{◌∙◌}
use Rattle.std.proofs.lemmas.Result.{on_ok_weaker}
use Rattle.fact_store.specs.Naming.{named_by}
use Rattle.fact_store.proofs.CountLemmas.{room_for_named}
use Rattle.fact_store.proofs.index.Index.reserve.Goals as goal

pub returns-clause-roomy : goal.returns-clause-roomy
returns-clause-roomy c =
    on_ok_weaker c.make_rooms.result
    (room_for_named (named_by c.args.self.now.naming) c.args.facts.now c.deref.result.now c.make_rooms.new.lists.items
    (c.deref.ensures.value ∙ c.in_ok-numbers.ensures.value))
    c.make_rooms.ensures.roomy
