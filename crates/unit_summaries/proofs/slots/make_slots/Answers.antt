use Rattle.std.proofs.Common.{◌∙◌}
use Rattle.unit_summaries.proofs.RowLemmas.{slot_push}
use Rattle.unit_summaries.proofs.slots.make_slots.Goals as goal

pub loop-slots-preserved : goal.loop-slots-preserved
loop-slots-preserved g c = λ n. rw c.in_ok-push.ensures.items (slot_push c.loop-slots.slots.items n ∙ c.loop-slots.invariant n)
