use Rattle.std.proofs.Common.{ap, ◌∙◌, ◌++◌, reverse, take}
use Rattle.drill_history.specs.Drill.{register_batches, drill_history, drill_sent}
use Rattle.drill_history.proofs.history.drill_batches.Goals as goal

pub returns : goal.returns
unfolding drill_history drill_sent
returns c = record {
  value =
      c.in_ok-append-2.ensures.items
      ∙ ap (λ bs. bs ++ c.in_ok-again.again.items) (c.in_ok-append.ensures.items
      ∙ ap (λ bs. bs ++ c.reverse.new.self.items) c.in_ok-batches.ensures.value
      ∙ ap (λ bs. register_batches c.args.size ++ bs) (c.reverse.ensures.items ∙ ap reverse c.in_ok-months.ensures.value))
      ∙ ap (λ bs. drill_history c.args.seed c.args.size ++ bs) (c.in_ok-again.ensures.value ∙ ap (take 1) (c.deref.ensures.value ∙ c.in_ok-months.ensures.value));
}
