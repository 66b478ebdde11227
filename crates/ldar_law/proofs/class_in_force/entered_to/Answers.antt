use Rattle.std.proofs.Common.{sym, subst, nat_le}
use Rattle.list_words.specs.Order.{Ascends}
use Rattle.list_words.proofs.PutLemmas.{ascends_filter}
use Rattle.fact_kinds.specs.Facts.{is_earlier}
use Rattle.fact_kinds.proofs.KeyOrder.{strict_earlier}
use Rattle.ldar_law.proofs.KeyFronts.{front_filtered}
use Rattle.ldar_law.proofs.class_in_force.entered_to.Goals as goal

pub returns : goal.returns
returns c =
    let a = c.args in
    let count = c.entered_by in
    let front = front_filtered (λ e. nat_le e.0.day a.day) a.classes.now count.result count.ensures.within count.ensures.value in
    record {
      value = front;
      ordered = subst (Ascends (λ a b. is_earlier a.0 b.0)) (sym front)
          (ascends_filter (λ a b. is_earlier a.0 b.0) (strict_earlier (λ e. e.0)) (λ e. nat_le e.0.day a.day) a.classes.now c.requires.ordered);
    }
