use Rattle.std.proofs.Common.{◌≡◌, sym, ap, ◌∙◌, subst}
use Rattle.list_words.specs.Order.{Ascends}
use Rattle.fact_store.specs.Kept.{facts_in}
use Rattle.ldar_law.specs.Equipment as law
use Rattle.ldar_law.specs.Force as force
use Rattle.ldar_law.specs.RegisterLaws.{class_first}
use Rattle.component_register.proofs.HoldLemmas.{classes_ascend}
use Rattle.component_register.proofs.register.Register.class_entry.Goals as goal

pub last_entered-requires : goal.last_entered-requires
last_entered-requires c =
    let inside = c.self.inside in
    record {
      ordered = subst (Ascends class_first) (sym c.list_of.ensures.value)
          (classes_ascend inside.store inside.slots.items inside.units.items inside.classes.items inside.rosters.items c.self.invariant c.args.component);
    }

pub returns : goal.returns
returns c =
    let inside = c.self.inside in
    record {
      value = subst (λ kept. c.last_entered.result ≡ force.class_by c.args.day (law.classes_of c.args.component (facts_in kept))) c.self.view_is
          (c.last_entered.ensures.value ∙ ap (force.class_by c.args.day) c.list_of.ensures.value
          ∙ (c.self.invariant.holds.listed c.args.component).in_force c.args.day);
    }
