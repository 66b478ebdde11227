use Rattle.std.proofs.Common.{◌≡◌, ◌≤◌, length, sym, ◌∙◌, subst}
use Rattle.component_register.proofs.HoldLemmas.{members_few}
use Rattle.component_register.proofs.register.Register.members.Goals as goal

pub returns-clause-few : goal.returns-clause-few
returns-clause-few c =
    let inside = c.self.inside in
    let number : c.from.result ≡ c.args.unit = cc in
    let here = rw number at c.list_of.ensures.value in
    subst (λ members. length members ≤ 8_000_000) (sym (here ∙ c.self.invariant.holds.members c.args.unit))
    (members_few inside.store inside.slots.items inside.units.items inside.classes.items inside.rosters.items c.self.invariant c.args.unit)
