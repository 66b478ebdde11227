use Rattle.std.proofs.Common.{◌<◌, length, ◌≡◌, false, nat_le, Some, drop, slice_get, sym, ap, subst}
use Rattle.std.specs.List.{filter_map}
use Rattle.list_words.specs.Order.{Ascends}
use Rattle.fact_store.specs.Kept.{facts_in, is_held}
use Rattle.fact_store.specs.Naming.{HasRoomFor}
use Rattle.fact_store.proofs.CountLemmas.{room_for_first}
use Rattle.fact_store.proofs.KeepLemmas.{first_of}
use Rattle.ldar_law.specs.Equipment.{member_entered}
use Rattle.ldar_law.proofs.EnteredLemmas.{rises_in_order}
use Rattle.component_register.specs.Classes.{class_named}
use Rattle.component_register.specs.Members.{unit_joined}
use Rattle.component_register.specs.Once.{IsFirstOfNumber}
use Rattle.component_register.proofs.HoldLemmas.{sound_more}
use Rattle.component_register.proofs.register.Register.insert.Goals as goal

pub put_class-requires-clause-roomy : goal.put_class-requires-clause-roomy
put_class-requires-clause-roomy c =
    let inside = c.self.inside in
    let next = subst (λ kept. slice_get kept.spare 0 ≡ Some c.args.fact) (sym c.self.view_is) c.requires.roomy in
    let stated = ap (λ s. s.body) c.fact.view_is in
    λ n named. room_for_first class_named c.args.fact (drop 1 inside.store.spare) inside.classes.items
    (subst (λ fs. HasRoomFor class_named fs inside.classes.items) (first_of inside.store.spare c.args.fact next) c.self.invariant.class_room) n
    (rw stated at named)

pub put_class-requires-clause-ordered : goal.put_class-requires-clause-ordered
put_class-requires-clause-ordered c = λ n. (c.self.invariant.holds.listed n).days

pub put_member-requires-clause-roomy : goal.put_member-requires-clause-roomy
put_member-requires-clause-roomy c =
    let inside = c.self.inside in
    let next = subst (λ kept. slice_get kept.spare 0 ≡ Some c.args.fact) (sym c.self.view_is) c.requires.roomy in
    let stated = ap (λ s. s.body) c.fact.view_is in
    λ n named. room_for_first unit_joined c.args.fact (drop 1 inside.store.spare) inside.rosters.items
    (subst (λ fs. HasRoomFor unit_joined fs inside.rosters.items) (first_of inside.store.spare c.args.fact next) c.self.invariant.member_room) n
    (rw stated at named)

pub put_member-requires-clause-ordered : goal.put_member-requires-clause-ordered
put_member-requires-clause-ordered c =
    λ n. subst (Ascends nat_le) (sym (c.self.invariant.holds.members n))
    (rises_in_order (filter_map (λ e. member_entered n e.1.body) (facts_in c.self.inside.store)))

pub invariant_of-self : goal.invariant_of-self
invariant_of-self c =
    let inside = c.self.inside in
    let fact = c.args.fact in
    let next = subst (λ kept. slice_get kept.spare 0 ≡ Some fact) (sym c.self.view_is) c.requires.roomy in
    let new_key = subst (λ kept. is_held c.args.key kept.arrived ≡ false) (sym c.self.view_is) c.requires.new_key in
    let first = subst (λ kept. IsFirstOfNumber fact.body (facts_in kept)) (sym c.self.view_is) c.requires.first in
    let few = subst (λ kept. length kept.arrived < 8_000_000) (sym c.self.view_is) c.requires.few in
    rw c.insert.ensures.value
    (sound_more inside.store c.args.key fact c.fact.inside.body (ap (λ s. s.body) c.fact.view_is) next new_key first few
    inside.slots.items c.enter.new.slots.items inside.units.items c.enter_unit.new.units.items inside.classes.items c.put_class.new.classes.items
    inside.rosters.items c.put_member.new.rosters.items c.self.invariant c.enter.ensures.value c.enter_unit.ensures.value c.put_class.ensures
    c.put_member.ensures)
