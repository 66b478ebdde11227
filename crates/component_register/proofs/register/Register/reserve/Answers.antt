use Rattle.std.proofs.Common.{ap, ◌∙◌, subst}
use Rattle.std.specs.List.{filter_map}
use Rattle.fact_kinds.specs.Named.{component_of, unit_of}
use Rattle.fact_store.proofs.CountLemmas.{room_for_named}
use Rattle.component_register.specs.Classes.{class_named}
use Rattle.component_register.specs.Members.{unit_joined}
use Rattle.component_register.specs.Slots.{HaveRows}
use Rattle.component_register.proofs.HoldLemmas.{sound_slots, sound_units, sound_classes, sound_rosters, sound_spare}
use Rattle.component_register.proofs.register.Register.reserve.Goals as goal

pub invariant_of-self : goal.invariant_of-self
invariant_of-self c =
    let inside = c.self.inside in
    let slots = c.make_slots.new.slots.items in
    let first = sound_slots inside.store inside.slots.items inside.units.items inside.classes.items inside.rosters.items c.self.invariant slots
    c.make_slots.ensures.adds in
    first

pub invariant_of-self-in_err-make_units : goal.invariant_of-self-in_err-make_units
invariant_of-self-in_err-make_units c =
    let inside = c.self.inside in
    let slots = c.make_slots.new.slots.items in
    let first = sound_slots inside.store inside.slots.items inside.units.items inside.classes.items inside.rosters.items c.self.invariant slots
    c.make_slots.ensures.adds in
    let units = c.make_units.new.units.items in
    let second = sound_units inside.store slots inside.units.items inside.classes.items inside.rosters.items first units c.make_units.ensures.adds in
    second

pub invariant_of-self-in_err-make_rooms : goal.invariant_of-self-in_err-make_rooms
invariant_of-self-in_err-make_rooms c =
    let inside = c.self.inside in
    let slots = c.make_slots.new.slots.items in
    let first = sound_slots inside.store inside.slots.items inside.units.items inside.classes.items inside.rosters.items c.self.invariant slots
    c.make_slots.ensures.adds in
    let units = c.make_units.new.units.items in
    let second = sound_units inside.store slots inside.units.items inside.classes.items inside.rosters.items first units c.make_units.ensures.adds in
    let classes = c.make_rooms.new.lists.items in
    let third = sound_classes inside.store slots units inside.classes.items inside.rosters.items second classes c.make_rooms.ensures.grows in
    third

pub invariant_of-self-in_err-make_rooms-2 : goal.invariant_of-self-in_err-make_rooms-2
invariant_of-self-in_err-make_rooms-2 c =
    let inside = c.self.inside in
    let slots = c.make_slots.new.slots.items in
    let first = sound_slots inside.store inside.slots.items inside.units.items inside.classes.items inside.rosters.items c.self.invariant slots
    c.make_slots.ensures.adds in
    let units = c.make_units.new.units.items in
    let second = sound_units inside.store slots inside.units.items inside.classes.items inside.rosters.items first units c.make_units.ensures.adds in
    let classes = c.make_rooms.new.lists.items in
    let third = sound_classes inside.store slots units inside.classes.items inside.rosters.items second classes c.make_rooms.ensures.grows in
    let rosters = c.make_rooms-2.new.lists.items in
    let fourth = sound_rosters inside.store slots units classes inside.rosters.items third rosters c.make_rooms-2.ensures.grows in
    fourth

pub invariant_of-self-in_err-reserve : goal.invariant_of-self-in_err-reserve
invariant_of-self-in_err-reserve c =
    let inside = c.self.inside in
    let slots = c.make_slots.new.slots.items in
    let first = sound_slots inside.store inside.slots.items inside.units.items inside.classes.items inside.rosters.items c.self.invariant slots
    c.make_slots.ensures.adds in
    let units = c.make_units.new.units.items in
    let second = sound_units inside.store slots inside.units.items inside.classes.items inside.rosters.items first units c.make_units.ensures.adds in
    let classes = c.make_rooms.new.lists.items in
    let third = sound_classes inside.store slots units inside.classes.items inside.rosters.items second classes c.make_rooms.ensures.grows in
    let rosters = c.make_rooms-2.new.lists.items in
    let fourth = sound_rosters inside.store slots units classes inside.rosters.items third rosters c.make_rooms-2.ensures.grows in
    rw c.in_err-reserve.ensures.unchanged fourth

pub invariant_of-self-2 : goal.invariant_of-self-2
invariant_of-self-2 c =
    let inside = c.self.inside in
    let slots = c.make_slots.new.slots.items in
    let first = sound_slots inside.store inside.slots.items inside.units.items inside.classes.items inside.rosters.items c.self.invariant slots
    c.make_slots.ensures.adds in
    let units = c.make_units.new.units.items in
    let second = sound_units inside.store slots inside.units.items inside.classes.items inside.rosters.items first units c.make_units.ensures.adds in
    let classes = c.make_rooms.new.lists.items in
    let third = sound_classes inside.store slots units inside.classes.items inside.rosters.items second classes c.make_rooms.ensures.grows in
    let rosters = c.make_rooms-2.new.lists.items in
    let fourth = sound_rosters inside.store slots units classes inside.rosters.items third rosters c.make_rooms-2.ensures.grows in
    let entries = c.in_ok-entries.entries.items in
    let reclassed = c.deref-5.ensures.value ∙ c.in_ok-reclassed.ensures.value ∙ ap (filter_map (λ fact. class_named fact.body)) c.deref.ensures.value in
    let joined = c.deref-6.ensures.value ∙ c.in_ok-joined.ensures.value ∙ ap (filter_map (λ fact. unit_joined fact.body)) c.deref-2.ensures.value in
    rw (c.in_ok-reserve.ensures.ok, c.deref-7.ensures.value)
    (sound_spare inside.store slots units classes rosters fourth entries
    (subst (λ fs. HaveRows component_of fs slots) c.deref-3.ensures.value c.in_ok-make_slots.ensures.roomy)
    (subst (λ fs. HaveRows unit_of fs units) c.deref-4.ensures.value c.in_ok-make_units.ensures.roomy)
    (room_for_named class_named entries c.deref-5.result.now classes reclassed c.in_ok-make_rooms.ensures.roomy)
    (room_for_named unit_joined entries c.deref-6.result.now rosters joined c.in_ok-make_rooms-2.ensures.roomy))
