-- The lists of one pump are in order.
use Rattle.std.proofs.Common.{◌≡◌, ℕ, Bool, List, refl, sym, ap, ◌∙◌, subst}
use Rattle.std.specs.List.{filter_map}
use Rattle.list_words.specs.Order.{Ascends}
use Rattle.fact_kinds.specs.Facts.{is_earlier}
use Rattle.ldar_law.specs.declared.equipment.Equipment.{Equipment}
use Rattle.ldar_law.specs.declared.event.Event.{Event}
use Rattle.pump_seals.specs.declared.moment.Moment.{Moment}
use Rattle.pump_seals.specs.declared.pump.Pump.{Pump}
use Rattle.pump_seals.specs.declared.row.Mark.{Mark}
use Rattle.pump_seals.specs.declared.sign.Sign.{Sign}
use Rattle.pump_seals.specs.Moments.{MomentsRise, is_before, mark_before}
use Rattle.pump_seals.specs.Pumps.{IsReady}
use Rattle.pump_seals.specs.Seals.{is_on_duty, on_duty, tags_of_sort}
use Rattle.pump_seals.specs.Signs.{moments_of, switches_of, present_if, gone_if}
use Rattle.pump_seals.proofs.MomentLemmas.{moments_rise, switches_rise, failures_rise, ends_rise}
use Rattle.pump_seals.proofs.RisingLists.{rise_filter}

-- the moments of events of a kind are in order
pub signs_rise : (pump : Pump) → IsReady pump → (sign : Sign) (moments : List Moment) → moments ≡ moments_of sign pump.events.now → MomentsRise is_before moments
signs_rise pump ready sign moments is = subst (MomentsRise is_before) (sym is) (moments_rise sign pump.events.now ready.events)

-- the moments on days on which the pump is sealed and in service are in order
pub duty_rise : (item : Equipment) (switches : List Mark) (signs leaks : List Moment) → leaks ≡ on_duty item switches signs → MomentsRise is_before signs
    → MomentsRise is_before leaks
duty_rise item switches signs leaks is rise =
    subst (MomentsRise is_before) (sym is) (rise_filter is_before (λ m. is_on_duty item switches m.day) signs rise)

-- the marks that seal or unseal the pump are in order
pub switched_rise : (pump : Pump) → IsReady pump → MomentsRise mark_before pump.switches.now
switched_rise pump ready = subst (MomentsRise mark_before) (sym ready.switches) (switches_rise pump.marks.now ready.marks)

-- the moments of the sensor's failures are in order, and so are those of their ends
pub failing_rise : (pump : Pump) → IsReady pump → (moments : List Moment) → moments ≡ filter_map present_if pump.marks.now → MomentsRise is_before moments
failing_rise pump ready moments is = subst (MomentsRise is_before) (sym is) (failures_rise pump.marks.now ready.marks)

pub ending_rise : (pump : Pump) → IsReady pump → (moments : List Moment) → moments ≡ filter_map gone_if pump.marks.now → MomentsRise is_before moments
ending_rise pump ready moments is = subst (MomentsRise is_before) (sym is) (ends_rise pump.marks.now ready.marks)

-- the leaks, by the marks that seal or unseal the pump
pub leaks_are : (pump : Pump) → IsReady pump → (signs leaks found : List Moment) → leaks ≡ on_duty pump.item.now pump.switches.now signs → signs ≡ found
    → leaks ≡ on_duty pump.item.now (switches_of pump.marks.now) found
leaks_are pump ready signs leaks found is of =
    is ∙ ap (λ s. on_duty pump.item.now s signs) ready.switches ∙ ap (λ ms. on_duty pump.item.now (switches_of pump.marks.now) ms) of

-- the tags of equal lists
pub same_tags : (sort : ℕ) (by_attempt : Bool) (leaks attempts mends leaks' attempts' mends' : List Moment) (day : ℕ)
    → leaks ≡ leaks' → attempts ≡ attempts' → mends ≡ mends'
    → tags_of_sort sort by_attempt leaks attempts mends day ≡ tags_of_sort sort by_attempt leaks' attempts' mends' day
same_tags sort by_attempt leaks attempts mends leaks' attempts' mends' day a b c =
    ap (λ ls. tags_of_sort sort by_attempt ls attempts mends day) a
    ∙ ap (λ ls. tags_of_sort sort by_attempt leaks' ls mends day) b
    ∙ ap (λ ls. tags_of_sort sort by_attempt leaks' attempts' ls day) c
