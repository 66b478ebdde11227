-- Places of readings in key order, cut at one of them.
use Rattle.std.proofs.Common.{◌≡◌, ℕ, ◌+◌, ◌-◌, ◌<◌, ◌≤◌, Bool, false, ◌&&◌, ◌||◌, Option, Some, None, List, length, take, drop, slice_get, refl, sym, ap, ◌∙◌, subst, arith}
use Rattle.std.specs.Prelude.{not, option_and_then}
use Rattle.std.specs.List.{list_any}
use Rattle.std.specs.Option.{option_map_or}
use Rattle.fact_kinds.specs.Facts.{Entry}
use Rattle.fact_kinds.specs.Named.{component_of, is_numbered}
use Rattle.fact_store.specs.declared.place.Place.{Place}
use Rattle.fact_store.specs.Takes.{AreHeld}
use Rattle.touched_readings.specs.declared.windows.Window.{Window}
use Rattle.touched_readings.specs.Windows.{AreByDay, day_at, stands_in}
use Rattle.touched_readings.proofs.DayLemmas.{rest_is, each_of_front, each_of_back, back_by_day, front_by_day, any_after, any_before, any_on}
use Rattle.touched_readings.proofs.FlagLemmas.{all_gone}

-- the parts before and after a place are held, and in order
pub back_held : (count mid : ℕ) (places : List Place) → AreHeld count places → AreHeld count (take (length places - (mid + 1)) (drop (mid + 1) places))
back_held count mid places held =
    subst (AreHeld count) (sym (rest_is (mid + 1) places)) (each_of_back (λ place. place.at < count) (mid + 1) places held)

pub front_held : (count mid : ℕ) (places : List Place) → AreHeld count places → AreHeld count (take mid places)
front_held count mid places held = each_of_front (λ place. place.at < count) mid places held

module _ (arrived : List Entry) where
  pub back_in_order : (mid : ℕ) (places : List Place) → AreByDay (day_at arrived) places
      → AreByDay (day_at arrived) (take (length places - (mid + 1)) (drop (mid + 1) places))
  back_in_order mid places up =
      subst (AreByDay (day_at arrived)) (sym (rest_is (mid + 1) places)) (back_by_day (day_at arrived) (mid + 1) places up)

  pub front_in_order : (mid : ℕ) (places : List Place) → AreByDay (day_at arrived) places → AreByDay (day_at arrived) (take mid places)
  front_in_order mid places up = front_by_day (day_at arrived) mid places up

  -- the fact at the middle place is of the component
  abbrev is_of_component : ℕ → Place → Bool
  is_of_component n place = option_map_or (λ e. is_numbered (component_of e.1.body) n) (slice_get arrived place.at) false

  -- the place of the middle
  place_of : (mid : ℕ) (places : List Place) (e : Entry) → option_and_then (λ place. slice_get arrived place.at) (slice_get places mid) ≡ Some e
      → (place : Place) × (slice_get places mid ≡ Some place) × (slice_get arrived place.at ≡ Some e)
  place_of mid places e found =
      elim (slice_get places mid) as (λ o. option_and_then (λ place. slice_get arrived place.at) o ≡ Some e
      → (place : Place) × (o ≡ Some place) × (slice_get arrived place.at ≡ Some e)) [
        | None ↦ λ none. absurd cc
        | Some place ↦ λ at. (place, refl, at)
      ] found

  module _ (window : Window) (n mid : ℕ) (places : List Place) (e : Entry)
      (found : option_and_then (λ place. slice_get arrived place.at) (slice_get places mid) ≡ Some e) (up : AreByDay (day_at arrived) places) where
    of_day : (place : Place) → slice_get arrived place.at ≡ Some e → day_at arrived place ≡ e.0.day
    of_day place at = ap (λ o. option_map_or (λ x. x.0.day) o 0) at

    pub all_after : e.0.day < window.first → list_any (stands_in arrived window n) (take (length places - (mid + 1)) (drop (mid + 1) places))
        ≡ list_any (stands_in arrived window n) places
    all_after early =
        let at = place_of mid places e found in
        ap (list_any (stands_in arrived window n)) (rest_is (mid + 1) places)
        ∙ sym (any_after (day_at arrived) at.0 (is_of_component n) window.first window.last mid places at.1 up
        (omega (arith, early, of_day at.0 at.2)))

    pub all_before : window.last < e.0.day → list_any (stands_in arrived window n) (take mid places) ≡ list_any (stands_in arrived window n) places
    all_before late =
        let at = place_of mid places e found in
        sym (any_before (day_at arrived) at.0 (is_of_component n) window.first window.last mid places at.1 up (omega (arith, late, of_day at.0 at.2)))

    pub all_around : window.first ≤ e.0.day → e.0.day ≤ window.last → (old one two three : Bool) (component : Option ℕ)
        → component ≡ component_of e.1.body → one ≡ (old && not (is_numbered component n))
        → two ≡ (one && not (list_any (stands_in arrived window n) (take mid places)))
        → three ≡ (two && not (list_any (stands_in arrived window n) (take (length places - (mid + 1)) (drop (mid + 1) places))))
        → three ≡ (old && not (list_any (stands_in arrived window n) places))
    all_around low high old one two three component named first second third =
        let at = place_of mid places e found in
        let here : is_of_component n at.0 ≡ is_numbered component n =
        ap (λ o. option_map_or (λ x. is_numbered (component_of x.1.body) n) o false) at.2 ∙ ap (λ o. is_numbered o n) (sym named) in
        let all = any_on (day_at arrived) at.0 (is_of_component n) window.first window.last mid places at.1 up
        (omega (arith, low, of_day at.0 at.2)) (omega (arith, high, of_day at.0 at.2)) in
        all_gone old one two three (is_numbered component n) (list_any (stands_in arrived window n) (take mid places))
        (list_any (stands_in arrived window n) (drop (mid + 1) places)) (list_any (stands_in arrived window n) places) first second
        (third ∙ ap (λ xs. two && not (list_any (stands_in arrived window n) xs)) (rest_is (mid + 1) places))
        (all ∙ ap (λ b. list_any (stands_in arrived window n) (take mid places) || (b || list_any (stands_in arrived window n) (drop (mid + 1) places))) here)
