-- The listed readings of an instrument, and the readings of windows.
use Rattle.std.proofs.Common.{◌≡◌, ℕ, zero, suc, ◌+◌, ◌<◌, ◌≤◌, Bool, false, ◌&&◌, ◌||◌, cond, nat_le, Some, List, [], ◌∷◌, length, take, drop, filter, slice_get, refl, sym, ap, ◌∙◌, subst, inl, inr, arith}
use Rattle.std.specs.Prelude.{count_by, All}
use Rattle.std.specs.List.{AllByRecursion, cons_option, list_any}
use Rattle.std.specs.Option.{option_map_or}
use Rattle.std.proofs.Common.{take-append-drop}
use Rattle.std.proofs.lemmas.Bool.{cases_Bool}
use Rattle.std.proofs.lemmas.List.Elements.{recursion_from_All}
use Rattle.std.proofs.lemmas.List.Sorted.{list_any-IsPermutation, sum_by-IsPermutation}
use Rattle.std.proofs.lemmas.List.Sums.{length-filter, sum_by-append}
use Rattle.list_words.specs.Order.{in_order, put_in_order}
use Rattle.list_words.proofs.Ascending.{in_order_permutes}
use Rattle.fact_kinds.specs.Facts.{Entry, goes_first}
use Rattle.fact_kinds.proofs.Cuts.{earlier_day}
use Rattle.ldar_law.proofs.RegisterLemmas.{day_of_later}
use Rattle.fact_kinds.specs.Named.{component_of, reading_instrument, is_numbered}
use Rattle.fact_store.specs.declared.place.Place.{Place}
use Rattle.fact_store.specs.Coming.{Coming, listed_front}
use Rattle.fact_store.specs.Kept.{ArePlacesOf, entries_at, names}
use Rattle.touched_readings.specs.declared.windows.Window.{Window}
use Rattle.touched_readings.specs.Windows.{AreByDay, day_at, is_of, is_read_in, readings_with, stands_in}

-- a test of what another test lets pass
pub any_filter : {X : Type 0} (p q : X → Bool) (xs : List X) → list_any p (filter q xs) ≡ list_any (λ x. q x && p x) xs
any_filter p q [] = refl
any_filter p q (x ∷ xs) = elim (cases_Bool (q x)) [ inl passes ↦ rw (passes, any_filter p q xs) refl | inr fails ↦ rw (fails, any_filter p q xs) refl ]

-- the fact at the place of a front
get_of_front : {X : Type 0} (n i : ℕ) (xs : List X) → i < length (take n xs) → slice_get (take n xs) i ≡ slice_get xs i
get_of_front zero i xs within = absurd (omega (arith, within))
get_of_front (suc n) i [] within = refl
get_of_front (suc n) zero (x ∷ xs) within = refl
get_of_front (suc n) (suc i) (x ∷ xs) within = get_of_front n i xs (omega (arith, within))

some_at : {X : Type 0} (i : ℕ) (xs : List X) → i < length xs → (x : X) × (slice_get xs i ≡ Some x)
some_at i [] within = absurd (omega (arith, within))
some_at zero (x ∷ xs) within = (x, refl)
some_at (suc i) (x ∷ xs) within = some_at i xs (omega (arith, within))

-- ---- facts in key order are by day

days_after : (low : ℕ) (e : Entry) (es : List Entry) → low ≤ e.0.day → AllByRecursion (λ x. low ≤ x.0.day) es
    → AllByRecursion (λ x. low ≤ x.0.day) (put_in_order goes_first e es)
days_after low e [] first all = (first, tt)
days_after low e (x ∷ es) first all =
    elim (cases_Bool (goes_first e x)) [
      | inl before ↦ rw before (first, all)
      | inr after ↦ rw after (all.0, days_after low e es first all.1)
    ]

lower_days : (low high : ℕ) (es : List Entry) → low ≤ high → AllByRecursion (λ x. high ≤ x.0.day) es → AllByRecursion (λ x. low ≤ x.0.day) es
lower_days low high [] less all = tt
lower_days low high (x ∷ es) less all = (omega (arith, less, all.0), lower_days low high es less all.1)

put_by_day : (e : Entry) (es : List Entry) → AreByDay (λ x. x.0.day) es → AreByDay (λ x. x.0.day) (put_in_order goes_first e es)
put_by_day e [] up = (tt, tt)
put_by_day e (x ∷ es) up =
    elim (cases_Bool (goes_first e x)) [
      | inl before ↦
          let low : e.0.day ≤ x.0.day = earlier_day e.0 x.0 before in
          rw before ((low, lower_days e.0.day x.0.day es low up.0), up)
      | inr after ↦
          let low : x.0.day ≤ e.0.day = day_of_later e.0 x.0 after in
          rw after (days_after x.0.day e es low up.0, put_by_day e es up.1)
    ]

pub ordered_by_day : (es : List Entry) → AreByDay (λ x. x.0.day) (in_order goes_first es)
ordered_by_day [] = tt
ordered_by_day (e ∷ es) = put_by_day e (in_order goes_first es) (ordered_by_day es)

part_days : (p : Entry → Bool) (low : ℕ) (es : List Entry) → AllByRecursion (λ x. low ≤ x.0.day) es → AllByRecursion (λ x. low ≤ x.0.day) (filter p es)
part_days p low [] all = tt
part_days p low (e ∷ es) all =
    elim (cases_Bool (p e)) [ inl passes ↦ rw passes (all.0, part_days p low es all.1) | inr fails ↦ rw fails (part_days p low es all.1) ]

part_by_day : (p : Entry → Bool) (es : List Entry) → AreByDay (λ x. x.0.day) es → AreByDay (λ x. x.0.day) (filter p es)
part_by_day p [] up = tt
part_by_day p (e ∷ es) up =
    elim (cases_Bool (p e)) [
      | inl passes ↦ rw passes (part_days p e.0.day es up.0, part_by_day p es up.1)
      | inr fails ↦ rw fails (part_by_day p es up.1)
    ]

-- ---- places of the facts of a front

module _ (coming : Coming) where
  abbrev arrived : List Entry
  arrived = coming.arrived

  abbrev listed : ℕ
  listed = coming.listed

  abbrev front : List Entry
  front = take listed arrived

  abbrev AreIn : List Place → Type 0
  AreIn places = AllByRecursion (λ place. place.at < length front) places

  each_held : (places : List Place) → All (λ place. place.at < length front) places → AreIn places
  each_held places all = recursion_from_All (λ place. place.at < length front) places all

  -- the fact at a place of the front
  fact_at : (place : Place) → place.at < length front → (e : Entry) × (slice_get front place.at ≡ Some e) × (slice_get arrived place.at ≡ Some e)
  fact_at place within =
      let found = some_at place.at front within in
      (found.0, found.1, sym (get_of_front listed place.at arrived within) ∙ found.1)

  days_at : (low : ℕ) (places : List Place) → AreIn places → AllByRecursion (λ x. low ≤ x.0.day) (entries_at front places)
      → AllByRecursion (λ place. low ≤ day_at arrived place) places
  days_at low [] held all = tt
  days_at low (place ∷ places) held all =
      let at = fact_at place held.0 in
      let these : AllByRecursion (λ x. low ≤ x.0.day) (at.0 ∷ entries_at front places) =
      subst (λ o. AllByRecursion (λ x. low ≤ x.0.day) (cons_option o (entries_at front places))) at.1 all in
      let of_day : day_at arrived place ≡ at.0.0.day = ap (λ o. option_map_or (λ x. x.0.day) o 0) at.2 in
      (omega (arith, these.0, of_day), days_at low places held.1 these.1)

  places_by_day : (places : List Place) → AreIn places → AreByDay (λ x. x.0.day) (entries_at front places) → AreByDay (day_at arrived) places
  places_by_day [] held up = tt
  places_by_day (place ∷ places) held up =
      let at = fact_at place held.0 in
      let these : AreByDay (λ x. x.0.day) (at.0 ∷ entries_at front places) =
      subst (λ o. AreByDay (λ x. x.0.day) (cons_option o (entries_at front places))) at.1 up in
      let of_day : day_at arrived place ≡ at.0.0.day = ap (λ o. option_map_or (λ x. x.0.day) o 0) at.2 in (
        subst (λ d. AllByRecursion (λ place. d ≤ day_at arrived place) places) (sym of_day) (days_at at.0.0.day places held.1 these.0),
        places_by_day places held.1 these.1,
      )

  any_at : (window : Window) (n : ℕ) (places : List Place) → AreIn places
      → list_any (stands_in arrived window n) places ≡ list_any (is_of window n) (entries_at front places)
  any_at window n [] held = refl
  any_at window n (place ∷ places) held =
      let at = fact_at place held.0 in
      let these : list_any (is_of window n) (entries_at front (place ∷ places)) ≡ (is_of window n at.0 || list_any (is_of window n) (entries_at front places)) =
      ap (λ o. list_any (is_of window n) (cons_option o (entries_at front places))) at.1 in
      let here : stands_in arrived window n place ≡ is_of window n at.0 =
      ap (λ o. option_map_or (λ e. is_numbered (component_of e.1.body) n) o false
      && (nat_le window.first (option_map_or (λ e. e.0.day) o 0) && nat_le (option_map_or (λ e. e.0.day) o 0) window.last)) at.2 in
      rw (here, any_at window n places held.1) (sym these)

  count_at : (places : List Place) → AreIn places → length places ≡ length (entries_at front places)
  count_at [] held = refl
  count_at (place ∷ places) held =
      let at = fact_at place held.0 in
      ap suc (count_at places held.1) ∙ sym (ap (λ o. length (cons_option o (entries_at front places))) at.1)

  module _ (instrument : ℕ) (places : List Place) (are : ArePlacesOf reading_instrument instrument (listed_front coming) places) where
    held : AreIn places
    held = each_held places are.held

    -- the listed readings of an instrument are by day
    pub listed_by_day : AreByDay (day_at arrived) places
    listed_by_day =
        places_by_day places held
        (subst (AreByDay (λ x. x.0.day)) (sym are.facts)
        (part_by_day (names reading_instrument instrument) (in_order goes_first front) (ordered_by_day front)))

    -- some of them is of the component and in the window, if some listed reading is
    pub any_listed : (window : Window) (n : ℕ) → window.instrument ≡ instrument
        → list_any (stands_in arrived window n) places ≡ list_any (is_read_in window n) front
    any_listed window n same =
        any_at window n places held ∙ ap (list_any (is_of window n)) are.facts
        ∙ any_filter (is_of window n) (names reading_instrument instrument) (in_order goes_first front)
        ∙ ap (λ i. list_any (λ e. is_numbered (reading_instrument e.1.body) i && is_of window n e) (in_order goes_first front)) (sym same)
        ∙ sym (list_any-IsPermutation (is_read_in window n) front (in_order goes_first front) (in_order_permutes goes_first front))

    -- there are no more than readings with the instrument
    pub few_listed : length places ≤ readings_with instrument arrived
    few_listed =
        let p = names reading_instrument instrument in
        let one : length places ≡ count_by p front =
        count_at places held ∙ ap length are.facts ∙ length-filter p (in_order goes_first front)
        ∙ sum_by-IsPermutation (λ e. cond (p e) 1 0) front (in_order goes_first front) (in_order_permutes goes_first front) in
        let two : count_by p arrived ≡ count_by p front + count_by p (drop listed arrived) =
        ap (count_by p) (sym (take-append-drop listed arrived)) ∙ sum_by-append (λ e. cond (p e) 1 0) front (drop listed arrived) in
        omega (arith, one, two)
