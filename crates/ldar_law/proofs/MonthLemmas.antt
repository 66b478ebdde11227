use Rattle.std.proofs.Common.{◌≡◌, ℕ, Bool, true, ◌&&◌, nat_le, List, refl, sym, subst}
use Rattle.std.specs.List.{list_any}
use Rattle.std.proofs.lemmas.Bool.{leb-true, le-leb, eqb-true}
use Rattle.ldar_days.specs.Calendar.{month_of}
use Rattle.ldar_days.specs.Quarters.{first_quarter}
use Rattle.ldar_law.specs.declared.event.Event.{Event}
use Rattle.ldar_law.specs.Happenings.{is_routine_below, is_in_month}
use Rattle.ldar_law.specs.Months.{is_clean, is_clean_twice, is_clean_twice_from, begins_quarterly, is_quarterly}
use Rattle.ldar_law.specs.MonthLaws.{CleanTwiceFromDecides, QuarterlyDecides}
use Rattle.ldar_law.proofs.TestLemmas.{both, list_any_implied, passing}

-- a clean month has an event, so what holds of the month holds of the month of some event
of_some_event : (events : List Event) (holds : ℕ → Bool) (k : ℕ) → is_clean events k ≡ true → holds k ≡ true →
    list_any (λ e. holds (month_of e.key.day)) events ≡ true
unfolding is_clean
of_some_event events holds k clean held =
    list_any_implied (λ e. is_routine_below e.what && is_in_month k e) (λ e. holds (month_of e.key.day))
    (λ e passes. subst (λ m. holds m ≡ true) (sym (eqb-true (month_of e.key.day) k (both passes).1)) held)
    events
    (both clean).0

pub clean_twice_from_decides : CleanTwiceFromDecides
unfolding is_clean_twice_from
clean_twice_from_decides events first = (
  λ e.
      let some = passing (λ x. nat_le first (month_of x.key.day) && is_clean_twice events (month_of x.key.day)) events e in
      let parts = both some.1 in
      let clean = both parts.1 in
      (month_of some.0.key.day, leb-true first (month_of some.0.key.day) parts.0, clean.0, clean.1),
  λ there.
      of_some_event events (λ m. nat_le first m && is_clean_twice events m) there.0 there.2
      (rw (le-leb first there.0 there.1, there.2, there.3) refl),
)

pub quarterly_decides : QuarterlyDecides
unfolding is_quarterly
quarterly_decides startup events month = (
  λ e.
      let parts = both e in
      let some = passing (λ x. begins_quarterly startup events month (month_of x.key.day)) events parts.1 in
      (leb-true (first_quarter startup) month parts.0, (month_of some.0.key.day, some.1)),
  λ there.
      let clean = both (both (both there.1.1).0).1 in
      rw (le-leb (first_quarter startup) month there.0)
      (of_some_event events (begins_quarterly startup events month) there.1.0 clean.0 there.1.1),
)
