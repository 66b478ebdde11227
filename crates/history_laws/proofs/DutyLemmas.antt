use Rattle.std.proofs.Common.{◌≡◌, ℕ, ◌+◌, ◌*◌, ◌≤◌, Bool, Option, List, [], ◌∷◌, ◌++◌, refl, arith}
use Rattle.std.specs.Prelude.{min}
use Rattle.std.specs.List.{AllByRecursion, filter_map}
use Rattle.ldar_days.specs.Calendar.{last_day, end_by, week_last}
use Rattle.list_words.specs.Words.{each_from, each_where}
use Rattle.list_words.proofs.Members.{all_weaker}
use Rattle.fact_kinds.specs.declared.class.Class.{Class}
use Rattle.fact_kinds.specs.declared.key.Key.{Key}
use Rattle.ldar_law.specs.declared.duty.Duty.{Duty}
use Rattle.ldar_law.specs.declared.equipment.Equipment.{Equipment}
use Rattle.ldar_law.specs.declared.event.Event.{Event}
use Rattle.ldar_law.specs.Duties.{first_due, first_monitoring, monthly, quarterly, yearly, planned, weekly, drip, release, evidence}
use Rattle.ldar_law.specs.Duties.{months_after, years_after, window_ends, weeks_after, duties_of, is_first_owed}
use Rattle.ldar_law.specs.Percent.{judging_day, mark_of}
use Rattle.history_laws.specs.DayLaws.{item_on, StandsAlike}
use Rattle.history_laws.specs.DutyLaws.{DutiesForgetLaterRegister, MarksForgetLaterRegister}
use Rattle.history_laws.proofs.EventsUpTo.{early}
use Rattle.history_laws.proofs.RegisterUpTo.{standing_forgets_later_days}
use Rattle.history_laws.proofs.KnownLemmas.{all_of_each, given_alike}

-- functions that agree on each element in its place give the same list
each_alike : {X Y : Type 0} (f g : List X → X → List X → Option Y) (front xs : List X)
    → AllByRecursion (λ x. (before after : List X) → f before x after ≡ g before x after) xs → each_from f front xs ≡ each_from g front xs
each_alike f g front [] all = refl
each_alike f g front (x ∷ xs) all = rw (all.0 front xs, each_alike f g (front ++ x ∷ []) xs all.1) refl

-- the minimum of two days is at most the second
least_within : (a t : ℕ) → min a t ≤ t
least_within a t = omega arith

module _ (t : ℕ) (item : Equipment) (classes : List (Key × Class)) (startup : ℕ) (events : List Event) where
  -- the component has the same class and service on a day
  stands : (day : ℕ) → day ≤ t → StandsAlike t day item classes
  stands day within = standing_forgets_later_days t day item classes within

  module _ (begun : item.begin ≤ t) where
    -- a first monitoring is owed by both or by neither
    first_owed_alike : (day : ℕ) → day ≤ t → is_first_owed (item_on t item) (early t classes) startup day ≡ is_first_owed item classes startup day
    first_owed_alike day within =
        let s = stands day within in
        let b = stands item.begin begun in
        rw (s.class, s.service, b.class) refl

    module _ (skipped : List Bool) where
      -- 1 first
      first_alike : first_monitoring (item_on t item) (early t classes) startup events skipped t ≡ first_monitoring item classes startup events skipped t
      unfolding first_monitoring
      first_alike = rw (first_owed_alike (min (first_due item) t) (least_within (first_due item) t)) refl

      -- 2 monthly
      monthly_alike : (month : ℕ)
          → monthly (item_on t item) (early t classes) startup events skipped t month ≡ monthly item classes startup events skipped t month
      unfolding monthly
      monthly_alike month = let s = stands (min (last_day month) t) (least_within (last_day month) t) in rw (s.class, s.service) refl

      -- 3 quarterly
      quarterly_alike : (month : ℕ)
          → quarterly (item_on t item) (early t classes) startup events skipped t month ≡ quarterly item classes startup events skipped t month
      unfolding quarterly
      quarterly_alike month = let s = stands (min (last_day month) t) (least_within (last_day month) t) in rw (s.class, s.service) refl

      -- 4 yearly
      yearly_alike : (year : ℕ) → yearly (item_on t item) (early t classes) startup events skipped t year ≡ yearly item classes startup events skipped t year
      unfolding yearly
      yearly_alike year =
          let s = stands (min (last_day (12 * year + 11)) t) (least_within (last_day (12 * year + 11)) t) in rw (s.class, s.service) refl

      -- 5 plan
      planned_alike : (month : ℕ)
          → planned (item_on t item) (early t classes) startup events skipped t month ≡ planned item classes startup events skipped t month
      unfolding planned
      planned_alike month =
          let s = stands (min (end_by (last_day month)) t) (least_within (end_by (last_day month)) t) in rw (s.class, s.service) refl

      -- 6 weekly
      weekly_alike : (week : ℕ) → weekly (item_on t item) (early t classes) startup events skipped t week ≡ weekly item classes startup events skipped t week
      unfolding weekly
      weekly_alike week = let s = stands (min (week_last week) t) (least_within (week_last week) t) in rw (s.class, s.service) refl

      -- 7 drip
      drip_alike : (e : Event) → e.key.day ≤ t → (before after : List Event)
          → drip (item_on t item) (early t classes) startup events skipped t before e after ≡ drip item classes startup events skipped t before e after
      unfolding drip
      drip_alike e within before after = let s = stands e.key.day within in rw (s.class, s.service) refl

      -- 8 release
      release_alike : (e : Event) → e.key.day ≤ t → (before after : List Event)
          → release (item_on t item) (early t classes) startup events skipped t before e after ≡ release item classes startup events skipped t before e after
      unfolding release
      release_alike e within before after = let s = stands e.key.day within in rw (s.class, s.service) refl

      -- 9 evidence
      evidence_alike : (e : Event) → e.key.day ≤ t → (before after : List Event)
          → evidence (item_on t item) (early t classes) startup events skipped t before e after ≡ evidence item classes startup events skipped t before e after
      unfolding evidence
      evidence_alike e within before after = let s = stands e.key.day within in rw (s.class, s.service) refl

      -- the duties of periods are the same
      periods_alike : (f g : ℕ → Option Duty) → ((n : ℕ) → f n ≡ g n) → (ns : List ℕ) → filter_map f ns ≡ filter_map g ns
      periods_alike f g same ns = given_alike f g ns (all_of_each (λ n. f n ≡ g n) same ns)

      -- the duties after events are the same
      after_alike : (f g : List Event → Event → List Event → Option Duty)
          → ((e : Event) → e.key.day ≤ t → (before after : List Event) → f before e after ≡ g before e after)
          → AllByRecursion (λ e. e.key.day ≤ t) events → each_where f events ≡ each_where g events
      after_alike f g same within =
          each_alike f g [] events
          (all_weaker (λ e. e.key.day ≤ t) (λ e. (before after : List Event) → f before e after ≡ g before e after) same events within)

      -- all duties are the same
      pub duties_alike : AllByRecursion (λ e. e.key.day ≤ t) events
          → duties_of (item_on t item) (early t classes) startup events skipped t ≡ duties_of item classes startup events skipped t
      unfolding duties_of
      duties_alike within =
          let begun_months = months_after item classes startup events skipped t in
          rw (
            first_alike,
            periods_alike _ _ monthly_alike begun_months,
            periods_alike _ _ quarterly_alike begun_months,
            periods_alike _ _ yearly_alike (years_after item classes startup events skipped t),
            periods_alike _ _ planned_alike (window_ends item classes startup events skipped t),
            periods_alike _ _ weekly_alike (weeks_after item classes startup events skipped t),
            after_alike _ _ drip_alike within,
            after_alike _ _ release_alike within,
            after_alike _ _ evidence_alike within,
          ) refl

    module _ (delayed : Bool) (quarter : ℕ) where
      -- what is added to a quarter is the same
      pub marks_alike : mark_of (item_on t item) (early t classes) startup events delayed quarter t ≡ mark_of item classes startup events delayed quarter t
      unfolding mark_of
      marks_alike =
          let s = stands (judging_day startup quarter t) (least_within _ t) in
          rw (s.class, first_owed_alike (min (first_due item) t) (least_within (first_due item) t)) refl

pub duties_forget_later_register : DutiesForgetLaterRegister
duties_forget_later_register t item classes startup events skipped begun within = duties_alike t item classes startup events begun skipped within

pub marks_forget_later_register : MarksForgetLaterRegister
marks_forget_later_register t item classes startup events delayed quarter begun = marks_alike t item classes startup events begun delayed quarter
