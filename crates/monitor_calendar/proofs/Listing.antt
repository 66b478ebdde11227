-- What was due more than 366 days before the day of the list is not on it.
use Rattle.std.proofs.Common.{◌≡◌, ℕ, ◌+◌, ◌*◌, ◌<◌, ◌≤◌, Bool, false, ◌&&◌, ◌||◌, nat_le, Option, None, is_none, List, arith}
use Rattle.std.proofs.lemmas.Bool.{lt-leb, cond-false, and_left, and_right, or_from}
use Rattle.ldar_days.specs.Calendar.{first_day, last_day, week_last, end_by}
use Rattle.ldar_days.proofs.Months.{first_day-lt, month_length_bounds}
use Rattle.fact_kinds.specs.declared.class.Class.{Class}
use Rattle.fact_kinds.specs.declared.key.Key.{Key}
use Rattle.ldar_law.specs.declared.equipment.Equipment.{Equipment}
use Rattle.ldar_law.specs.declared.event.Event.{Event}
use Rattle.ldar_law.specs.Duties.{duty, monthly, quarterly, yearly, planned, weekly, drip, release, evidence}

-- a test of the list fails if its last parts fail
fails : (a b u c o : Bool) → b ≡ false → c ≡ false → ((a && (b || (u && c))) && o) ≡ false
fails a b u c o late gone = and_left (a && (b || (u && c))) o (and_right a (b || (u && c)) (or_from b (u && c) late (and_right u c gone)))

-- the last day of a month is before a later month
pub ends_before : (month later : ℕ) → 23_640 ≤ month → month < later → last_day month < first_day later
ends_before month later low lt = omega (arith, first_day-lt month later low lt, month_length_bounds month)

module _ (item : Equipment) (classes : List (Key × Class)) (startup : ℕ) (events : List Event) (skipped : List Bool) (t : ℕ) where
  -- a duty that was due too long ago is not listed
  pub unlisted : (cause first due : ℕ) (owed : Bool) (met : Option Event) → due + 366 < t →
      duty item classes startup events skipped t cause first due owed met ≡ None
  unlisted cause first due owed met gone =
      cond-false _ _ _ (fails (nat_le first t) (nat_le t due) (is_none met) (nat_le t (due + 366)) owed (lt-leb t due (omega (arith, gone))) (lt-leb t
      (due + 366) gone))

  -- a duty that is not owed is not listed
  pub unowed : (cause first due : ℕ) (owed : Bool) (met : Option Event) → owed ≡ false →
      duty item classes startup events skipped t cause first due owed met ≡ None
  unowed cause first due owed met none =
      cond-false _ _ _ (and_right (nat_le first t && (nat_le t due || (is_none met && nat_le t (due + 366)))) owed none)

  -- a duty that has not begun is not listed
  pub not_begun : (cause first due : ℕ) (owed : Bool) (met : Option Event) → t < first →
      duty item classes startup events skipped t cause first due owed met ≡ None
  not_begun cause first due owed met ahead =
      cond-false _ _ _ (and_left (nat_le first t && (nat_le t due || (is_none met && nat_le t (due + 366)))) owed
      (and_left (nat_le first t) (nat_le t due || (is_none met && nat_le t (due + 366))) (lt-leb first t ahead)))

  -- no monthly duty
  pub no_monthly : (month : ℕ) → last_day month + 366 < t → monthly item classes startup events skipped t month ≡ None
  unfolding monthly
  no_monthly month gone = unlisted _ _ _ _ _ gone

  -- no quarterly one
  pub no_quarterly : (month : ℕ) → last_day month + 366 < t → quarterly item classes startup events skipped t month ≡ None
  unfolding quarterly
  no_quarterly month gone = unlisted _ _ _ _ _ gone

  -- no yearly one
  pub no_yearly : (year : ℕ) → last_day (12 * year + 11) + 366 < t → yearly item classes startup events skipped t year ≡ None
  unfolding yearly
  no_yearly year gone = unlisted _ _ _ _ _ gone

  -- none by a plan
  pub not_planned : (month : ℕ) → end_by (last_day month) + 366 < t → planned item classes startup events skipped t month ≡ None
  unfolding planned
  not_planned month gone = unlisted _ _ _ _ _ gone

  -- no weekly one
  pub no_weekly : (week : ℕ) → week_last week + 366 < t → weekly item classes startup events skipped t week ≡ None
  unfolding weekly
  no_weekly week gone = unlisted _ _ _ _ _ gone

  -- none after drips
  pub no_drip : (before : List Event) (e : Event) (later : List Event) → end_by (e.key.day + 5) + 366 < t →
      drip item classes startup events skipped t before e later ≡ None
  unfolding drip
  no_drip before e later gone = unlisted _ _ _ _ _ gone

  -- none after a release
  pub no_release : (before : List Event) (e : Event) (later : List Event) → end_by (e.key.day + 5) + 366 < t →
      release item classes startup events skipped t before e later ≡ None
  unfolding release
  no_release before e later gone = unlisted _ _ _ _ _ gone

  -- none after evidence
  pub no_evidence : (before : List Event) (e : Event) (later : List Event) → end_by (e.key.day + 5) + 366 < t →
      evidence item classes startup events skipped t before e later ≡ None
  unfolding evidence
  no_evidence before e later gone = unlisted _ _ _ _ _ gone
