-- Months, years and weeks before those of the earliest day on which a duty of the list can be due have no duty on the list.
use Rattle.std.proofs.Common.{◌≡◌, ℕ, ◌+◌, ◌-◌, ◌*◌, ◌/◌, ◌<◌, ◌≤◌, None, refl, ap, subst, inl, inr, arith}
use Rattle.std.specs.Prelude.{max, filter_map}
use Rattle.std.proofs.lemmas.Bool.{cases_lt}
use Rattle.list_words.specs.Ranges.{until}
use Rattle.ldar_days.specs.Calendar.{IsDay, IsMonth, last_day, month_of, week_of}
use Rattle.ldar_days.proofs.Months.{month_of-is}
use Rattle.ldar_law.specs.Duties.{first_due}
use Rattle.monitor_calendar.specs.Causes as causes
use Rattle.monitor_calendar.specs.Covering.{IsFirstListed}
use Rattle.monitor_calendar.specs.declared.asked.Asked.{Asked}
use Rattle.monitor_calendar.proofs.Listing.{ends_before, no_monthly, no_quarterly, no_yearly, not_planned, no_weekly}
use Rattle.monitor_calendar.proofs.Ranges.{from_later}
use Rattle.monitor_calendar.proofs.Rising.{month_low, month_rises}

module _ (asked : Asked) (cut : ℕ) (is : cut ≡ max asked.item.now.begin (asked.day - 366)) (valid : IsDay cut) where
  -- the day on which the component begins
  abbrev begin : ℕ
  begin = asked.item.now.begin

  -- the day of the list
  abbrev day : ℕ
  day = asked.day

  -- a month before the earliest day ends too early
  gone : (month : ℕ) → 23_640 ≤ month → month < month_of cut → begin < cut → last_day month + 366 < day
  gone month low lt later = omega (arith, ends_before month (month_of cut) low lt, month_of-is cut valid, is)

  -- if a month is between, the earliest day is after the beginning
  comes_after : month_of begin < month_of cut → begin < cut
  comes_after lt =
      elim (cases_lt begin cut) [
        | inl after ↦ after
        | inr by ↦ absurd (omega (arith, month_rises cut begin by, lt))
      ]

  -- a month between ends too early
  gone_after : (month : ℕ) → month_of begin + 1 ≤ month → month < month_of cut → last_day month + 366 < day
  gone_after month after lt = gone month (omega (arith, month_low begin, after)) lt (comes_after (omega (arith, after, lt)))

  -- such a month has no monthly duty
  monthly_none : (month : ℕ) → month_of begin + 1 ≤ month → month < month_of cut → causes.monthly asked month ≡ None
  monthly_none month after lt =
      no_monthly asked.item.now asked.classes.now asked.startup asked.events.now asked.skipped.now asked.day month (gone_after month after lt)

  -- such a month has no quarterly duty
  quarterly_none : (month : ℕ) → month_of begin + 1 ≤ month → month < month_of cut → causes.quarterly asked month ≡ None
  quarterly_none month after lt =
      no_quarterly asked.item.now asked.classes.now asked.startup asked.events.now asked.skipped.now asked.day month (gone_after month after lt)

  -- no window that ends with such a month has a duty
  planned_none : (month : ℕ) → month_of begin + 1 ≤ month → month < month_of cut → causes.planned asked month ≡ None
  planned_none month after lt =
      not_planned asked.item.now asked.classes.now asked.startup asked.events.now asked.skipped.now asked.day month (omega (arith, gone_after month after lt))

  -- a year between has no duty
  yearly_none : (year : ℕ) → month_of (first_due asked.item.now) / 12 ≤ year → year < month_of cut / 12 → causes.yearly asked year ≡ None
  yearly_none year after lt =
      let no_later : month_of begin ≤ month_of (first_due asked.item.now) = month_rises begin (first_due asked.item.now) (omega (arith, is, valid)) in
      let low : 23_640 ≤ month_of begin = month_low begin in
      no_yearly asked.item.now asked.classes.now asked.startup asked.events.now asked.skipped.now asked.day year
      (gone (12 * year + 11) (omega (arith, low, no_later, after)) (omega (arith, lt)) (comes_after (omega (arith, no_later, after, lt))))

  -- a week between has no duty
  weekly_none : (week : ℕ) → week_of begin + 1 ≤ week → week < week_of cut → causes.weekly asked week ≡ None
  weekly_none week after lt =
      no_weekly asked.item.now asked.classes.now asked.startup asked.events.now asked.skipped.now asked.day week (omega (arith, is, after, lt))

  -- the months from that of the earliest day on
  pub listed_from_cut : IsMonth (month_of cut) → month_of begin < month_of cut → IsFirstListed asked (month_of cut)
  listed_from_cut month lt = record {
    in_range = (omega (arith, month), omega (arith, month));
    monthly = from_later (causes.monthly asked) (month_of begin + 1) (month_of cut) (month_of day + 1) (omega (arith, lt)) monthly_none;
    quarterly = from_later (causes.quarterly asked) (month_of begin + 1) (month_of cut) (month_of day + 1) (omega (arith, lt)) quarterly_none;
  }

  -- the months from the one after the beginning on
  pub listed_from_begin : IsMonth (month_of begin) → month_of cut ≤ month_of begin → IsFirstListed asked (month_of begin + 1)
  listed_from_begin month le = record {
    in_range = (omega (arith, month), omega (arith, month));
    monthly = refl;
    quarterly = refl;
  }

  -- windows that end from the month of the earliest day on
  pub windows_from_cut : month_of begin < month_of cut → filter_map (causes.planned asked) (until (month_of cut) (month_of day + 60))
      ≡ filter_map (causes.planned asked) (causes.window_ends asked)
  windows_from_cut lt =
      let end : month_of day + 59 + 1 ≡ month_of day + 60 = omega arith in
      subst (λ e. filter_map (causes.planned asked) (until (month_of cut) e) ≡ filter_map (causes.planned asked) (until (month_of begin + 1)
      (month_of day + 59 + 1))) end
      (from_later (causes.planned asked) (month_of begin + 1) (month_of cut) (month_of day + 59 + 1) (omega (arith, lt)) planned_none)

  -- windows that end from the month after the beginning on
  pub windows_from_begin : filter_map (causes.planned asked) (until (month_of begin + 1) (month_of day + 60))
      ≡ filter_map (causes.planned asked) (causes.window_ends asked)
  windows_from_begin =
      let end : month_of day + 60 ≡ month_of day + 59 + 1 = omega arith in
      ap (λ e. filter_map (causes.planned asked) (until (month_of begin + 1) e)) end

  -- years from that of the earliest day on
  pub years_from_cut : month_of (first_due asked.item.now) / 12 < month_of cut / 12 →
      filter_map (causes.yearly asked) (until (month_of cut / 12) (month_of day / 12 + 1)) ≡ filter_map (causes.yearly asked) (causes.years_after asked)
  years_from_cut lt =
      from_later (causes.yearly asked) (month_of (first_due asked.item.now) / 12) (month_of cut / 12) (month_of day / 12 + 1) (omega (arith, lt)) yearly_none

  -- weeks from that of the earliest day on
  pub weeks_from_cut : week_of begin < week_of cut →
      filter_map (causes.weekly asked) (until (week_of cut) (week_of day + 1)) ≡ filter_map (causes.weekly asked) (causes.weeks_after asked)
  weeks_from_cut lt = from_later (causes.weekly asked) (week_of begin + 1) (week_of cut) (week_of day + 1) (omega (arith, lt)) weekly_none
