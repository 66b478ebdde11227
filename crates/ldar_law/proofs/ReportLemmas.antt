use Rattle.std.proofs.Common.{◌≡◌, ℕ, ◌+◌, ◌-◌, ◌*◌, ◌<◌, ◌≤◌, Bool, true, false, ◌&&◌, cond, nat_eq, None, List, [], ◌∷◌, length, refl, ap, ◌∙◌, subst, inl}
use Rattle.std.proofs.Common.{inr, arith}
use Rattle.std.specs.Prelude.{slice_index_or}
use Rattle.std.specs.List.{list_any, flat_map, count_by, AllByRecursion}
use Rattle.std.proofs.lemmas.Bool.{cases_Bool}
use Rattle.std.proofs.lemmas.Bool.Decides.{nat_tests}
use Rattle.std.proofs.lemmas.List.Sums.{sum_by-cons, count_by-le-length}
use Rattle.list_words.specs.Ranges.{until}
use Rattle.list_words.proofs.Members.{Among, among_from_Contains, Contains-from_among, all_weaker, all_from_among}
use Rattle.list_words.proofs.RangeLemmas.{among_until}
use Rattle.ldar_days.specs.Calendar.{month_of}
use Rattle.ldar_days.proofs.Months.{month_of-month}
use Rattle.fact_kinds.specs.declared.class.Kind.{Kind}
use Rattle.ldar_law.specs.declared.delay.Until.{Until}
use Rattle.ldar_law.specs.declared.delay.Until.TheVariants.{Date, Shutdown, WhileIsolated, NoDate}
use Rattle.ldar_law.specs.declared.report.Amended.{Amended}
use Rattle.ldar_law.specs.declared.sheet.Sheet.{Sheet}
use Rattle.ldar_law.specs.declared.tag.Tag.{Tag}
use Rattle.ldar_law.proofs.Gifts.{cases_Option, among_given, given_among, no_gift}
use Rattle.ldar_law.specs.Kinds.{is_valve, is_pump, is_compressor}
use Rattle.ldar_law.specs.Reports.{half_month, is_date_in, leaking_in, late_in, month_cells, amended_at}
use Rattle.ldar_law.specs.ReportLaws.{CellsAreBounded, IsDueInCalendar, IsInCalendar, MonthsPastAreZero, AmendedWhereDifferent, NothingAmended}
use Rattle.ldar_law.specs.Tags.{is_late}

-- ---- 36 numbers

six_months : (first : ℕ) → length (until first (first + 6)) ≡ 6
unfolding until
six_months first = let six : first + 6 - first ≡ 6 = omega arith in rw six refl

module _ (day : ℕ) (sheets : List Sheet) where
  -- each of the 36 numbers of six months is a count of sheets
  months_bounded : (months : List ℕ) → AllByRecursion (λ number. number ≤ length sheets) (flat_map (month_cells day sheets) months)
  unfolding month_cells
  months_bounded [] = tt
  months_bounded (month ∷ months) = (
    count_by-le-length _ sheets,
    (
      count_by-le-length _ sheets,
      (
        count_by-le-length _ sheets,
        (count_by-le-length _ sheets, (count_by-le-length _ sheets, (count_by-le-length _ sheets, months_bounded months))),
      ),
    ),
  )

  -- each month has six numbers
  six_each : (months : List ℕ) → length (flat_map (month_cells day sheets) months) ≡ 6 * length months
  unfolding month_cells
  six_each [] = refl
  six_each (month ∷ months) = let rest = six_each months in omega arith

pub cells_are_bounded : CellsAreBounded
cells_are_bounded startup half day sheets stops =
    let months = until (half_month startup half) (half_month startup half + 6) in
    (six_each day sheets months ∙ ap (λ n. 6 * n) (six_months (half_month startup half)), months_bounded day sheets months)

-- ---- months past the calendar

-- a test that fails on each element passes on none
none_passes : {X : Type 0} (p : X → Bool) (xs : List X) → AllByRecursion (λ x. p x ≡ false) xs → list_any p xs ≡ false
none_passes p [] all = refl
none_passes p (x ∷ xs) all = rw (all.0, none_passes p xs all.1) refl

count_none : {X : Type 0} (p : X → Bool) (xs : List X) → AllByRecursion (λ x. p x ≡ false) xs → count_by p xs ≡ 0
count_none p [] all = refl
count_none p (x ∷ xs) all = sum_by-cons (λ y. cond (p y) 1 0) x xs ∙ rw (all.0, count_none p xs all.1) refl

-- a conjunction fails if its second test does
fails_behind : (a b : Bool) → b ≡ false → (a && b) ≡ false
fails_behind true b e = e
fails_behind false b e = refl

earlier_month : (leak month : ℕ) → leak ≤ 25_199 → 25_199 < month → nat_eq leak month ≡ false
earlier_month leak month within past = grind (arith, nat_tests)

no_date_past : (month : ℕ) → 25_199 < month → (until : Until) → IsDueInCalendar until → is_date_in month until ≡ false
no_date_past month past (Date due) within = earlier_month (month_of due) month (month_of-month due within).1 past
no_date_past month past Shutdown within = refl
no_date_past month past WhileIsolated within = refl
no_date_past month past NoDate within = refl

module _ (day month : ℕ) (past : 25_199 < month) (is_kind : Kind → Bool) (sheets : List Sheet) (within : AllByRecursion IsInCalendar sheets) where
  -- no component has a leak in a month after the calendar's end
  none_leaking : leaking_in is_kind sheets month ≡ 0
  none_leaking =
      count_none (λ sheet. is_kind sheet.kind && list_any (λ leak. nat_eq leak month) sheet.leaks) sheets
      (all_weaker IsInCalendar (λ sheet. (is_kind sheet.kind && list_any (λ leak. nat_eq leak month) sheet.leaks) ≡ false)
      (λ sheet h. fails_behind (is_kind sheet.kind) (list_any (λ leak. nat_eq leak month) sheet.leaks)
      (none_passes (λ leak. nat_eq leak month) sheet.leaks
      (all_weaker (λ leak. leak ≤ 25_199) (λ leak. nat_eq leak month ≡ false) (λ leak low. earlier_month leak month low past) sheet.leaks h.0)))
      sheets within)

  -- no component has a late tag in a month after the calendar's end
  none_late : late_in is_kind day sheets month ≡ 0
  none_late =
      let late_there : Tag → Bool = λ tag. is_late day tag && is_date_in month tag.repair_due in
      count_none (λ sheet. is_kind sheet.kind && list_any (λ tag. is_late day tag && is_date_in month tag.repair_due) sheet.tags) sheets
      (all_weaker IsInCalendar (λ sheet. (is_kind sheet.kind && list_any (λ tag. is_late day tag && is_date_in month tag.repair_due) sheet.tags) ≡ false)
      (λ sheet h. fails_behind (is_kind sheet.kind) (list_any late_there sheet.tags)
      (none_passes late_there sheet.tags
      (all_weaker (λ tag. IsDueInCalendar tag.repair_due) (λ tag. late_there tag ≡ false)
      (λ tag due. fails_behind (is_late day tag) (is_date_in month tag.repair_due) (no_date_past month past tag.repair_due due)) sheet.tags h.1)))
      sheets within)

pub months_past_are_zero : MonthsPastAreZero
unfolding month_cells
months_past_are_zero day month sheets within past =
    rw (
      none_leaking day month past is_valve sheets within,
      none_late day month past is_valve sheets within,
      none_leaking day month past is_pump sheets within,
      none_late day month past is_pump sheets within,
      none_leaking day month past is_compressor sheets within,
      none_late day month past is_compressor sheets within,
    ) refl

-- ---- what is amended

pub amended_where_different : AmendedWhereDifferent
amended_where_different old new change = (
  λ h.
      let found = among_given (amended_at old.months new.months) (until 0 36) change (among_from_Contains _ change h) in
      (found.0, ((among_until 0 36 found.0).0 found.1).1, found.2),
  λ h.
      let place : Among (until 0 36) h.0 = (among_until 0 36 h.0).1 (omega arith, h.1) in
      Contains-from_among _ change (given_among (amended_at old.months new.months) (until 0 36) h.0 change place h.2),
)

-- two equal numbers amend nothing, and different ones do
amends_nothing : (old new : List ℕ) (place : ℕ) → amended_at old new place ≡ None → slice_index_or old place 0 ≡ slice_index_or new place 0
unfolding amended_at
amends_nothing old new place e =
    elim (cases_Bool (nat_eq (slice_index_or old place 0) (slice_index_or new place 0))) [
      | inl same ↦ grind (arith, nat_tests)
      | inr differ ↦ absurd (let clash = rw differ at e in cc)
    ]

nothing_at : (old new : List ℕ) (place : ℕ) → slice_index_or old place 0 ≡ slice_index_or new place 0 → amended_at old new place ≡ None
unfolding amended_at
nothing_at old new place e =
    let same : nat_eq (slice_index_or old place 0) (slice_index_or new place 0) ≡ true = grind (arith, nat_tests) in rw same refl

pub nothing_amended : NothingAmended
nothing_amended old new = (
  λ e place within.
      elim (cases_Option (amended_at old.months new.months place)) [
        | inl none ↦ amends_nothing old.months new.months place none
        | inr some ↦
            let stands = given_among (amended_at old.months new.months) (until 0 36) place some.0 ((among_until 0 36 place).1 (omega arith, within)) some.1 in
            absurd (subst (λ (l : List Amended). Among l some.0) e stands)
      ],
  λ same. no_gift (amended_at old.months new.months) (until 0 36)
      (all_from_among (λ place. amended_at old.months new.months place ≡ None) (until 0 36)
      (λ place among. nothing_at old.months new.months place (same place ((among_until 0 36 place).0 among).1))),
)
