-- The months and days of the calendar: each month begins where the one before ends, and each day is in one month.
use Rattle.std.proofs.Common.{◌≡◌, ℕ, zero, suc, ◌+◌, ◌-◌, ◌*◌, ◌/◌, ◌%◌, ◌<◌, ◌≤◌, inl, inr, cond, nat_lt, get_or, refl, sym, arith, pos, ◌+ℤ◌}
use Rattle.std.proofs.lemmas.Bool.{cases_lt}
use Rattle.std.proofs.lemmas.Bool.Decides.{nat_tests}
use Rattle.jiff_core.specs.Calendar.{days_from_civil, day_count}
use Rattle.jiff_core.proofs.SignedLemmas.{signed_arith}
use Rattle.jiff_core.proofs.CalendarLemmas.{days_from_civil-day_count, day_count-next_month, day_count-next_year, day_count-last_of_year, day_count-day}
use Rattle.jiff_core.proofs.CalendarLemmas.{days_in_month_bounds}
use Rattle.jiff_core.proofs.MarchLemmas.{day_count-early, day_count-late}
use Rattle.ldar_days.specs.Calendar.{IsDay, IsMonth, IsInMonth, days_before, first_day, month_length, last_day, near, month_of, place_of}

-- the table of a year's months is close to a line
before_is : (k : ℕ) → k < 12 → get_or days_before k 0 + cond (nat_lt 1 k) 2 0 ≡ (367 * k + 5) / 12
before_is zero h = refl
before_is (suc zero) h = refl
before_is (suc (suc zero)) h = refl
before_is (suc (suc (suc zero))) h = refl
before_is (suc (suc (suc (suc zero)))) h = refl
before_is (suc (suc (suc (suc (suc zero))))) h = refl
before_is (suc (suc (suc (suc (suc (suc zero)))))) h = refl
before_is (suc (suc (suc (suc (suc (suc (suc zero))))))) h = refl
before_is (suc (suc (suc (suc (suc (suc (suc (suc zero)))))))) h = refl
before_is (suc (suc (suc (suc (suc (suc (suc (suc (suc zero))))))))) h = refl
before_is (suc (suc (suc (suc (suc (suc (suc (suc (suc (suc zero)))))))))) h = refl
before_is (suc (suc (suc (suc (suc (suc (suc (suc (suc (suc (suc zero))))))))))) h = refl
before_is (suc (suc (suc (suc (suc (suc (suc (suc (suc (suc (suc (suc k)))))))))))) h = absurd (omega arith)

-- the first days of all months from 1970 on are close to a line
pub first_day-near : (m : ℕ) → 23_640 ≤ m → (4_800 * first_day m ≤ 146_097 * (m - 23_640) + 60_000) × (146_097 * (m - 23_640) ≤ 4_800 * first_day m + 60_000)
unfolding first_day
first_day-near m h = let b = before_is (m % 12) (omega arith) in grind (arith, nat_tests)

-- the first day of a month, in the civil calendar's count of days from the year -10000 on
pub first_day-day_count : (m : ℕ) → 23_640 ≤ m → first_day m + 4_371_953 ≡ day_count (pos (m / 12)) (m % 12 + 1) 1
unfolding first_day
first_day-day_count m h =
    let b = before_is (m % 12) (omega arith) in
    let y : pos (m / 12) +ℤ pos 10000 ≡ pos (m / 12 + 10000) = omega (arith, signed_arith) in
    let y' : pos (m / 12) +ℤ pos 10000 ≡ pos (suc (m / 12 + 9999)) = omega (arith, signed_arith) in
    elim (cases_lt (m % 12) 2) [
      | inl early ↦ rw (day_count-early (pos (m / 12)) (m / 12 + 9999) (m % 12 + 1) 1 y' (omega arith) (omega arith) (omega arith)) (grind (arith, nat_tests))
      | inr late ↦ rw (day_count-late (pos (m / 12)) (m / 12 + 10000) (m % 12 + 1) 1 y (omega arith) (omega arith) (omega arith)) (grind (arith, nat_tests))
    ]

-- the first day of a month agrees with the civil calendar
pub first_day-civil : (m : ℕ) → 23_640 ≤ m → pos (first_day m) ≡ days_from_civil (pos (m / 12)) (m % 12 + 1) 1
first_day-civil m h =
    omega (arith, signed_arith, days_from_civil-day_count (pos (m / 12)) (m % 12 + 1) 1, first_day-day_count m h)

-- a month has 28 to 31 days
pub month_length_bounds : (m : ℕ) → (28 ≤ month_length m) × (month_length m ≤ 31)
unfolding month_length
month_length_bounds m = let b = days_in_month_bounds (pos (m / 12)) (m % 12 + 1) in (b.1, b.0)

-- a month begins right after the last day of the month before
pub first_day-next : (m : ℕ) → 23_640 ≤ m → first_day (m + 1) ≡ first_day m + month_length m
unfolding month_length
first_day-next m h =
    elim (cases_lt (m % 12) 11) [
      | inl within ↦
          let year : (m + 1) / 12 ≡ m / 12 = omega arith in
          let month : (m + 1) % 12 ≡ m % 12 + 1 = omega arith in
          let next = rw (year, month) at (first_day-day_count (m + 1) (omega arith)) in
          omega (arith, first_day-day_count m h, day_count-next_month (pos (m / 12)) (m % 12 + 1) (omega arith))
      | inr last ↦
          let year : (m + 1) / 12 ≡ m / 12 + 1 = omega arith in
          let month : (m + 1) % 12 ≡ 0 = omega arith in
          let here : m % 12 ≡ 11 = omega arith in
          let next = rw (year, month) at (first_day-day_count (m + 1) (omega arith)) in
          let this = rw here at (first_day-day_count m h) in
          let later : pos (m / 12 + 1) ≡ pos (m / 12) +ℤ pos 1 = omega (arith, signed_arith) in
          rw here (omega (
            arith,
            day_count-next_year (pos (m / 12)) (pos (m / 12 + 1)) (omega (arith, signed_arith)) later,
            day_count-last_of_year
                (pos (m / 12)),
            day_count-day (pos (m / 12)) 12 31 1 (omega arith) (omega arith),
          ))
    ]

-- a later month begins at least 28 days later
pub first_day-mono : (m k : ℕ) → 23_640 ≤ m → first_day m + 28 ≤ first_day (m + 1 + k)
first_day-mono m zero h =
    let same : m + 1 + 0 ≡ m + 1 = omega arith in
    rw same (omega (arith, first_day-next m h, month_length_bounds m))
first_day-mono m (suc k) h =
    let same : m + 1 + suc k ≡ m + 1 + k + 1 = omega arith in
    rw same (omega (arith, first_day-mono m k h, first_day-next (m + 1 + k) (omega arith), month_length_bounds (m + 1 + k)))

-- a later month begins after all days of an earlier one
pub first_day-lt : (m later : ℕ) → 23_640 ≤ m → m < later → first_day m + month_length m ≤ first_day later
first_day-lt m later h lt =
    elim (cases_lt (m + 1) later) [
      | inl more ↦
          let same : m + 1 + 1 + (later - (m + 2)) ≡ later = omega arith in
          omega (arith, first_day-next m h, rw same at (first_day-mono (m + 1) (later - (m + 2)) (omega arith)))
      | inr next ↦
          let same : later ≡ m + 1 = omega arith in
          rw same (omega (arith, first_day-next m h))
    ]

-- a later month begins and ends later
pub first_day-le : (m later : ℕ) → 23_640 ≤ m → m ≤ later → (first_day m ≤ first_day later) × (last_day m ≤ last_day later)
first_day-le m later low le =
    let long = month_length_bounds m in
    let long' = month_length_bounds later in
    elim (cases_lt m later) [
      | inl before ↦ let lt = first_day-lt m later low before in (omega arith, omega arith)
      | inr same ↦ let e : later ≡ m = omega arith in rw e (omega arith, omega arith)
    ]

-- the calendar's first month begins on 2008-01-01
pub first_day-2008 : first_day 24_096 ≡ 13_879
unfolding first_day
first_day-2008 = refl

-- the month after the calendar's last one begins on 2100-01-01
pub first_day-2100 : first_day 25_200 ≡ 47_482
unfolding first_day
first_day-2100 = refl

-- a month after the calendar begins after 2099-12-31
pub first_day-past : (m : ℕ) → 25_200 ≤ m → 47_482 ≤ first_day m
first_day-past m h =
    elim (cases_lt 25_200 m) [
      | inl more ↦ omega (arith, first_day-2100, first_day-lt 25_200 m (omega arith) more)
      | inr same ↦ let e : m ≡ 25_200 = omega arith in rw e (omega (arith, first_day-2100))
    ]

-- the days of the calendar's months are in the calendar
pub month_bounds : (m : ℕ) → IsMonth m → (13_879 ≤ first_day m) × (last_day m ≤ 47_481)
month_bounds m h =
    let long = month_length_bounds m in
    let end = first_day-lt m 25_200 (omega arith) (omega arith) in
    let begin : 13_879 ≤ first_day m = elim (cases_lt 24_096 m) [
      | inl more ↦ omega (arith, first_day-2008, first_day-lt 24_096 m (omega arith) more)
      | inr same ↦ let e : m ≡ 24_096 = omega arith in rw e (omega (arith, first_day-2008))
    ] in
    (begin, omega (arith, first_day-2100))

-- the month `near` a day begins by it
near_low : (n : ℕ) → IsDay n → first_day (near n) ≤ n
near_low n h = omega (arith, first_day-near (near n) (omega arith))

-- the second month after it begins after the day
near_high : (n : ℕ) → IsDay n → n < first_day (near n + 2)
near_high n h = omega (arith, first_day-near (near n + 2) (omega arith))

-- a day's month is the one `near` it or the next
pub month_of-near : (n : ℕ) → (near n ≤ month_of n) × (month_of n ≤ near n + 1)
unfolding month_of
month_of-near n = grind (arith, nat_tests)

-- the month of a day is the second of the two if that one begins by the day
month_of-begun : (n : ℕ) → first_day (near n + 1) ≤ n → month_of n ≡ near n + 1
unfolding month_of
month_of-begun n h = grind (arith, nat_tests)

-- the month of a day is the first of the two if the second begins after the day
month_of-ahead : (n : ℕ) → n < first_day (near n + 1) → month_of n ≡ near n
unfolding month_of
month_of-ahead n h = grind (arith, nat_tests)

-- a day is in its month
pub month_of-is : (n : ℕ) → IsDay n → IsInMonth (month_of n) n
month_of-is n h =
    let two : near n + 1 + 1 ≡ near n + 2 = omega arith in
    elim (cases_lt n (first_day (near n + 1))) [
      | inl ahead ↦ rw (month_of-ahead n ahead) (omega (arith, near_low n h, first_day-next (near n) (omega arith)))
      | inr begun ↦
          let next = rw two at (first_day-next (near n + 1) (omega arith)) in
          rw (month_of-begun n begun) (omega (arith, near_high n h))
    ]

-- a day is in no other month than its own
pub month_of-only : (n m : ℕ) → IsDay n → 23_640 ≤ m → IsInMonth m n → m ≡ month_of n
month_of-only n m h low inside =
    let is = month_of-is n h in
    let near_it = month_of-near n in
    let long = month_length_bounds m in
    let long' = month_length_bounds (month_of n) in
    elim (cases_lt m (month_of n)) [
      | inl before ↦ absurd (omega (arith, first_day-lt m (month_of n) low before))
      | inr not_before ↦ elim (cases_lt (month_of n) m) [
        | inl after ↦ absurd (omega (arith, first_day-lt (month_of n) m (omega arith) after))
        | inr not_after ↦ omega arith
      ]
    ]

-- the month of a day is in the calendar
pub month_of-month : (n : ℕ) → IsDay n → IsMonth (month_of n)
month_of-month n h =
    let is = month_of-is n h in
    let near_it = month_of-near n in
    let long = month_length_bounds (month_of n) in (
      elim (cases_lt (month_of n) 24_096) [
        | inl before ↦ absurd (omega (arith, first_day-2008, first_day-lt (month_of n) 24_096 (omega arith) before))
        | inr from ↦ from
      ],
      elim (cases_lt (month_of n) 25_200) [
        | inl until ↦ omega arith
        | inr past ↦ absurd (omega (arith, first_day-past (month_of n) past))
      ],
    )

-- the day at a place of a month has that month
pub month_of-day : (m k : ℕ) → IsMonth m → k < month_length m → month_of (first_day m + k) ≡ m
month_of-day m k h lt =
    let bounds = month_bounds m h in
    sym (month_of-only (first_day m + k) m (omega arith) (omega arith) (omega arith, omega arith))

-- a day's place is below the length of its month
pub place_bound : (n : ℕ) → IsDay n → place_of n < month_length (month_of n)
place_bound n h = omega (arith, month_of-is n h, month_length_bounds (month_of n))

-- the first day of a month is in it
pub month_of-first_day : (m : ℕ) → IsMonth m → month_of (first_day m) ≡ m
month_of-first_day m h =
    let bounds = month_bounds m h in
    let long = month_length_bounds m in
    sym (month_of-only (first_day m) m (omega arith) (omega arith) (omega arith, omega arith))

-- the last day of a month is in it
pub month_of-last_day : (m : ℕ) → IsMonth m → month_of (last_day m) ≡ m
month_of-last_day m h =
    let bounds = month_bounds m h in
    let long = month_length_bounds m in
    sym (month_of-only (last_day m) m (omega arith) (omega arith) (omega arith, omega arith))

-- a later day is in the same month or in a later one
pub month_of-mono : (n later : ℕ) → IsDay n → IsDay later → n ≤ later → month_of n ≤ month_of later
month_of-mono n later h h' le =
    let is = month_of-is n h in
    let is' = month_of-is later h' in
    let month = month_of-month later h' in
    elim (cases_lt (month_of later) (month_of n)) [
      | inl before ↦ absurd (omega (arith, first_day-lt (month_of later) (month_of n) (omega arith) before, month_length_bounds (month_of later)))
      | inr in_order ↦ in_order
    ]
