-- The texts of days: each day has its own text, and `day_of` reads it back.
use Rattle.std.proofs.Common.{◌≡◌, ℕ, ◌+◌, ◌-◌, ◌*◌, Bool, ◌&&◌, not, true, false, true≢false, cond, nat_le, List, take, drop, refl, sym, ap, ◌∙◌}
use Rattle.std.proofs.Common.{arith, Some, None}
use Rattle.std.specs.Str.{bytes_eq}
use Rattle.std.proofs.lemmas.Bool.Decides.{nat_tests}
use Rattle.std.proofs.lemmas.Slice.Eq.{bytes_eq-Decides}
use Rattle.ldar_days.specs.Calendar.{IsDay, month_of, place_of}
use Rattle.ldar_days.specs.Texts.{day_text, digits_value, day_named, day_of}
use Rattle.ldar_days.proofs.Months.{month_of-is, month_of-month, place_bound, month_length_bounds}

-- the digits of a day's text spell its number
pub day_named-day_text : (n : ℕ) → IsDay n → day_named (day_text n) ≡ n
day_named-day_text n h =
    let month = month_of-month n h in
    let place = place_bound n h in
    let long = month_length_bounds (month_of n) in
    let m : 12 * digits_value (take 4 (day_text n)) + digits_value (take 2 (drop 5 (day_text n))) - 1 ≡ month_of n = omega arith in
    let d : digits_value (drop 8 (day_text n)) ≡ place_of n + 1 = omega arith in
    rw (m, d) (omega (arith, month_of-is n h))

-- the test in `day_of`: the number is a day, and its text is the one to read
the_test : (n : ℕ) (same : Bool) → Bool
the_test n same = nat_le 13_879 n && nat_le n 47_481 && same

-- the test passes for a day
passes : (n : ℕ) → IsDay n → the_test n true ≡ true
unfolding the_test
passes n h = grind (arith, nat_tests)

-- the test passes only for a day
passed : (n : ℕ) (same : Bool) → the_test n same ≡ true → IsDay n × (same ≡ true)
unfolding the_test
passed n same h = grind (arith, nat_tests)

-- a day's text is read as the day
pub day_of-day_text : (n : ℕ) → IsDay n → day_of (day_text n) ≡ Some n
unfolding day_of the_test
day_of-day_text n h =
    rw (day_named-day_text n h, (bytes_eq-Decides (day_text n) (day_text n)).1 refl, passes n h)

-- a test whose negation is false is true
not_false : (b : Bool) → false ≡ not b → b ≡ true
not_false true h = refl
not_false false h = absurd (true≢false (sym h))

-- a choice that has a value passed its test
chosen : (b : Bool) (n k : ℕ) → cond b (Some n) None ≡ Some k → (b ≡ true) × (n ≡ k)
chosen true n k h = (refl, cc)
chosen false n k h = cc

-- a choice whose test fails is None
not_chosen : (b : Bool) (n : ℕ) → ¬ (b ≡ true) → cond b (Some n) None ≡ None
not_chosen true n h = absurd (h refl)
not_chosen false n h = refl

-- the text that was read as a day is that day's text
pub day_of-found : (text : List ℕ) (n : ℕ) → day_of text ≡ Some n → IsDay n × (text ≡ day_text n)
unfolding day_of the_test
day_of-found text n h =
    let same = bytes_eq (day_text (day_named text)) text in
    let found = chosen (the_test (day_named text) same) (day_named text) n h in
    let ok = passed (day_named text) same found.0 in
    rw (← found.1) (ok.0, sym ((bytes_eq-Decides (day_text (day_named text)) text).0 ok.1))

-- a text that is no day's is read as None
pub day_of-none : (text : List ℕ) → ((n : ℕ) → IsDay n → ¬ (text ≡ day_text n)) → day_of text ≡ None
unfolding day_of the_test
day_of-none text h =
    let same = bytes_eq (day_text (day_named text)) text in
    not_chosen (the_test (day_named text) same) (day_named text)
    (λ t. let ok = passed (day_named text) same t in h (day_named text) ok.0 (sym ((bytes_eq-Decides (day_text (day_named text)) text).0 ok.1)))

-- two days with the same text are the same day
pub day_text-injective : (a b : ℕ) → IsDay a → IsDay b → day_text a ≡ day_text b → a ≡ b
day_text-injective a b ha hb e = sym (day_named-day_text a ha) ∙ ap day_named e ∙ day_named-day_text b hb

-- if the day's text equals the text to read, the text reads as the day
pub day_of-same : (text bytes : List ℕ) (n : ℕ) → IsDay n → bytes ≡ day_text n → false ≡ not (bytes_eq bytes text) → Some n ≡ day_of text
day_of-same text bytes n h is same =
    let equal = (bytes_eq-Decides bytes text).0 (not_false (bytes_eq bytes text) same) in
    rw (← equal, is) (sym (day_of-day_text n h))

-- if the day's text differs from the text to read, the text is not the day's
pub day_text-other : (text bytes : List ℕ) (n : ℕ) → bytes ≡ day_text n → text ≡ day_text n → true ≡ not (bytes_eq bytes text) → ⊥
day_text-other text bytes n is is' other = true≢false (rw ((bytes_eq-Decides bytes text).1 (is ∙ sym is')) at other)
