-- The windows of a batch's tests, and the readings to which these tests matter.
use Rattle.std.proofs.Common.{◌≡◌, ◌⊎◌, ℕ, ◌+◌, ◌<◌, ◌≤◌, Bool, true, false, ◌&&◌, ◌||◌, cond, nat_eq, nat_le, nat_lt, Option, Some, None, List, [], ◌∷◌, ◌++◌, length, take, refl, sym, ap, ◌∙◌, subst, inl, inr, arith}
use Rattle.std.specs.Prelude.{not, min, count_by, sum_by, get_or, IsPermutation}
use Rattle.std.specs.List.{cons_option, filter_map, list_any}
use Rattle.std.specs.Option.{option_map_or, option_to_list}
use Rattle.std.proofs.lemmas.Bool.{cases_Bool, eqb-true}
use Rattle.std.proofs.lemmas.Bool.Decides.{nat_tests}
use Rattle.std.proofs.lemmas.List.{take_more}
use Rattle.std.proofs.lemmas.List.Folds.{list_any-append}
use Rattle.std.proofs.lemmas.List.Elements.{filter_map-append}
use Rattle.std.proofs.lemmas.List.Sorted.{list_any-IsPermutation, sum_by-IsPermutation}
use Rattle.std.proofs.lemmas.List.Sums.{sum_by-cons, sum_by_push}
use Rattle.ldar_days.specs.Calendar.{later_by}
use Rattle.fact_kinds.specs.declared.batch.Batch.{Batch}
use Rattle.fact_kinds.specs.declared.body.FactBody.{FactBody}
use Rattle.fact_kinds.specs.declared.body.FactBody.TheVariants.{Calibration, Precision, Drift}
use Rattle.fact_kinds.specs.Facts.{Entry, entries_from, entries_of, key_of}
use Rattle.fact_kinds.specs.Named.{component_of, reading_instrument, tested_instrument, is_numbered}
use Rattle.fact_kinds.specs.Stated.{Stated}
use Rattle.ldar_law.specs.Stirred.{is_of_matter, matters_to}
use Rattle.touched_readings.specs.declared.windows.Window.{Window}
use Rattle.touched_readings.specs.Flags.{flag_of}
use Rattle.touched_readings.specs.Windows.{Covers, Leaves, IsDone, is_judged_anew, is_on, is_read_in, readings_with, reads_for, window_of, window_on}

-- ---- a window without the days of another one

any_covered : {X : Type 0} (p q r : X → Bool) (xs : List X) → ((x : X) → q x ≡ true → p x ≡ true)
    → ((x : X) → p x ≡ true → (q x ≡ true) ⊎ (r x ≡ true)) → list_any r xs ≡ false → list_any q xs ≡ list_any p xs
any_covered p q r [] within whole none = refl
any_covered p q r (x ∷ xs) within whole none =
    elim (cases_Bool (r x)) [
      | inl rx ↦ absurd (let found : true ≡ false = rw rx at none in cc)
      | inr rx ↦
          let rest : list_any r xs ≡ false = rw rx at none in
          elim (cases_Bool (p x)) [
            | inl px ↦ elim (whole x px) [
              | inl qx ↦ rw (px, qx) refl
              | inr other ↦ absurd (let both : true ≡ false = sym other ∙ rx in cc)
            ]
            | inr px ↦ elim (cases_Bool (q x)) [
              | inl qx ↦ absurd (let both : true ≡ false = sym (within x qx) ∙ px in cc)
              | inr qx ↦ rw (px, qx) (any_covered p q r xs within whole rest)
            ]
          ]
    ]

-- two tests of a day, with the numbers that they stand for
on_days : (window : Window) (day : ℕ) → is_on window day ≡ true → (window.first ≤ day) × (day ≤ window.last)
on_days window day is =
    let from = cases_Bool (nat_le window.first day) in
    (grind (arith, nat_tests, is), grind (arith, nat_tests, is))

days_on : (window : Window) (day : ℕ) → window.first ≤ day → day ≤ window.last → is_on window day ≡ true
days_on window day first last = grind (arith, nat_tests, first, last)

three_true : (a b c : Bool) → (a && (b && c)) ≡ true → (a ≡ true) × (b ≡ true) × (c ≡ true)
three_true true true true is = (refl, refl, refl)
three_true true true false is = absurd cc
three_true true false c is = absurd cc
three_true false b c is = absurd cc

true_three : (a b c : Bool) → a ≡ true → b ≡ true → c ≡ true → (a && (b && c)) ≡ true
true_three a b c first second third = rw (first, second, third) refl

-- a reading of a window is one of each window of the instrument that has its day
same_read : (window other : Window) (n : ℕ) (e : Entry) → other.instrument ≡ window.instrument → is_read_in window n e ≡ true
    → other.first ≤ e.0.day → e.0.day ≤ other.last → is_read_in other n e ≡ true
same_read window other n e same is first last =
    let parts = three_true _ _ _ is in
    true_three _ _ _ (subst (λ i. is_numbered (reading_instrument e.1.body) i ≡ true) (sym same) parts.0) parts.1 (days_on other e.0.day first last)

read_on : (window : Window) (n : ℕ) (e : Entry) → is_read_in window n e ≡ true → (window.first ≤ e.0.day) × (e.0.day ≤ window.last)
read_on window n e is = on_days window e.0.day (three_true _ _ _ is).2

abbrev read_in_some : Option Window → ℕ → Entry → Bool
read_in_some done n e = option_map_or (λ w. is_read_in w n e) done false

none_of_none : (xs : List Entry) → list_any (λ e. false) xs ≡ false
none_of_none [] = refl
none_of_none (x ∷ xs) = none_of_none xs

module _ (facts : List Entry) (window : Window) (done : Option Window) (rest : Window) (leaves : Leaves window done rest) (n : ℕ) where
  in_rest : (e : Entry) → is_read_in rest n e ≡ true → is_read_in window n e ≡ true
  in_rest e is =
      let on = read_on rest n e is in
      same_read rest window n e (sym leaves.instrument) is (omega (arith, on.0, leaves.first)) (omega (arith, on.1, leaves.last))

  covered : (other : Option Window) → other ≡ done → (e : Entry) → is_read_in window n e ≡ true → e.0.day < rest.first → read_in_some other n e ≡ true
  covered None same e is early = absurd (subst (λ o. Covers o window.instrument e.0.day) (sym same) (leaves.before e.0.day (read_on window n e is).0 early))
  covered (Some other) same e is early =
      let covers = subst (λ o. Covers o window.instrument e.0.day) (sym same) (leaves.before e.0.day (read_on window n e is).0 early) in
      same_read window other n e covers.0 is covers.1 covers.2

  in_either : (e : Entry) → is_read_in window n e ≡ true → (is_read_in rest n e ≡ true) ⊎ (read_in_some done n e ≡ true)
  in_either e is =
      let on = read_on window n e is in
      elim (cases_Bool (nat_lt e.0.day rest.first)) [
        | inl early ↦ inr (covered done refl e is (grind (arith, nat_tests, early)))
        | inr late ↦ inl (same_read window rest n e leaves.instrument is (grind (arith, nat_tests, late)) (omega (arith, on.1, leaves.last)))
      ]

  none_left : (flags : List Bool) → flag_of flags n ≡ true → IsDone flags facts done → list_any (read_in_some done n) facts ≡ false
  none_left flags set is = no_more done refl is
    where
      no_more : (other : Option Window) → other ≡ done → IsDone flags facts other → list_any (read_in_some other n) facts ≡ false
      no_more None same is = none_of_none facts
      no_more (Some other) same is =
          ap (λ b. b && list_any (is_read_in other n) facts) (sym set) ∙ is n

  -- what is cleared by the rest is cleared by the whole
  pub rest_clears : (flags : List Bool) → IsDone flags facts done
      → (flag_of flags n && not (list_any (is_read_in rest n) facts)) ≡ (flag_of flags n && not (list_any (is_read_in window n) facts))
  rest_clears flags is =
      elim (cases_Bool (flag_of flags n)) [
        | inl set ↦
            rw set (ap not (any_covered (is_read_in window n) (is_read_in rest n) (read_in_some done n) facts in_rest in_either (none_left flags set is)))
        | inr cleared ↦ rw cleared refl
      ]

-- a window that begins in another one of its instrument, from the day after that one on
pub leaves_behind : (window other : Window) (past : Option Window) (first : ℕ) → past ≡ Some other
    → (nat_eq other.instrument window.instrument && is_on other window.first) ≡ true → window.first ≤ 47481 → first ≡ min 47481 (other.last + 1)
    → Leaves window past (record { instrument = window.instrument; first = first; last = window.last })
leaves_behind window other past first is begins in_range next =
    let parts = three_true (nat_eq other.instrument window.instrument) (nat_le other.first window.first) (nat_le window.first other.last) begins in
    let same : other.instrument ≡ window.instrument = eqb-true other.instrument window.instrument parts.0 in
    let low : other.first ≤ window.first = grind (arith, nat_tests, parts.1) in
    let high : window.first ≤ other.last = grind (arith, nat_tests, parts.2) in
    record {
      instrument = refl;
      first = omega (arith, next, high, in_range);
      last = refl;
      before = λ day from to. subst (λ o. Covers o window.instrument day) (sym is) (same, omega (arith, low, from), omega (arith, to, next));
    }

-- ---- the windows so far

module _ (facts : List Entry) where
  -- the flags after one more window, and what is done with
  pub done_next : (past : Option Window) (window next : Window) (old new : List Bool) → (past ≡ Some next) ⊎ (next ≡ window) → IsDone old facts past
      → ((n : ℕ) → flag_of new n ≡ (flag_of old n && not (list_any (is_read_in window n) facts))) → IsDone new facts (Some next)
  done_next past window next old new (inl same) is cleared n =
      let before = subst (IsDone old facts) same is n in
      ap (λ b. b && list_any (is_read_in next n) facts) (cleared n)
      ∙ still_none (flag_of old n) (list_any (is_read_in window n) facts) (list_any (is_read_in next n) facts) before
    where
      still_none : (a b c : Bool) → (a && c) ≡ false → ((a && not b) && c) ≡ false
      still_none false b c none = refl
      still_none true true c none = refl
      still_none true false c none = none
  done_next past window next old new (inr same) is cleared n =
      ap (λ b. b && list_any (is_read_in next n) facts) (cleared n) ∙ ap (λ w. (flag_of old n && not (list_any (is_read_in window n) facts)) && list_any (is_read_in w n) facts) same
      ∙ gone (flag_of old n) (list_any (is_read_in window n) facts)
    where
      gone : (a b : Bool) → ((a && not b) && b) ≡ false
      gone false b = refl
      gone true true = refl
      gone true false = refl

  -- some window has a reading of the component
  abbrev pub in_some : ℕ → List Window → Bool
  in_some n windows = list_any (λ window. list_any (is_read_in window n) facts) windows

  pub cleared_next : (n : ℕ) (windows : List Window) (i : ℕ) (window : Window) (initial old new : Bool) → i < length windows → window ≡ get_or windows i window
      → old ≡ (initial && not (in_some n (take i windows))) → new ≡ (old && not (list_any (is_read_in window n) facts))
      → new ≡ (initial && not (in_some n (take (i + 1) windows)))
  cleared_next n windows i window initial old new within is before after =
      after ∙ ap (λ b. b && not (list_any (is_read_in window n) facts)) before
      ∙ two_gone initial (in_some n (take i windows)) (list_any (is_read_in window n) facts)
      ∙ ap (λ b. initial && not b)
      (sym (ap (in_some n) (take_more windows i window within) ∙ list_any-append (λ w. list_any (is_read_in w n) facts) (take i windows) (get_or windows i window ∷ [])
      ∙ ap (λ w. in_some n (take i windows) || (list_any (is_read_in w n) facts || false)) (sym is)
      ∙ ap (λ b. in_some n (take i windows) || b) (or_false (list_any (is_read_in window n) facts))))
    where
      two_gone : (a b c : Bool) → ((a && not b) && not c) ≡ (a && not (b || c))
      two_gone false b c = refl
      two_gone true true c = refl
      two_gone true false c = refl

      or_false : (b : Bool) → (b || false) ≡ b
      or_false true = refl
      or_false false = refl

-- the readings of the windows so far
pub reads_next : (arrived : List Entry) (windows : List Window) (i : ℕ) (window : Window) (initial old new : ℕ) → i < length windows
    → window ≡ get_or windows i window → old ≤ initial + sum_by (λ w. readings_with w.instrument arrived) (take i windows)
    → new ≤ old + readings_with window.instrument arrived → new ≤ initial + sum_by (λ w. readings_with w.instrument arrived) (take (i + 1) windows)
reads_next arrived windows i window initial old new within is before after =
    let f : Window → ℕ = λ w. readings_with w.instrument arrived in
    let more : sum_by f (take (i + 1) windows) ≡ sum_by f (take i windows) + f window =
    ap (sum_by f) (take_more windows i window within ∙ ap (λ w. take i windows ++ w ∷ []) (sym is)) ∙ sum_by_push f (take i windows) window in
    omega (arith, before, after, more)

-- ---- the tests of a batch

same_numbers : (a b : ℕ) → nat_eq a b ≡ nat_eq b a
same_numbers a b = grind (arith, nat_tests)

-- a test matters to a reading in its window
module _ (of day number : ℕ) where
  matter_is : (tested : ℕ) (body : FactBody)
      → option_map_or (λ w. nat_eq of w.instrument && is_on w day) (window_on tested body) false ≡ is_of_matter of day tested body
  matter_is tested (Calibration instrument gas) = rw (same_numbers of instrument) (one_day (nat_eq instrument of) tested day)
    where
      one_day : (b : Bool) (first day : ℕ) → (b && (nat_le first day && nat_le day first)) ≡ (b && nat_eq first day)
      one_day b first day = grind (arith, nat_tests)
  matter_is tested (Drift instrument value readings) = rw (same_numbers of instrument) (one_day (nat_eq instrument of) tested day)
    where
      one_day : (b : Bool) (first day : ℕ) → (b && (nat_le first day && nat_le day first)) ≡ (b && nat_eq first day)
      one_day b first day = grind (arith, nat_tests)
  matter_is tested (Precision instrument value readings) =
      rw (same_numbers of instrument) (left_to_right (nat_eq instrument of) (nat_le tested day) (nat_le day (later_by 3 tested)))
    where
      left_to_right : (a b c : Bool) → (a && (b && c)) ≡ ((a && b) && c)
      left_to_right true b c = refl
      left_to_right false b c = refl
  matter_is tested _ = refl

-- tests of lists
any_cons : {X : Type 0} (p : X → Bool) (o : Option X) (xs : List X) → list_any p (cons_option o xs) ≡ (option_map_or p o false || list_any p xs)
any_cons p None xs = refl
any_cons p (Some x) xs = refl

any_same : {X : Type 0} (p q : X → Bool) (xs : List X) → ((x : X) → p x ≡ q x) → list_any p xs ≡ list_any q xs
any_same p q [] same = refl
any_same p q (x ∷ xs) same = rw (same x, any_same p q xs same) refl

any_or : {X : Type 0} (p q : X → Bool) (xs : List X) → list_any (λ x. p x || q x) xs ≡ (list_any p xs || list_any q xs)
any_or p q [] = refl
any_or p q (x ∷ xs) = rw (any_or p q xs) (mixed (p x) (q x) (list_any p xs) (list_any q xs))
  where
    mixed : (a b c d : Bool) → ((a || b) || (c || d)) ≡ ((a || c) || (b || d))
    mixed true b c d = refl
    mixed false true true d = refl
    mixed false true false d = refl
    mixed false false c d = refl

any_swap : {X Y : Type 0} (q : X → Y → Bool) (xs : List X) (ys : List Y)
    → list_any (λ x. list_any (q x) ys) xs ≡ list_any (λ y. list_any (λ x. q x y) xs) ys
any_swap q [] ys = sym (none_any ys)
  where
    none_any : {Y : Type 0} (ys : List Y) → list_any (λ y. false) ys ≡ false
    none_any [] = refl
    none_any (y ∷ ys) = none_any ys
any_swap q (x ∷ xs) ys = ap (λ b. list_any (q x) ys || b) (any_swap q xs ys) ∙ sym (any_or (q x) (λ y. list_any (λ z. q z y) xs) ys)

any_both : {X : Type 0} (b : Bool) (p q : X → Bool) (xs : List X) → list_any (λ x. p x && (b && q x)) xs ≡ (b && list_any (λ x. p x && q x) xs)
any_both true p q xs = refl
any_both false p q [] = refl
any_both false p q (x ∷ xs) = rw (no_both (p x)) (any_both false p q xs)
  where
    no_both : (a : Bool) → (a && false) ≡ false
    no_both true = refl
    no_both false = refl

none_given : {X : Type 0} (o : Option X) → option_map_or (λ x. false) o false ≡ false
none_given None = refl
none_given (Some x) = refl

-- the reading is one of the window
abbrev is_one_of : Entry → Window → Bool
is_one_of r window = is_numbered (reading_instrument r.1.body) window.instrument && is_on window r.0.day

module _ (r : Entry) (batch : Batch) where
  one_test : (k : ℕ) (fact : Stated) → option_map_or (is_one_of r) (window_of fact) false ≡ matters_to r (key_of batch k fact, fact)
  one_test k fact =
      elim (reading_instrument r.1.body) as (λ o. option_map_or (λ w. is_numbered o w.instrument && is_on w r.0.day) (window_of fact) false
      ≡ option_map_or (λ i. is_of_matter i r.0.day fact.day fact.body) o false) [
        | None ↦ none_given (window_of fact)
        | Some of ↦ matter_is of r.0.day of fact.day fact.body
      ]

  tests_of : (k : ℕ) (facts : List Stated) → list_any (is_one_of r) (filter_map window_of facts) ≡ list_any (matters_to r) (entries_from batch k facts)
  tests_of k [] = refl
  tests_of k (fact ∷ facts) =
      any_cons (is_one_of r) (window_of fact) (filter_map window_of facts) ∙ ap (λ b. b || list_any (is_one_of r) (filter_map window_of facts)) (one_test k fact)
      ∙ ap (λ b. matters_to r (key_of batch k fact, fact) || b) (tests_of (k + 1) facts)

-- some window of a batch's tests has a reading of the component, if some test of the batch matters to one
pub in_some_is : (facts : List Entry) (batch : Batch) (n : ℕ)
    → in_some facts n (filter_map window_of batch.facts) ≡ is_judged_anew facts (entries_of batch) n
in_some_is facts batch n =
    let windows = filter_map window_of batch.facts in
    any_swap (λ w. is_read_in w n) windows facts
    ∙ any_same (λ r. list_any (λ w. is_read_in w n r) windows)
    (λ r. is_numbered (component_of r.1.body) n && list_any (matters_to r) (entries_of batch)) facts
    (λ r. any_both (is_numbered (component_of r.1.body) n) (λ w. is_numbered (reading_instrument r.1.body) w.instrument) (λ w. is_on w r.0.day) windows
    ∙ ap (λ b. is_numbered (component_of r.1.body) n && b) (tests_of r batch 0 batch.facts))

pub in_some_sorted : (facts : List Entry) (n : ℕ) (windows sorted : List Window) → IsPermutation windows sorted
    → in_some facts n sorted ≡ in_some facts n windows
in_some_sorted facts n windows sorted same = sym (list_any-IsPermutation (λ w. list_any (is_read_in w n) facts) windows sorted same)

pub reads_sorted : (arrived : List Entry) (windows sorted : List Window) → IsPermutation windows sorted
    → sum_by (λ w. readings_with w.instrument arrived) sorted ≡ sum_by (λ w. readings_with w.instrument arrived) windows
reads_sorted arrived windows sorted same = sum_by-IsPermutation (λ w. readings_with w.instrument arrived) windows sorted same

-- ---- the bound on what is read

count_less : (p q : Entry → Bool) (es : List Entry) → count_by q es ≤ count_by (λ e. p e || q e) es
count_less p q [] = omega arith
count_less p q (e ∷ es) =
    let less = count_less p q es in
    let one = sum_by-cons (λ x. cond (q x) 1 0) e es in
    let two = sum_by-cons (λ x. cond (p x || q x) 1 0) e es in
    let here : cond (q e) 1 0 ≤ cond (p e || q e) 1 0 = at_most (p e) (q e) in
    omega (arith, less, one, two, here)
  where
    at_most : (a b : Bool) → cond b 1 0 ≤ cond (a || b) 1 0
    at_most true true = omega arith
    at_most true false = omega arith
    at_most false true = omega arith
    at_most false false = omega arith

reads_of : (arrived : List Entry) (day : ℕ) (body : FactBody)
    → option_map_or (λ w. readings_with w.instrument arrived) (window_on day body) 0 ≤ reads_for arrived body
reads_of arrived day (Calibration instrument gas) = count_less (λ e. is_numbered (tested_instrument e.1.body) instrument) (λ e. is_numbered (reading_instrument e.1.body) instrument) arrived
reads_of arrived day (Drift instrument value readings) = count_less (λ e. is_numbered (tested_instrument e.1.body) instrument) (λ e. is_numbered (reading_instrument e.1.body) instrument) arrived
reads_of arrived day (Precision instrument value readings) = count_less (λ e. is_numbered (tested_instrument e.1.body) instrument) (λ e. is_numbered (reading_instrument e.1.body) instrument) arrived
reads_of arrived day _ = omega arith

sum_cons : (f : Window → ℕ) (o : Option Window) (ws : List Window) → sum_by f (cons_option o ws) ≡ option_map_or f o 0 + sum_by f ws
sum_cons f None ws = omega arith
sum_cons f (Some w) ws = sum_by-cons f w ws

pub reads_fit : (arrived : List Entry) (facts : List Stated)
    → sum_by (λ w. readings_with w.instrument arrived) (filter_map window_of facts) ≤ sum_by (λ fact. reads_for arrived fact.body) facts
reads_fit arrived [] = omega arith
reads_fit arrived (fact ∷ facts) =
    let f : Window → ℕ = λ w. readings_with w.instrument arrived in
    omega (
      arith,
      reads_fit arrived facts,
      reads_of arrived fact.day fact.body,
      sum_cons f (window_of fact) (filter_map window_of facts),
      sum_by-cons (λ fact. reads_for arrived fact.body) fact facts,
    )

-- a list that a loop makes of what each element gives, with the next
pub given_next : {X Y : Type 0} (f : X → Option Y) (xs : List X) (i : ℕ) (x : X) → i < length xs → x ≡ get_or xs i x
    → filter_map f (take (i + 1) xs) ≡ filter_map f (take i xs) ++ option_to_list (f x)
given_next f xs i x within is =
    ap (filter_map f) (take_more xs i x within) ∙ filter_map-append f (take i xs) (get_or xs i x ∷ [])
    ∙ ap (λ y. filter_map f (take i xs) ++ cons_option (f y) []) (sym is) ∙ ap (λ ys. filter_map f (take i xs) ++ ys) (one_given (f x))
  where
    one_given : {Y : Type 0} (o : Option Y) → cons_option o [] ≡ option_to_list o
    one_given None = refl
    one_given (Some y) = refl
