-- The order of moments, and of events, marks and rows by their moments.
use Rattle.std.proofs.Common.{◌≡◌, ℕ, ◌+◌, ◌<◌, ◌≤◌, Bool, true, false, not, ◌&&◌, ◌||◌, cond, Option, Some, None, List, [], ◌∷◌, Ordering, refl, sym, ap, ◌∙◌, inl, inr, subst, arith}
use Rattle.std.specs.Prelude.{nat_lt, nat_le, nat_eq}
use Rattle.std.specs.List.{AllByRecursion, cons_option, filter_map}
use Rattle.std.specs.Ordering.{is_lt, ordering_then, nat_cmp, MatchOrdering}
use Rattle.std.specs.declared.cmp.Ordering.TheVariants.{Less, Equal, Greater}
use Rattle.std.proofs.lemmas.Bool.{cases_Bool}
use Rattle.std.proofs.lemmas.Bool.Decides.{nat_tests}
use Rattle.std.proofs.lemmas.Cmp.{ranked}
use Rattle.list_words.specs.Order.{Ascends}
use Rattle.fact_kinds.specs.declared.key.Key.{Key}
use Rattle.fact_kinds.specs.Facts.{is_earlier}
use Rattle.ldar_law.specs.declared.event.Event.{Event}
use Rattle.pump_seals.specs.declared.moment.Moment.{Moment}
use Rattle.pump_seals.specs.declared.row.Mark.{Mark}
use Rattle.pump_seals.specs.declared.row.SealRow.{SealRow}
use Rattle.pump_seals.specs.declared.sign.Sign.{Sign}
use Rattle.pump_seals.specs.Moments.{MomentsRise, is_before, mark_before, row_before}
use Rattle.pump_seals.specs.Signs.{is_sign, moment_of, moment_if, moments_of, mark_of, mark_if, marks_of, switch_if, switches_of, present_if, gone_if, is_seal, is_present, is_gone}
use Rattle.pump_seals.proofs.MomentOrder.{IsLinear, clash}
use Rattle.pump_seals.proofs.RisingLists.{rise_given}

-- ---- the order of moments

never_before_itself : (d m : ℕ) → (nat_lt d d || (nat_eq d d && nat_lt m m)) ≡ false
never_before_itself d m = grind (arith, nat_tests)

through : (a b c i j k : ℕ) → (nat_lt a b || (nat_eq a b && nat_lt i j)) ≡ true → (nat_lt b c || (nat_eq b c && nat_lt j k)) ≡ true
    → (nat_lt a c || (nat_eq a c && nat_lt i k)) ≡ true
through a b c i j k e f = grind (arith, nat_tests)

same_days : (a b i j : ℕ) → (nat_lt a b || (nat_eq a b && nat_lt i j)) ≡ false → (nat_lt b a || (nat_eq b a && nat_lt j i)) ≡ false → a ≡ b
same_days a b i j e f = grind (arith, nat_tests)

same_minutes : (a b i j : ℕ) → (nat_lt a b || (nat_eq a b && nat_lt i j)) ≡ false → (nat_lt b a || (nat_eq b a && nat_lt j i)) ≡ false → i ≡ j
same_minutes a b i j e f = grind (arith, nat_tests)

moment : ℕ → ℕ → Moment
moment d m = record { day = d; minute = m }

-- moments with the same day and minute are equal
same_moment : (a b : Moment) → a.day ≡ b.day → a.minute ≡ b.minute → a ≡ b
unfolding moment
same_moment a b days minutes = ap (λ d. moment d a.minute) days ∙ ap (λ m. moment b.day m) minutes

pub linear : IsLinear is_before
unfolding is_before
linear = record {
  strict = record {
    irreflexive = λ x. never_before_itself x.day x.minute;
    transitive = λ x y z e f. through x.day y.day z.day x.minute y.minute z.minute e f;
  };
  apart = λ x y e f. same_moment x y (same_days x.day y.day x.minute y.minute e f) (same_minutes x.day y.day x.minute y.minute e f);
}

day_rises : (a b i j day : ℕ) → (nat_lt b a || (nat_eq b a && nat_lt j i)) ≡ false → nat_le b day ≡ true → nat_le a day ≡ true
day_rises a b i j day e f = grind (arith, nat_tests)

day_rises_below : (a b i j day : ℕ) → (nat_lt b a || (nat_eq b a && nat_lt j i)) ≡ false → nat_lt b day ≡ true → nat_lt a day ≡ true
day_rises_below a b i j day e f = grind (arith, nat_tests)

-- the later of two moments does not have an earlier day
pub days_rise : (a b : Moment) (day : ℕ) → is_before b a ≡ false → nat_le b.day day ≡ true → nat_le a.day day ≡ true
unfolding is_before
days_rise a b day e f = day_rises a.day b.day a.minute b.minute day e f

pub days_rise_below : (a b : Moment) (day : ℕ) → is_before b a ≡ false → nat_lt b.day day ≡ true → nat_lt a.day day ≡ true
unfolding is_before
days_rise_below a b day e f = day_rises_below a.day b.day a.minute b.minute day e f

-- ---- events in key order

-- two orderings in sequence, in terms of what they compare
by_parts : (o p rest : Ordering) (a b i j : ℕ) → MatchOrdering o (a < b) (a ≡ b) (b < a) → MatchOrdering p (i < j) (i ≡ j) (j < i)
    → is_lt (ordering_then o (ordering_then p rest)) ≡ true → (nat_lt b a || (nat_eq b a && nat_lt j i)) ≡ false
by_parts Less p rest a b i j days minutes e = grind (arith, nat_tests)
by_parts Equal Less rest a b i j days minutes e = grind (arith, nat_tests)
by_parts Equal Equal rest a b i j days minutes e = grind (arith, nat_tests)
by_parts Equal Greater rest a b i j days minutes e = absurd cc
by_parts Greater p rest a b i j days minutes e = absurd cc

-- the later of two events does not have an earlier moment
not_before : (a b : Event) → is_earlier a.key b.key ≡ true → is_before (moment_of b) (moment_of a) ≡ false
unfolding is_before
not_before a b e =
    by_parts (nat_cmp a.key.day b.key.day) (nat_cmp a.key.minute b.key.minute) _ a.key.day b.key.day a.key.minute b.key.minute
    (ranked a.key.day b.key.day (nat_cmp a.key.day b.key.day) refl) (ranked a.key.minute b.key.minute (nat_cmp a.key.minute b.key.minute) refl) e

all_not_before : (a : Event) (events : List Event) → AllByRecursion (λ b. is_earlier a.key b.key ≡ true) events
    → AllByRecursion (λ b. is_before (moment_of b) (moment_of a) ≡ false) events
all_not_before a [] all = tt
all_not_before a (b ∷ events) all = (not_before a b all.0, all_not_before a events all.1)

events_rise : (events : List Event) → Ascends (λ a b. is_earlier a.key b.key) events → MomentsRise (λ a b. is_before (moment_of a) (moment_of b)) events
events_rise [] ascend = tt
events_rise (e ∷ events) ascend = (all_not_before e events ascend.0, events_rise events ascend.1)

-- a choice between a value and None, if it is a value
given_is : {M : Type 0} (b : Bool) (m n : M) → cond b (Some m) None ≡ Some n → n ≡ m
given_is true m n e = cc
given_is false m n e = absurd cc

-- the moments of the events of a kind are in order
pub moments_rise : (sign : Sign) (events : List Event) → Ascends (λ a b. is_earlier a.key b.key) events → MomentsRise is_before (moments_of sign events)
moments_rise sign events ascend =
    rise_given is_before moment_of (moment_if sign) (λ e m is. given_is (is_sign sign e.what) (moment_of e) m is) events (events_rise events ascend)

-- ---- marks

pub switches_rise : (marks : List Mark) → MomentsRise mark_before marks → MomentsRise mark_before (switches_of marks)
switches_rise marks rise = rise_given mark_before (λ m. m) switch_if (λ m n is. given_is (is_seal m.what) m n is) marks rise

pub failures_rise : (marks : List Mark) → MomentsRise mark_before marks → MomentsRise is_before (filter_map present_if marks)
failures_rise marks rise = rise_given is_before (λ m. m.at) present_if (λ m n is. given_is (is_present m.what) m.at n is) marks rise

pub ends_rise : (marks : List Mark) → MomentsRise mark_before marks → MomentsRise is_before (filter_map gone_if marks)
ends_rise marks rise = rise_given is_before (λ m. m.at) gone_if (λ m n is. given_is (is_gone m.what) m.at n is) marks rise

-- ---- rows

-- of two rows of a component, the later one does not have an earlier moment
of_component : (a b c : ℕ) (earlier : Bool) → (nat_lt b a || (nat_eq b a && earlier)) ≡ false → nat_eq a c ≡ true → nat_eq b c ≡ true → earlier ≡ false
of_component a b c true e f g = grind (arith, nat_tests)
of_component a b c false e f g = refl

-- the conditions under which a row has a mark
mark_parts : (b c : Bool) (m n : Mark) → cond (b && c) (Some m) None ≡ Some n → (b ≡ true) × (n ≡ m)
mark_parts true true m n e = (refl, cc)
mark_parts true false m n e = absurd cc
mark_parts false c m n e = absurd cc

mark_added : (component day : ℕ) (row : SealRow) → nat_eq row.component component ≡ true → (y : SealRow) (rows : List SealRow) (o : Option Mark)
    → mark_if component day y ≡ o → row_before y row ≡ false → AllByRecursion (λ m. mark_before m (mark_of row) ≡ false) (filter_map (mark_if component day) rows)
    → AllByRecursion (λ m. mark_before m (mark_of row) ≡ false) (cons_option o (filter_map (mark_if component day) rows))
unfolding row_before moment
mark_added component day row own y rows None is e all = all
mark_added component day row own y rows (Some m) is e all =
    let parts = mark_parts (nat_eq y.component component) (nat_le y.day day) (mark_of y) m is in
    let same : is_before (moment y.day y.minute) (moment row.day row.minute) ≡ false =
    of_component row.component y.component component (is_before (moment y.day y.minute) (moment row.day row.minute)) e own parts.0 in
    (subst (λ n. mark_before n (mark_of row) ≡ false) (sym parts.1) same, all)

marks_not_before : (component day : ℕ) (row : SealRow) → nat_eq row.component component ≡ true → (rows : List SealRow)
    → AllByRecursion (λ y. row_before y row ≡ false) rows → AllByRecursion (λ m. mark_before m (mark_of row) ≡ false) (filter_map (mark_if component day) rows)
marks_not_before component day row own [] all = tt
marks_not_before component day row own (y ∷ rows) all =
    mark_added component day row own y rows (mark_if component day y) refl all.0 (marks_not_before component day row own rows all.1)

mark_first : (component day : ℕ) (row : SealRow) (rows : List SealRow) (o : Option Mark) → mark_if component day row ≡ o
    → AllByRecursion (λ y. row_before y row ≡ false) rows → MomentsRise mark_before (filter_map (mark_if component day) rows)
    → MomentsRise mark_before (cons_option o (filter_map (mark_if component day) rows))
mark_first component day row rows None is all rise = rise
mark_first component day row rows (Some m) is all rise =
    let parts = mark_parts (nat_eq row.component component) (nat_le row.day day) (mark_of row) m is in (
      subst (λ n. AllByRecursion (λ y. mark_before y n ≡ false) (filter_map (mark_if component day) rows)) (sym parts.1)
          (marks_not_before component day row parts.0 rows all),
      rise,
    )

pub marks_rise : (component day : ℕ) (rows : List SealRow) → MomentsRise row_before rows → MomentsRise mark_before (filter_map (mark_if component day) rows)
marks_rise component day [] rise = tt
marks_rise component day (row ∷ rows) rise = mark_first component day row rows (mark_if component day row) refl rise.0 (marks_rise component day rows rise.1)

none_given : (b c : Bool) (m : Mark) → b ≡ false → cond (b && c) (Some m) None ≡ None
none_given true c m e = clash true refl e
none_given false c m e = refl

below : (a c : ℕ) → nat_lt a c ≡ true → nat_eq a c ≡ false
below a c e = grind (arith, nat_tests)

above : (a c : ℕ) → nat_lt a (c + 1) ≡ false → nat_eq a c ≡ false
above a c e = grind (arith, nat_tests)

component_rises : (a b component : ℕ) (earlier : Bool) → (nat_lt b a || (nat_eq b a && earlier)) ≡ false → nat_lt b component ≡ true → nat_lt a component ≡ true
component_rises a b component true e f = grind (arith, nat_tests)
component_rises a b component false e f = grind (arith, nat_tests)

-- a row of a lower component has no mark for this one, and neither has a row of a higher one
pub none_below : (component day : ℕ) (row : SealRow) → nat_lt row.component component ≡ true → mark_if component day row ≡ None
none_below component day row e = none_given (nat_eq row.component component) (nat_le row.day day) (mark_of row) (below row.component component e)

pub none_above : (component day : ℕ) (row : SealRow) → nat_lt row.component (component + 1) ≡ false → mark_if component day row ≡ None
none_above component day row e = none_given (nat_eq row.component component) (nat_le row.day day) (mark_of row) (above row.component component e)

-- the components do not decrease from row to row
pub components_rise : (component : ℕ) (a b : SealRow) → row_before b a ≡ false → nat_lt b.component component ≡ true → nat_lt a.component component ≡ true
unfolding row_before
components_rise component a b e f = component_rises a.component b.component component _ e f
