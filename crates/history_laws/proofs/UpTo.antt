use Rattle.std.proofs.Common.{◌≡◌, ℕ, Bool, true, false, not, cond, nat_le, Option, Some, None, List, [], ◌∷◌, filter, slice_get}
use Rattle.std.proofs.Common.{refl, sym, ap, ◌∙◌, inl, inr}
use Rattle.std.specs.Prelude.{find, option_and_then}
use Rattle.std.specs.List.{AllByRecursion, filter_map, cons_option}
use Rattle.std.proofs.lemmas.Bool.{cases_Bool}
use Rattle.list_words.proofs.Ascending.{not_behind}
use Rattle.list_words.proofs.CutLemmas.{filter_none, filter_all, take_while-cons}
use Rattle.list_words.proofs.Members.{all_weaker}
use Rattle.fact_kinds.specs.Facts.{Entry, goes_first, entries_of, facts_of}
use Rattle.fact_kinds.proofs.KeyOrder.{strict_goes_first}
use Rattle.std.specs.List.{flat_map}
use Rattle.ldar_law.proofs.RegisterLemmas.{day_of_later}
pub use Rattle.ldar_law.proofs.SpansByDayLemmas.{past_day}
use Rattle.ldar_law.proofs.WeakOrder.{InOrder, each_in_order, weak_goes_first}
use Rattle.history_laws.specs.DayLaws.{up_to, AreInOrder, HistoryIsInOrder, AscendingAreInOrder, PartIsInOrder, PartUpToADay, FactsAreCut}

-- ---- facts in order

-- the order of `ldar_law` implies the order of these laws
pub from_in_order : (facts : List Entry) → InOrder goes_first facts → AreInOrder facts
from_in_order [] o = tt
from_in_order (e ∷ es) o = (o.0, from_in_order es o.1)

-- the order of these laws implies the order of `ldar_law`
pub to_in_order : (facts : List Entry) → AreInOrder facts → InOrder goes_first facts
to_in_order [] o = tt
to_in_order (e ∷ es) o = (o.0, to_in_order es o.1)

pub history_is_in_order : HistoryIsInOrder
history_is_in_order history = from_in_order (facts_of history) (each_in_order goes_first weak_goes_first (flat_map entries_of history))

pub ascending_are_in_order : AscendingAreInOrder
ascending_are_in_order [] up = tt
ascending_are_in_order (e ∷ es) up = (
  all_weaker (λ x. goes_first e x ≡ true) (λ x. goes_first x e ≡ false) (λ x first. not_behind goes_first strict_goes_first e x first) es up.0,
  ascending_are_in_order es up.1,
)

-- a property of all elements, for a part of them
pub all_of_part : {X : Type 0} (P : X → Type 0) (q : X → Bool) (xs : List X) → AllByRecursion P xs → AllByRecursion P (filter q xs)
all_of_part P q [] all = tt
all_of_part P q (x ∷ xs) all =
    elim (cases_Bool (q x)) [ inl t ↦ rw t (all.0, all_of_part P q xs all.1) | inr f ↦ rw f (all_of_part P q xs all.1) ]

pub part_is_in_order : PartIsInOrder
part_is_in_order [] q o = tt
part_is_in_order (e ∷ es) q o =
    elim (cases_Bool (q e)) [
      | inl t ↦ rw t (all_of_part (λ x. goes_first x e ≡ false) q es o.0, part_is_in_order es q o.1)
      | inr f ↦ rw f (part_is_in_order es q o.1)
    ]

-- ---- parts of parts

-- two tests of a list can be swapped
pub filter_swap : {X : Type 0} (p q : X → Bool) (xs : List X) → filter p (filter q xs) ≡ filter q (filter p xs)
filter_swap p q [] = refl
filter_swap p q (x ∷ xs) =
    elim (cases_Bool (p x)) [
      | inl t ↦ elim (cases_Bool (q x)) [
        | inl u ↦ rw (t, u, t) (ap (λ ys. x ∷ ys) (filter_swap p q xs))
        | inr g ↦ rw (t, g) (filter_swap p q xs)
      ]
      | inr f ↦ elim (cases_Bool (q x)) [
        | inl u ↦ rw (f, u, f) (filter_swap p q xs)
        | inr g ↦ rw (f, g) (filter_swap p q xs)
      ]
    ]

-- values of the elements that pass, if a test of the value agrees with the test of the element
module _ {X : Type 0} (f : Entry → Option X) (q : Entry → Bool) (d : X → Bool) where
  -- the value of an element that passes
  kept : (o : Option X) (xs ys : List X) → ((x : X) → o ≡ Some x → d x ≡ true) → xs ≡ filter d ys → cons_option o xs ≡ filter d (cons_option o ys)
  kept None xs ys h e = e
  kept (Some x) xs ys h e = rw (h x refl) (ap (λ zs. x ∷ zs) e)

  -- the value of an element that fails
  left_out : (o : Option X) (xs ys : List X) → ((x : X) → o ≡ Some x → d x ≡ false) → xs ≡ filter d ys → xs ≡ filter d (cons_option o ys)
  left_out None xs ys h e = e
  left_out (Some x) xs ys h e = rw (h x refl) e

  -- all values of the elements that pass
  pub given_where : (es : List Entry) → AllByRecursion (λ e. (x : X) → f e ≡ Some x → d x ≡ q e) es → filter_map f (filter q es) ≡ filter d (filter_map f es)
  given_where [] all = refl
  given_where (e ∷ es) all =
      elim (cases_Bool (q e)) [
        | inl t ↦ rw t (kept (f e) (filter_map f (filter q es)) (filter_map f es) (λ x is. all.0 x is ∙ t) (given_where es all.1))
        | inr u ↦ rw u (left_out (f e) (filter_map f (filter q es)) (filter_map f es) (λ x is. all.0 x is ∙ u) (given_where es all.1))
      ]

-- functions that agree on elements that pass give the same values of them
pub given_alike_where : {X Y : Type 0} (f g : X → Option Y) (q : X → Bool) → ((x : X) → q x ≡ true → f x ≡ g x) → (xs : List X)
    → filter_map f (filter q xs) ≡ filter_map g (filter q xs)
given_alike_where f g q same [] = refl
given_alike_where f g q same (x ∷ xs) =
    elim (cases_Bool (q x)) [
      | inl t ↦ rw t (rw (same x t, given_alike_where f g q same xs) refl)
      | inr u ↦ rw u (given_alike_where f g q same xs)
    ]

-- ---- the first of facts in order, and the first of those up to a day

-- after a fact of a later day, all facts are of later days
all_late : (t : ℕ) (e : Entry) (es : List Entry) → nat_le e.0.day t ≡ false → AllByRecursion (λ x. goes_first x e ≡ false) es
    → AllByRecursion (λ x. nat_le x.0.day t ≡ false) es
all_late t e es out later =
    all_weaker (λ x. goes_first x e ≡ false) (λ x. nat_le x.0.day t ≡ false)
    (λ x h. past_day t e.0.day x.0.day (day_of_later x.0 e.0 h) out) es later

-- after a fact of a later day, no fact is up to the day
none_up_to : (t : ℕ) (e : Entry) (es : List Entry) → nat_le e.0.day t ≡ false → AllByRecursion (λ x. goes_first x e ≡ false) es → up_to t es ≡ []
none_up_to t e es out later = filter_none (λ x. nat_le x.0.day t) es (all_late t e es out later)

module _ {X : Type 0} (f : Entry → Option X) (day : X → ℕ) (dated : (e : Entry) (x : X) → f e ≡ Some x → day x ≡ e.0.day) (t : ℕ) where
  -- the value, if its day is not after t
  abbrev pub if_due : X → Option X
  if_due x = cond (nat_le (day x) t) (Some x) None

  -- the value of a fact of a later day is not up to the day
  first_late : (o : Option X) (e : Entry) (rest : List X) → ((x : X) → o ≡ Some x → day x ≡ e.0.day) → nat_le e.0.day t ≡ false
      → option_and_then if_due (slice_get rest 0) ≡ None → option_and_then if_due (slice_get (cons_option o rest) 0) ≡ None
  first_late None e rest is out none = none
  first_late (Some x) e rest is out none = rw (is x refl, out) refl

  -- no value of facts of later days is up to the day
  none_in_time : (es : List Entry) → AllByRecursion (λ x. nat_le x.0.day t ≡ false) es → option_and_then if_due (slice_get (filter_map f es) 0) ≡ None
  none_in_time [] all = refl
  none_in_time (e ∷ es) all = first_late (f e) e (filter_map f es) (dated e) all.0 (none_in_time es all.1)

  -- the value of the first fact
  first_in_time : (o : Option X) (e : Entry) (xs ys : List X) → ((x : X) → o ≡ Some x → day x ≡ e.0.day) → nat_le e.0.day t ≡ true
      → slice_get xs 0 ≡ option_and_then if_due (slice_get ys 0) → slice_get (cons_option o xs) 0 ≡ option_and_then if_due (slice_get (cons_option o ys) 0)
  first_in_time None e xs ys is within same = same
  first_in_time (Some x) e xs ys is within same = rw (is x refl, within) refl

  -- the first value of the facts up to a day
  pub first_up_to : (es : List Entry) → AreInOrder es → slice_get (filter_map f (up_to t es)) 0 ≡ option_and_then if_due (slice_get (filter_map f es) 0)
  first_up_to [] o = refl
  first_up_to (e ∷ es) o =
      elim (cases_Bool (nat_le e.0.day t)) [
        | inl within ↦ rw within (first_in_time (f e) e (filter_map f (up_to t es)) (filter_map f es) (dated e) within (first_up_to es o.1))
        | inr out ↦ rw (out, none_up_to t e es out o.0) (sym (none_in_time (e ∷ es) (out, all_late t e es out o.0)))
      ]

  -- a value has the day of its fact
  each_dated : (es : List Entry) → AllByRecursion (λ e. (x : X) → f e ≡ Some x → nat_le (day x) t ≡ nat_le e.0.day t) es
  each_dated [] = tt
  each_dated (e ∷ es) = (λ x is. ap (λ n. nat_le n t) (dated e x is), each_dated es)

  -- all values of the facts up to a day
  pub given_up_to : (es : List Entry) → filter_map f (up_to t es) ≡ filter (λ x. nat_le (day x) t) (filter_map f es)
  given_up_to es = given_where f (λ e. nat_le e.0.day t) (λ x. nat_le (day x) t) es (each_dated es)

module _ (p : Entry → Bool) (t : ℕ) where
  -- a fact, if its day is not after t
  abbrev fact_due : Entry → Option Entry
  fact_due e = cond (nat_le e.0.day t) (Some e) None

  -- a fact that passes on a later day is not up to the day
  none_found : (es : List Entry) → AllByRecursion (λ x. nat_le x.0.day t ≡ false) es → option_and_then fact_due (find p es) ≡ None
  none_found [] all = refl
  none_found (e ∷ es) all =
      elim (cases_Bool (p e)) [
        | inl here ↦ rw (here, all.0) refl
        | inr other ↦ rw other (none_found es all.1)
      ]

  -- the first fact that passes
  pub found_up_to : (es : List Entry) → AreInOrder es → find p (up_to t es) ≡ option_and_then fact_due (find p es)
  found_up_to [] o = refl
  found_up_to (e ∷ es) o =
      elim (cases_Bool (nat_le e.0.day t)) [
        | inl within ↦ elim (cases_Bool (p e)) [
          | inl here ↦ rw (within, here, within) refl
          | inr other ↦ rw (within, other) (found_up_to es o.1)
        ]
        | inr out ↦ rw (out, none_up_to t e es out o.0) (sym (none_found (e ∷ es) (out, all_late t e es out o.0)))
      ]

-- ---- the cut of facts

pub part_up_to_a_day : PartUpToADay
part_up_to_a_day t facts test = filter_swap test (λ e. nat_le e.0.day t) facts

pub facts_are_cut : FactsAreCut
facts_are_cut t [] o = record { front = refl; whole = refl }
facts_are_cut t (e ∷ es) o =
    elim (cases_Bool (nat_le e.0.day t)) [
      | inl within ↦
          let rest = facts_are_cut t es o.1 in
          record {
            front = rw (take_while-cons (λ x. nat_le x.0.day t) e es, within) (ap (λ ys. e ∷ ys) rest.front);
            whole = rw within (ap (λ ys. e ∷ ys) rest.whole);
          }
      | inr out ↦
          let late = all_late t e es out o.0 in
          record {
            front = rw (take_while-cons (λ x. nat_le x.0.day t) e es, out) (none_up_to t e es out o.0);
            whole = rw (out, none_up_to t e es out o.0)
                (ap (λ ys. e ∷ ys) (filter_all (λ x. not (nat_le x.0.day t)) es
                (all_weaker (λ x. nat_le x.0.day t ≡ false) (λ x. not (nat_le x.0.day t) ≡ true) (λ x f. ap not f) es late)));
          }
    ]
