-- The events of a period, found by binary search.
use Rattle.std.proofs.Common.{◌≡◌, ℕ, zero, suc, ◌≤◌, ◌<◌, Bool, true, false, not, ◌&&◌}
use Rattle.std.proofs.Common.{◌||◌, cond, nat_le, nat_lt, ◌-◌, Option, Some, None, option_map, List, [], ◌∷◌}
use Rattle.std.proofs.Common.{length, take, drop, filter, find, refl, sym, ap, ◌∙◌, inl, inr, arith}
use Rattle.std.specs.List.Sorted.{IsPartitionPoint}
use Rattle.std.specs.List.{AllByRecursion}
use Rattle.std.proofs.lemmas.Bool.{cases_Bool, cases_lt, le-leb, lt-leb, lt-ltb, le-ltb}
use Rattle.std.proofs.lemmas.Bool.Decides.{nat_tests}
use Rattle.std.proofs.lemmas.List.Elements.{filter_agree}
use Rattle.std.proofs.lemmas.List.{take_all, length-drop}
use Rattle.list_words.specs.Order.{Ascends}
use Rattle.list_words.proofs.Members.{all_weaker}
use Rattle.fact_kinds.specs.Facts.{is_earlier}
use Rattle.fact_kinds.proofs.Cuts.{earlier_day}
use Rattle.ldar_law.specs.declared.event.Event.{Event}
use Rattle.monitor_calendar.specs.Following.{comes_by, key_by}

-- before a partition point all elements pass, and from it on all fail
pub sides_of_point : {X : Type 0} (p : X → Bool) (xs : List X) (n : ℕ) → IsPartitionPoint (λ y. p y ≡ true) (λ y. p y ≡ false) xs n → n ≤ length xs →
    (take n xs ≡ filter p xs) × (drop n xs ≡ filter (λ x. not (p x)) xs)
sides_of_point p [] zero parts le = (refl, refl)
sides_of_point p [] (suc n) parts le = absurd (omega arith)
sides_of_point p (x ∷ xs) zero parts le =
    let fails : p x ≡ false = parts.1 0 x (omega arith) (omega arith) in
    let rest = sides_of_point p xs zero
    ((λ k d low high. absurd (omega (arith, low, high))), (λ k d low high. parts.1 (suc k) d (omega arith) (omega (arith, high))))
    (omega arith) in
    (rw fails rest.0, rw fails (ap (λ ys. x ∷ ys) rest.1))
sides_of_point p (x ∷ xs) (suc n) parts le =
    let passes : p x ≡ true = parts.0 0 x (omega arith) (omega arith) in
    let rest = sides_of_point p xs n
    ((λ k d low high. parts.0 (suc k) d (omega arith) (omega (arith, high))), (λ k d low high. parts.1 (suc k) d (omega (arith, low)) (omega (arith, high))))
    (omega (arith, le)) in
    (rw passes (ap (λ ys. x ∷ ys) rest.0), rw passes rest.1)

-- a day that is not before another is at or after it
not_before : (a b : ℕ) → not (nat_lt a b) ≡ nat_le b a
not_before a b = grind (arith, nat_tests)

-- the events after those before a day are those from the day on
pub from_day : (events : List Event) (first n : ℕ) → IsPartitionPoint (λ e. nat_lt e.key.day first ≡ true) (λ e. nat_lt e.key.day first
    ≡ false) events n → n ≤ length events →
    drop n events ≡ filter (λ e. nat_le first e.key.day) events
from_day events first n parts le =
    (sides_of_point (λ e. nat_lt e.key.day first) events n parts le).1
    ∙ filter_agree (λ e. not (nat_lt e.key.day first)) (λ e. nat_le first e.key.day) (λ e. not_before e.key.day first) events

-- two tests of a list, one after the other
pub filter_twice : {X : Type 0} (p q : X → Bool) (xs : List X) → filter q (filter p xs) ≡ filter (λ x. p x && q x) xs
filter_twice p q [] = refl
filter_twice p q (x ∷ xs) =
    elim (cases_Bool (p x)) [
      | inl t ↦ rw t (ap (λ ys. cond (q x) (x ∷ ys) ys) (filter_twice p q xs))
      | inr f ↦ rw f (filter_twice p q xs)
    ]

-- the first of the elements that pass a test
pub find_among : {X : Type 0} (p q : X → Bool) (xs : List X) → find p (filter q xs) ≡ find (λ x. p x && q x) xs
find_among p q [] = refl
find_among p q (x ∷ xs) =
    elim (cases_Bool (q x)) [
      | inl t ↦ elim (cases_Bool (p x)) [ inl s ↦ rw (t, s) refl | inr f ↦ rw (t, f) (find_among p q xs) ]
      | inr f ↦ elim (cases_Bool (p x)) [ inl s ↦ rw (f, s) (find_among p q xs) | inr g ↦ rw (f, g) (find_among p q xs) ]
    ]

-- the part of a list from a place to its end
pub to_end : {X : Type 0} (xs : List X) (n : ℕ) → take (length xs - n) (drop n xs) ≡ drop n xs
to_end xs n = take_all (length xs - n) (drop n xs) (omega (arith, length-drop n xs))

-- ---- the first up to a day

-- an event is up to a day or not
comes : (e : Event) (last : ℕ) → nat_le e.key.day last ≡ true → comes_by (Some e) last ≡ Some e
comes e last by = rw by refl

comes_late : (e : Event) (last : ℕ) → nat_le e.key.day last ≡ false → comes_by (Some e) last ≡ None
comes_late e last late = rw late refl

-- the key of an event is up to a day or not
pub key_of_by : (found : Option Event) (last : ℕ) → option_map (λ e. e.key) (comes_by found last) ≡ key_by (option_map (λ e. e.key) found) last
key_of_by None last = refl
key_of_by (Some e) last = elim (cases_Bool (nat_le e.key.day last)) [ inl by ↦ rw by refl | inr late ↦ rw late refl ]

-- no event is up to a day if all are later
none_by_day : (last : ℕ) (events : List Event) → AllByRecursion (λ e. last < e.key.day) events → filter (λ e. nat_le e.key.day last) events ≡ []
none_by_day last [] all = refl
none_by_day last (e ∷ es) all = rw (lt-leb e.key.day last all.0) (none_by_day last es all.1)

-- the first event that passes or is later decides which is the first that passes up to the day
pub first_by : (p : Event → Bool) (last : ℕ) (events : List Event) → Ascends (λ a b. is_earlier a.key b.key) events →
    comes_by (find (λ e. nat_lt last e.key.day || p e) events) last ≡ find p (filter (λ e. nat_le e.key.day last) events)
first_by p last [] up = refl
first_by p last (e ∷ es) up =
    let q : Event → Bool = λ x. nat_lt last x.key.day || p x in
    let by : Event → Bool = λ x. nat_le x.key.day last in
    elim (cases_lt last e.key.day) [
      | inl late ↦
          let found : find q (e ∷ es) ≡ Some e = rw (lt-ltb last e.key.day late) refl in
          let others = none_by_day last es (all_weaker (λ y. is_earlier e.key y.key ≡ true) (λ y. last < y.key.day)
          (λ y earlier. omega (arith, late, earlier_day e.key y.key earlier)) es up.0) in
          let left : filter by (e ∷ es) ≡ [] = rw (lt-leb e.key.day last late) others in
          ap (λ o. comes_by o last) found ∙ comes_late e last (lt-leb e.key.day last late) ∙ sym (ap (find p) left)
      | inr soon ↦
          let left : filter by (e ∷ es) ≡ e ∷ filter by es = rw (le-leb e.key.day last soon) refl in
          elim (cases_Bool (p e)) [
            | inl passes ↦
                let found : find q (e ∷ es) ≡ Some e = rw (le-ltb last e.key.day soon, passes) refl in
                let first : find p (e ∷ filter by es) ≡ Some e = rw passes refl in
                ap (λ o. comes_by o last) found ∙ comes e last (le-leb e.key.day last soon) ∙ sym (ap (find p) left ∙ first)
            | inr fails ↦
                let over : find q (e ∷ es) ≡ find q es = rw (le-ltb last e.key.day soon, fails) refl in
                let first : find p (e ∷ filter by es) ≡ find p (filter by es) = rw fails refl in
                ap (λ o. comes_by o last) over ∙ first_by p last es up.1 ∙ sym (ap (find p) left ∙ first)
          ]
    ]
