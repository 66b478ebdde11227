-- Classes of components, the last one of each day.
use Rattle.std.proofs.Common.{◌≡◌, ℕ, zero, suc, ◌<◌, ◌≤◌, ◌+◌, ◌-◌, Bool, true, false, cond, nat_lt, nat_le, nat_eq, Vec, Option, Some, None, List, [], ◌∷◌, length}
use Rattle.std.proofs.Common.{get_or, set, refl, sym, ap, ◌∙◌, subst, inl, inr, arith}
use Rattle.std.specs.List.{AllByRecursion, AllWithin, insert}
use Rattle.std.specs.Option.{option_map, option_or}
use Rattle.std.specs.Ordering.{is_lt, nat_cmp, ordering_then, MatchOrdering}
use Rattle.std.specs.declared.cmp.Ordering.{Ordering}
use Rattle.std.specs.declared.cmp.Ordering.TheVariants.{Less, Equal, Greater}
use Rattle.std.specs.Vec.{vec_len, vec_capacity}
use Rattle.std.proofs.lemmas.Bool.{cases_Bool, cases_eq, lt-ltb, le-ltb, ltb-true, ltb-false, eq-eqb, ne_eqb}
use Rattle.std.proofs.lemmas.Cmp.{ranked}
use Rattle.list_words.specs.Words.{last_such}
use Rattle.list_words.specs.Order.{later_of, Ascends}
use Rattle.list_words.proofs.Members.{all_weaker}
use Rattle.list_words.proofs.PutLemmas.{last_such-put}
use Rattle.list_words.proofs.WordLemmas.{last_such-cons, option_or-None}
use Rattle.fact_kinds.specs.declared.class.Class.{Class}
use Rattle.fact_kinds.specs.declared.key.Key.{Key}
use Rattle.fact_kinds.specs.Facts.{is_earlier}
use Rattle.fact_kinds.proofs.Cuts.{earlier_day}
use Rattle.fact_kinds.proofs.KeyOrder.{strict_earlier}
use Rattle.fact_store.specs.Lists.{items_in, room_in}
use Rattle.fact_store.proofs.ListLemmas.{value_at-read, value_at-set}
use Rattle.ldar_law.specs.Force.{class_by}
use Rattle.ldar_law.specs.RegisterLaws.{class_first}
use Rattle.ldar_law.proofs.TestLemmas.{ascends_implied}
use Rattle.component_register.specs.Classes.{day_first, later_class, put_by_day, put_if_any, put_day_if_any, IsByDay}

abbrev Entered : Type 0
Entered = Key × Class

-- ---- keys of different days

sooner : (x y : ℕ) (o p : Ordering) → MatchOrdering o (x < y) (x ≡ y) (y < x) → x < y → is_lt (ordering_then o p) ≡ true
sooner x y Less p ranks less = refl
sooner x y Equal p ranks less = absurd (omega (arith, ranks, less))
sooner x y Greater p ranks less = absurd (omega (arith, ranks, less))

earlier_by_day : (a b : Key) → a.day < b.day → is_earlier a b ≡ true
earlier_by_day a b less = sooner a.day b.day (nat_cmp a.day b.day) _ (ranked a.day b.day (nat_cmp a.day b.day) refl) less

no_earlier_by_day : (a b : Key) → b.day < a.day → is_earlier a b ≡ false
no_earlier_by_day a b less = elim (cases_Bool (is_earlier a b)) [
  | inl e ↦ absurd (omega (arith, earlier_day a b e, less))
  | inr f ↦ f
]

-- classes of ascending days are in key order
pub days_ascend : (xs : List Entered) → Ascends day_first xs → Ascends class_first xs
days_ascend = ascends_implied day_first class_first (λ x y less. earlier_by_day x.0 y.0 (ltb-true x.0.day y.0.day less))

-- ---- the days after one more class

-- of its own day, the last class by key stays
put_same : (new x : Entered) (xs : List Entered) → new.0.day ≡ x.0.day → put_by_day new (x ∷ xs) ≡ later_class new x ∷ xs
put_same new x xs same =
    let back = le-ltb new.0.day x.0.day (omega (arith, same)) in
    let past = le-ltb x.0.day new.0.day (omega (arith, same)) in
    elim (cases_Bool (is_earlier new.0 x.0)) [ inl old ↦ rw (old, back, past) refl | inr late ↦ rw (late, back, past) refl ]

same_day : (new x : Entered) → nat_lt new.0.day x.0.day ≡ false → nat_lt x.0.day new.0.day ≡ false → new.0.day ≡ x.0.day
same_day new x e other = omega (arith, ltb-false new.0.day x.0.day e, ltb-false x.0.day new.0.day other)

all_put_by_day : (day : ℕ) (new : Entered) (xs : List Entered) → nat_lt day new.0.day ≡ true → AllByRecursion (λ y. nat_lt day y.0.day ≡ true) xs
    → AllByRecursion (λ y. nat_lt day y.0.day ≡ true) (put_by_day new xs)
all_put_by_day day new [] here all = (here, tt)
all_put_by_day day new (x ∷ xs) here all =
    elim (cases_Bool (nat_lt new.0.day x.0.day)) [
      | inl less ↦ rw less (here, all)
      | inr e ↦ elim (cases_Bool (nat_lt x.0.day new.0.day)) [
        | inl past ↦ rw (e, past) (all.0, all_put_by_day day new xs here all.1)
        | inr other ↦ rw (put_same new x xs (same_day new x e other))
            (elim (cases_Bool (is_earlier new.0 x.0)) [ inl old ↦ rw old all | inr late ↦ rw late (here, all.1) ])
      ]
    ]

put_by_day_ascends : (new : Entered) (xs : List Entered) → Ascends day_first xs → Ascends day_first (put_by_day new xs)
put_by_day_ascends new [] up = (tt, tt)
put_by_day_ascends new (x ∷ xs) up =
    elim (cases_Bool (nat_lt new.0.day x.0.day)) [
      | inl less ↦ rw less (
        (
          less,
          all_weaker (λ y. day_first x y ≡ true) (λ y. day_first new y ≡ true)
              (λ y later. lt-ltb new.0.day y.0.day (omega (arith, ltb-true new.0.day x.0.day less, ltb-true x.0.day y.0.day later))) xs up.0,
        ),
        up,
      )
      | inr e ↦ elim (cases_Bool (nat_lt x.0.day new.0.day)) [
        | inl past ↦ rw (e, past) (all_put_by_day x.0.day new xs past up.0, put_by_day_ascends new xs up.1)
        | inr other ↦ rw (put_same new x xs (same_day new x e other)) (elim (cases_Bool (is_earlier new.0 x.0)) [
          | inl old ↦ rw old up
          | inr late ↦ rw late (subst (λ day. AllByRecursion (λ y. nat_lt day y.0.day ≡ true) xs) (sym (same_day new x e other)) up.0, up.1)
        ])
      ]
    ]

-- ---- what is in force after one more class

module _ (p : Entered → Bool) where
  later_step : (x y : Entered) (b : Bool) (o : Option Entered) → class_first x y ≡ true → option_or o (Some x) ≡ later_of class_first x o
      → option_or (option_or o (cond b (Some y) None)) (Some x) ≡ later_of class_first x (option_or o (cond b (Some y) None))
  later_step x y true None e same = rw e refl
  later_step x y false None e same = refl
  later_step x y b (Some z) e same = same

  -- the last of later classes that passes is later
  later_than : (x : Entered) (xs : List Entered) → AllByRecursion (λ y. class_first x y ≡ true) xs
      → option_or (last_such p xs) (Some x) ≡ later_of class_first x (last_such p xs)
  later_than x [] all = refl
  later_than x (y ∷ ys) all = rw (last_such-cons p y ys) (later_step x y (p y) (last_such p ys) all.0 (later_than x ys all.1))

  -- the later of a class and a choice with an earlier one
  later_past : (x y : Entered) (b : Bool) (o : Option Entered) → class_first x y ≡ false
      → option_or (later_of class_first x o) (cond b (Some y) None) ≡ later_of class_first x (option_or o (cond b (Some y) None))
  later_past x y true None e = rw e refl
  later_past x y false None e = refl
  later_past x y b (Some z) e = elim (cases_Bool (class_first x z)) [ inl back ↦ rw back refl | inr front ↦ rw front refl ]

  -- the later of two classes of one day, and a later choice
  later_same : (new x : Entered) (o : Option Entered) → option_or o (Some new) ≡ later_of class_first new o
      → option_or o (Some (later_class new x)) ≡ later_of class_first new (option_or o (Some x))
  later_same new x None later = elim (cases_Bool (is_earlier new.0 x.0)) [ inl old ↦ rw old refl | inr late ↦ rw late refl ]
  later_same new x (Some z) later = later

-- the last class by a day after one more: the new one or the old one, whichever is later
put_in_force : (day : ℕ) (new : Entered) (xs : List Entered) → Ascends day_first xs
    → class_by day (put_by_day new xs) ≡ cond (nat_le new.0.day day) (later_of class_first new (class_by day xs)) (class_by day xs)
put_in_force day new [] up = refl
put_in_force day new (x ∷ xs) up =
    let p : Entered → Bool = λ e. nat_le e.0.day day in
    elim (cases_Bool (nat_lt new.0.day x.0.day)) [
      | inl less ↦
          let all : AllByRecursion (λ y. class_first new y ≡ true) (x ∷ xs) = (
            earlier_by_day new.0 x.0 (ltb-true new.0.day x.0.day less),
            all_weaker (λ y. day_first x y ≡ true) (λ y. class_first new y ≡ true)
                (λ y later. earlier_by_day new.0 y.0 (omega (arith, ltb-true new.0.day x.0.day less, ltb-true x.0.day y.0.day later))) xs up.0,
          ) in
          rw less (last_such-cons p new (x ∷ xs)
          ∙ elim (cases_Bool (p new)) [
            | inl come ↦ rw come (later_than p new (x ∷ xs) all)
            | inr not_come ↦ rw not_come (option_or-None (last_such p (x ∷ xs)))
          ])
      | inr e ↦ elim (cases_Bool (nat_lt x.0.day new.0.day)) [
        | inl past ↦ rw (e, past, last_such-cons p x (put_by_day new xs), last_such-cons p x xs, put_in_force day new xs up.1)
            (elim (cases_Bool (p new)) [
              | inl come ↦ rw come (later_past p new x (p x) (last_such p xs) (no_earlier_by_day new.0 x.0 (ltb-true x.0.day new.0.day past)))
              | inr not_come ↦ rw not_come refl
            ])
        | inr other ↦
            let same = same_day new x e other in
            let all : AllByRecursion (λ y. class_first new y ≡ true) xs =
            all_weaker (λ y. day_first x y ≡ true) (λ y. class_first new y ≡ true)
            (λ y later. earlier_by_day new.0 y.0 (omega (arith, same, ltb-true x.0.day y.0.day later))) xs up.0 in
            let here : p (later_class new x) ≡ p new =
            elim (cases_Bool (is_earlier new.0 x.0)) [ inl old ↦ rw (old, same) refl | inr late ↦ rw late refl ] in
            let old_here : p x ≡ p new = rw same refl in
            rw (put_same new x xs same, last_such-cons p (later_class new x) xs, last_such-cons p x xs, here, old_here)
            (elim (cases_Bool (p new)) [
              | inl come ↦ rw come (later_same p new x (last_such p xs) (later_than p new xs all))
              | inr not_come ↦ rw not_come refl
            ])
      ]
    ]

-- one class a day is in force as all are, after one more of each
pub by_day_more : (new : Option Entered) (kept all : List Entered) → Ascends class_first all → IsByDay kept all
    → IsByDay (put_day_if_any new kept) (put_if_any class_first new all)
by_day_more None kept all up by = by
by_day_more (Some new) kept all up by =
    record {
      days = put_by_day_ascends new kept by.days;
      in_force = λ day. put_in_force day new kept by.days
          ∙ ap (λ o. cond (nat_le new.0.day day) (later_of class_first new o) o) (by.in_force day)
          ∙ sym (last_such-put class_first (strict_earlier (λ z. z.0)) (λ e. nat_le e.0.day day) new all up);
    }

-- ---- where the code puts a class

module _ (new : Entered) where
  abbrev IsSooner : List Entered → ℕ → Type 0
  IsSooner xs n = AllWithin (λ e. nat_lt e.0.day new.0.day ≡ true) xs 0 n

  -- past classes of earlier days, where the next one is of the same day
  pub put_over : (xs : List Entered) (n : ℕ) (x : Entered) → n < length xs → IsSooner xs n → x ≡ get_or xs n x → x.0.day ≡ new.0.day
      → put_by_day new xs ≡ set xs n (later_class new x)
  put_over [] n x within front is same = absurd (omega arith)
  put_over (y ∷ ys) zero x within front is same =
      subst (λ z. put_by_day new (z ∷ ys) ≡ later_class new x ∷ ys) is (put_same new x ys (sym same))
  put_over (y ∷ ys) (suc n) x within front is same =
      let less = front 0 y (omega arith) (omega arith) in
      rw (le-ltb new.0.day y.0.day (omega (arith, ltb-true y.0.day new.0.day less)), less)
      (ap (λ zs. y ∷ zs) (put_over ys n x (omega arith) (λ k d low high. front (suc k) d (omega arith) (omega arith)) is same))

  -- .. and where no class is of the day
  pub put_between : (xs : List Entered) (n : ℕ) → n ≤ length xs → IsSooner xs n
      → ((x : Entered) → n < length xs → x ≡ get_or xs n x → new.0.day < x.0.day) → put_by_day new xs ≡ insert xs n new
  put_between [] zero within front later = refl
  put_between [] (suc n) within front later = absurd (omega arith)
  put_between (y ∷ ys) zero within front later = rw (lt-ltb new.0.day y.0.day (later y (omega arith) refl)) refl
  put_between (y ∷ ys) (suc n) within front later =
      let less = front 0 y (omega arith) (omega arith) in
      rw (le-ltb new.0.day y.0.day (omega (arith, ltb-true y.0.day new.0.day less)), less)
      (ap (λ zs. y ∷ zs) (put_between ys n (omega arith) (λ k d low high. front (suc k) d (omega arith) (omega arith))
      (λ x inside is. later x (omega arith) is)))

-- ---- a list of one component

-- the list of one number is written
pub puts_day : {Z : Type 0} (lists : List (Vec Entered Z)) (number : ℕ) (new : Entered) (old list : Vec Entered Z) → number < length lists
    → old ≡ get_or lists number old → list.items ≡ put_by_day new old.items → vec_capacity old - vec_len old ≤ vec_capacity list - vec_len list + 1
    → (n : ℕ) → (items_in (set lists number list) n ≡ put_day_if_any (cond (nat_eq number n) (Some new) None) (items_in lists n))
    × (room_in lists n ≤ room_in (set lists number list) n + cond (nat_eq number n) 1 0)
puts_day lists number new old list within read items room n =
    let here : items_in lists number ≡ old.items = value_at-read (λ v. v.items) [] lists number old within read in
    let had : room_in lists number ≡ vec_capacity old - vec_len old = value_at-read (λ v. vec_capacity v - vec_len v) 0 lists number old within read in (
      rw (value_at-set (λ v. v.items) [] lists number list n within)
          (elim (cases_eq number n) [
            | inl e ↦ rw (eq-eqb number n e, sym e, here) items
            | inr other ↦ rw (ne_eqb number n other) refl
          ]),
      rw (value_at-set (λ v. vec_capacity v - vec_len v) 0 lists number list n within)
          (elim (cases_eq number n) [
            | inl e ↦ rw (eq-eqb number n e, sym e, had) room
            | inr other ↦ rw (ne_eqb number n other) (omega arith)
          ]),
    )

-- the class of a component, by its number
pub entered_is : (number n : ℕ) (new : Entered)
    → cond (nat_eq number n) (Some new) None ≡ option_map (λ class. (new.0, class)) (cond (nat_eq number n) (Some new.1) None)
entered_is number n new =
    elim (cases_eq number n) [
      | inl e ↦ rw (eq-eqb number n e) refl
      | inr other ↦ rw (ne_eqb number n other) refl
    ]
