use Rattle.std.proofs.Common.{◌≡◌, ℕ, ◌+◌, ◌≤◌, Bool, true, false, cond, Option, Some, None, List, [], ◌∷◌, slice_get, count_by, refl, sym, ap, ◌∙◌}
use Rattle.std.proofs.Common.{inl, inr, ◌⊎◌, arith}
use Rattle.std.specs.List.{AllByRecursion, list_any, filter_map, cons_option}
use Rattle.std.specs.Option.{option_or, option_map}
use Rattle.std.specs.Prelude.{find}
use Rattle.std.proofs.lemmas.Bool.{cases_Bool, cases_lt, or_parts, le-leb, lt-leb}
use Rattle.std.proofs.lemmas.List.Sums.{sum_by-cons}
use Rattle.list_words.specs.Order.{put_in_order, Ascends}
use Rattle.list_words.proofs.Ascending.{before_all}
use Rattle.list_words.proofs.Members.{all_weaker}
use Rattle.fact_kinds.specs.Facts.{Entry, goes_first}
use Rattle.fact_kinds.proofs.Cuts.{earlier_day as day_of_earlier}
use Rattle.fact_kinds.proofs.KeyOrder.{strict_goes_first}
use Rattle.ldar_law.proofs.RegisterLemmas.{day_of_later}
use Rattle.component_register.specs.Slots.{earlier_day}

-- ---- what the first of some facts gives, after one more

module _ {X : Type 0} (f : Entry → Option X) where
  -- a fact that gives nothing changes nothing
  given-put_none : (e : Entry) → f e ≡ None → (es : List Entry) → filter_map f (put_in_order goes_first e es) ≡ filter_map f es
  given-put_none e none [] = rw none refl
  given-put_none e none (x ∷ xs) =
      elim (cases_Bool (goes_first e x)) [
        | inl t ↦ rw (t, none) refl
        | inr t ↦ rw t (ap (λ ys. cons_option (f x) ys) (given-put_none e none xs))
      ]

  none_first : (o : Option X) (ys : List X) → cons_option o ys ≡ [] → (o ≡ None) × (ys ≡ [])
  none_first None ys e = (refl, e)
  none_first (Some y) ys e = absurd cc

  -- where none gives anything, the one more does
  given-put_alone : (e : Entry) (es : List Entry) → filter_map f es ≡ [] → filter_map f (put_in_order goes_first e es) ≡ cons_option (f e) []
  given-put_alone e [] none = refl
  given-put_alone e (x ∷ xs) none =
      let parts = none_first (f x) (filter_map f xs) none in
      elim (cases_Bool (goes_first e x)) [
        | inl t ↦ rw (t, parts.0, parts.1) refl
        | inr t ↦ rw (t, parts.0) (given-put_alone e xs parts.1)
      ]

  no_first : (ys : List X) → slice_get ys 0 ≡ None → ys ≡ []
  no_first [] e = refl
  no_first (y ∷ ys) e = absurd cc

  head_of : (o : Option X) → slice_get (cons_option o []) 0 ≡ option_or o None
  head_of None = refl
  head_of (Some y) = refl

  -- what the first gives, where one more fact gives something or the others do
  pub first-put : (e : Entry) (es : List Entry) → (f e ≡ None) ⊎ (slice_get (filter_map f es) 0 ≡ None)
      → slice_get (filter_map f (put_in_order goes_first e es)) 0 ≡ option_or (f e) (slice_get (filter_map f es) 0)
  first-put e es (inl none) = rw (given-put_none e none es, none) refl
  first-put e es (inr none) = rw (given-put_alone e es (no_first (filter_map f es) none), none) (head_of (f e))

-- ---- how many facts pass, after one more

module _ (p : Entry → Bool) where
  pub count-put : (e : Entry) (es : List Entry) → count_by p (put_in_order goes_first e es) ≡ cond (p e) 1 0 + count_by p es
  count-put e [] = sum_by-cons (λ x. cond (p x) 1 0) e []
  count-put e (x ∷ xs) =
      elim (cases_Bool (goes_first e x)) [
        | inl t ↦ rw t (sum_by-cons (λ y. cond (p y) 1 0) e (x ∷ xs))
        | inr t ↦ rw t (
            let first = sum_by-cons (λ y. cond (p y) 1 0) x (put_in_order goes_first e xs) in
            let rest = sum_by-cons (λ y. cond (p y) 1 0) x xs in
            let more = count-put e xs in
            omega (arith, first, rest, more))
      ]

  pub count_none : (es : List Entry) → list_any p es ≡ false → count_by p es ≡ 0
  count_none [] none = refl
  count_none (x ∷ xs) none =
      let parts = or_parts (p x) (list_any p xs) none in
      let split : count_by p (x ∷ xs) ≡ cond (p x) 1 0 + count_by p xs = sum_by-cons (λ y. cond (p y) 1 0) x xs in
      let rest = count_none xs parts.1 in
      split ∙ rw (parts.0, rest) refl

  -- what passed at most once does so still, where either the one more fails or none passed
  pub once-put : (e : Entry) (es : List Entry) → (p e ≡ false) ⊎ (list_any p es ≡ false) → count_by p es ≤ 1
      → count_by p (put_in_order goes_first e es) ≤ 1
  once-put e es (inl fails) few =
      let more : count_by p (put_in_order goes_first e es) ≡ 0 + count_by p es = rw fails at (count-put e es) in omega (arith, more, few)
  once-put e es (inr none) few =
      elim (cases_Bool (p e)) [
        | inl t ↦ let more : count_by p (put_in_order goes_first e es) ≡ 1 + count_by p es = rw t at (count-put e es) in omega (arith, more, count_none es none)
        | inr t ↦ let more : count_by p (put_in_order goes_first e es) ≡ 0 + count_by p es = rw t at (count-put e es) in omega (arith, more, few)
      ]

-- ---- the first day of facts that pass, after one more

-- the earlier of a day and one that is no earlier
stays_earlier : (day first : ℕ) → day ≤ first → earlier_day day (Some first) ≡ Some day
stays_earlier day first le =
    elim (cases_lt day first) [
      | inl after ↦ rw (lt-leb first day after) refl
      | inr back ↦ let same : first ≡ day = omega (arith, le, back) in rw (le-leb first day back) (ap Some same)
    ]

turns_earlier : (day first : ℕ) → first ≤ day → earlier_day day (Some first) ≡ Some first
turns_earlier day first le = rw (le-leb first day le) refl

module _ (p : Entry → Bool) where
  found_later : (day : ℕ) (es : List Entry) → AllByRecursion (λ e. day ≤ e.0.day) es → earlier_day day (option_map (λ e. e.0.day) (find p es)) ≡ Some day
  found_later day [] later = refl
  found_later day (x ∷ xs) later =
      elim (cases_Bool (p x)) [
        | inl t ↦ rw t (stays_earlier day x.0.day later.0)
        | inr t ↦ rw t (found_later day xs later.1)
      ]

  pub first_day-put : (e : Entry) (es : List Entry) → Ascends goes_first es
      → option_map (λ x. x.0.day) (find p (put_in_order goes_first e es))
      ≡ cond (p e) (earlier_day e.0.day (option_map (λ x. x.0.day) (find p es))) (option_map (λ x. x.0.day) (find p es))
  first_day-put e [] up = elim (cases_Bool (p e)) [ inl t ↦ rw t refl | inr t ↦ rw t refl ]
  first_day-put e (x ∷ xs) up =
      elim (cases_Bool (goes_first e x)) [
        | inl sooner_key ↦
            let later = all_weaker (λ y. goes_first e y ≡ true) (λ y. e.0.day ≤ y.0.day) (λ y h. day_of_earlier e.0 y.0 h) (x ∷ xs)
            (before_all goes_first strict_goes_first e x xs sooner_key up) in
            elim (cases_Bool (p e)) [
              | inl t ↦ rw (sooner_key, t) (sym (found_later e.0.day (x ∷ xs) later))
              | inr t ↦ rw (sooner_key, t) refl
            ]
        | inr later_key ↦ elim (cases_Bool (p x)) [
          | inl t ↦ elim (cases_Bool (p e)) [
            | inl u ↦ rw (later_key, t, u) (sym (turns_earlier e.0.day x.0.day (day_of_later e.0 x.0 later_key)))
            | inr u ↦ rw (later_key, t, u) refl
          ]
          | inr t ↦ rw (later_key, t) (first_day-put e xs up.1)
        ]
      ]
