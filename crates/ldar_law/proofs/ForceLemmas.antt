use Rattle.std.proofs.Common.{◌≡◌, ℕ, Bool, true, false, Option, Some, None, List, [], ◌∷◌, refl, sym, ap, inl, inr}
use Rattle.std.specs.List.{AllByRecursion, filter_map, cons_option}
use Rattle.std.specs.Prelude.{option_map}
use Rattle.std.proofs.lemmas.Bool.{cases_Bool}
use Rattle.list_words.specs.Order.{put_in_order, Ascends}
use Rattle.list_words.proofs.Ascending.{before_all}
use Rattle.list_words.proofs.PutLemmas.{put_in_front}
use Rattle.fact_kinds.specs.declared.class.Class.{Class}
use Rattle.fact_kinds.specs.declared.key.Key.{Key}
use Rattle.fact_kinds.specs.Facts.{Entry, is_earlier, goes_first}
use Rattle.fact_kinds.proofs.KeyOrder.{strict_earlier, strict_goes_first}
use Rattle.ldar_law.specs.Equipment.{class_entered, class_at}

-- The values of facts, with their keys, are in key order if the facts are.
module _ {C : Type 0} (f : Entry → Option (Key × C)) (keyed : (e : Entry) (y : Key × C) → f e ≡ Some y → y.0 ≡ e.0) where
  abbrev pub given_first : Key × C → Key × C → Bool
  given_first a b = is_earlier a.0 b.0

  given_all : (x : Entry) (y : Key × C) → y.0 ≡ x.0 → (es : List Entry) → AllByRecursion (λ e. goes_first x e ≡ true) es →
      AllByRecursion (λ z. given_first y z ≡ true) (filter_map f es)
  given_all x y same [] later = tt
  given_all x y same (e ∷ es) later =
      elim (f e) as (λ o. f e ≡ o → AllByRecursion (λ z. given_first y z ≡ true) (cons_option o (filter_map f es))) [
        | None ↦ λ is. given_all x y same es later.1
        | Some z ↦ λ is. (rw (same, keyed e z is) later.0, given_all x y same es later.1)
      ] refl

  pub given_ascends : (es : List Entry) → Ascends goes_first es → Ascends given_first (filter_map f es)
  given_ascends [] up = tt
  given_ascends (e ∷ es) up =
      elim (f e) as (λ o. f e ≡ o → Ascends given_first (cons_option o (filter_map f es))) [
        | None ↦ λ is. given_ascends es up.1
        | Some z ↦ λ is. (given_all e z (keyed e z is) es up.0, given_ascends es up.1)
      ] refl

  -- one more fact without a value
  pub given-put_none : (x : Entry) → f x ≡ None → (es : List Entry) → filter_map f (put_in_order goes_first x es) ≡ filter_map f es
  given-put_none x none [] = rw none refl
  given-put_none x none (e ∷ es) =
      elim (cases_Bool (goes_first x e)) [
        | inl t ↦ rw (t, none) refl
        | inr t ↦ rw t (ap (λ ys. cons_option (f e) ys) (given-put_none x none es))
      ]

  put_behind : (y : Key × C) (o : Option (Key × C)) (ys : List (Key × C)) → ((z : Key × C) → o ≡ Some z → given_first y z ≡ false) →
      cons_option o (put_in_order given_first y ys) ≡ put_in_order given_first y (cons_option o ys)
  put_behind y None ys behind = refl
  put_behind y (Some z) ys behind = rw (behind z refl) refl

  -- one more fact with a value
  pub given-put_some : (x : Entry) (y : Key × C) → f x ≡ Some y → (es : List Entry) → Ascends goes_first es →
      filter_map f (put_in_order goes_first x es) ≡ put_in_order given_first y (filter_map f es)
  given-put_some x y some [] up = rw some refl
  given-put_some x y some (e ∷ es) up =
      elim (cases_Bool (goes_first x e)) [
        | inl t ↦ rw (t, some)
            (sym (put_in_front given_first (strict_earlier (λ z. z.0)) y (filter_map f (e ∷ es))
            (given_all x y (keyed x y some) (e ∷ es) (before_all goes_first strict_goes_first x e es t up))))
        | inr t ↦ rw (t, given-put_some x y some es up.1)
            (put_behind y (f e) (filter_map f es) (λ z is. rw (keyed x y some, keyed e z is) t))
      ]

class_is_keyed : (number : ℕ) (e : Entry) (o : Option Class) (y : Key × Class) → option_map (λ class. (e.0, class)) o ≡ Some y → y.0 ≡ e.0
class_is_keyed number e None y is = cc
class_is_keyed number e (Some class) y is = cc

-- a class has the key of the fact that enters it
pub class_keyed : (number : ℕ) (e : Entry) (y : Key × Class) → class_at number e ≡ Some y → y.0 ≡ e.0
class_keyed number e y is = class_is_keyed number e (class_entered number e.1.body) y is
