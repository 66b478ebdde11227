-- Tests and searches over a list, by places.
use Rattle.std.proofs.Common.{◌≡◌, ℕ, zero, suc, ◌<◌, ◌≤◌, Bool, true, false, not, ◌&&◌, ◌||◌, Some, None, List, [], ◌∷◌, length}
use Rattle.std.proofs.Common.{take, drop, filter, find, get_or, refl, sym, ap, ◌∙◌, inl, inr, arith}
use Rattle.std.specs.List.{AllByRecursion, AllWithin, list_any}
use Rattle.std.specs.Option.{option_map_or}
use Rattle.std.proofs.lemmas.Bool.{cases_Bool, false≢true}
use Rattle.list_words.specs.Order.{Ascends}

pub and_true : (a : Bool) → (a && true) ≡ a
and_true true = refl
and_true false = refl

pub and_false : (a : Bool) → (a && false) ≡ false
and_false true = refl
and_false false = refl

pub not_is_true : (a : Bool) → not a ≡ true → a ≡ false
not_is_true true e = absurd (false≢true e)
not_is_true false e = refl

pub not_is_false : (a : Bool) → not a ≡ false → a ≡ true
not_is_false true e = refl
not_is_false false e = absurd (false≢true (sym e))

-- a conjunction fails if its second test does
pub fails_right : (a b : Bool) → b ≡ false → (a && b) ≡ false
fails_right a b f = rw f (and_false a)

pub fails_left : (a b : Bool) → a ≡ false → (a && b) ≡ false
fails_left a b f = rw f refl

-- a test that implies a failing one fails
pub fails_where : (a b : Bool) → (a ≡ true → b ≡ true) → b ≡ false → a ≡ false
fails_where true b implies f = absurd (false≢true (sym f ∙ implies refl))
fails_where false b implies f = refl

-- if no element from one place to another passes, the test has the same result on the prefixes up to both
pub any_front : {X : Type 0} (p : X → Bool) (xs : List X) (low high : ℕ) → low ≤ high → high ≤ length xs → AllWithin (λ x. p x ≡ false) xs low high →
    list_any p (take high xs) ≡ list_any p (take low xs)
any_front p xs zero zero le within none = refl
any_front p xs (suc low) zero le within none = absurd (omega (arith, le))
any_front p [] low (suc high) le within none = absurd (omega (arith, within))
any_front p (x ∷ xs) zero (suc high) le within none =
    rw (none 0 x (omega arith) (omega arith))
    (any_front p xs zero high (omega arith) (omega (arith, within)) (λ k d a b. none (suc k) d (omega arith) (omega (arith, b))))
any_front p (x ∷ xs) (suc low) (suc high) le within none =
    ap (λ b. p x || b)
    (any_front p xs low high (omega (arith, le)) (omega (arith, within)) (λ k d a b. none (suc k) d (omega (arith, a)) (omega (arith, b))))

-- if no element of a prefix passes, the test has the same result on the rest as on the whole list
pub any_behind : {X : Type 0} (p : X → Bool) (xs : List X) (from : ℕ) → from ≤ length xs → AllWithin (λ x. p x ≡ false) xs 0 from →
    list_any p xs ≡ list_any p (drop from xs)
any_behind p xs zero within none = refl
any_behind p [] (suc from) within none = absurd (omega (arith, within))
any_behind p (x ∷ xs) (suc from) within none =
    rw (none 0 x (omega arith) (omega arith)) (any_behind p xs from (omega (arith, within)) (λ k d a b. none (suc k) d (omega arith) (omega (arith, b))))

-- some element passes both tests exactly if one passes the first test among those that pass the second
pub any_both : {X : Type 0} (p q : X → Bool) (xs : List X) → list_any (λ x. p x && q x) xs ≡ list_any p (filter q xs)
any_both p q [] = refl
any_both p q (x ∷ xs) =
    elim (cases_Bool (q x)) [
      | inl t ↦ rw (t, and_true (p x)) (ap (λ b. p x || b) (any_both p q xs))
      | inr f ↦ rw (f, and_false (p x)) (any_both p q xs)
    ]

-- some element of a prefix passes if the one at a place of it does
pub any_in_front : {X : Type 0} (p : X → Bool) (xs : List X) (k n : ℕ) (d : X) → k < n → n ≤ length xs → p (get_or xs k d) ≡ true → list_any p (take n xs) ≡ true
any_in_front p xs k zero d lt within t = absurd (omega (arith, lt))
any_in_front p [] k (suc n) d lt within t = absurd (omega (arith, within))
any_in_front p (x ∷ xs) zero (suc n) d lt within t = rw t refl
any_in_front p (x ∷ xs) (suc k) (suc n) d lt within t =
    elim (cases_Bool (p x)) [
      | inl here ↦ rw here refl
      | inr f ↦ rw f (any_in_front p xs k n d (omega (arith, lt)) (omega (arith, within)) t)
    ]

-- nothing is found if no element passes
pub find_none : {X : Type 0} (p : X → Bool) (xs : List X) → AllWithin (λ x. p x ≡ false) xs 0 (length xs) → find p xs ≡ None
find_none p [] none = refl
find_none p (x ∷ xs) none =
    rw (none 0 x (omega arith) (omega arith)) (find_none p xs (λ k d a b. none (suc k) d (omega arith) (omega (arith, b))))

-- the first element that passes is found
pub find_at : {X : Type 0} (p : X → Bool) (xs : List X) (place : ℕ) (d : X) → place < length xs → p (get_or xs place d) ≡ true →
    AllWithin (λ x. p x ≡ false) xs 0 place → find p xs ≡ Some (get_or xs place d)
find_at p [] place d within t none = absurd (omega (arith, within))
find_at p (x ∷ xs) zero d within t none = rw t refl
find_at p (x ∷ xs) (suc place) d within t none =
    rw (none 0 x (omega arith) (omega arith))
    (find_at p xs place d (omega (arith, within)) t (λ k e a b. none (suc k) e (omega arith) (omega (arith, b))))

-- if each element before one that passes r passes r too, no element after one that fails r passes both tests
none_later : {X : Type 0} (before : X → X → Bool) (p r : X → Bool) → ((x y : X) → before x y ≡ true → r y ≡ true → r x ≡ true) → (x : X) → r x ≡ false →
    (xs : List X) → AllByRecursion (λ y. before x y ≡ true) xs → list_any (λ y. p y && r y) xs ≡ false
none_later before p r closed x fails [] all = refl
none_later before p r closed x fails (y ∷ ys) all =
    rw (fails_right (p y) (r y) (fails_where (r y) (r x) (λ t. closed x y all.0 t) fails)) (none_later before p r closed x fails ys all.1)

-- the first element that passes p decides whether some element passes both
pub first_decides : {X : Type 0} (before : X → X → Bool) (p r : X → Bool) → ((x y : X) → before x y ≡ true → r y ≡ true → r x ≡ true) →
    (xs : List X) → Ascends before xs → list_any (λ x. p x && r x) xs ≡ option_map_or r (find p xs) false
first_decides before p r closed [] up = refl
first_decides before p r closed (x ∷ xs) up =
    elim (cases_Bool (p x)) [
      | inl t ↦ elim (cases_Bool (r x)) [
        | inl u ↦ rw (t, u) refl
        | inr f ↦ rw (t, f) (none_later before p r closed x f xs up.0)
      ]
      | inr f ↦ rw f (first_decides before p r closed xs up.1)
    ]
