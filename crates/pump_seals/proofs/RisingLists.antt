-- Lists in which no element is before an earlier one: their parts, and binary searches in them.
use Rattle.std.proofs.Common.{◌≡◌, ℕ, zero, suc, ◌+◌, ◌-◌, ◌<◌, ◌≤◌, Bool, true, false, not, cond, Option, Some, None, List, [], ◌∷◌, length, find, drop, take, get_or, filter}
use Rattle.std.proofs.Common.{refl, sym, ap, ◌∙◌, inl, inr, subst, arith}
use Rattle.std.specs.List.{AllByRecursion, cons_option, filter_map, slice_get}
use Rattle.std.specs.List.Sorted.{IsPartitionPoint, IsPartitionedBy}
use Rattle.std.specs.Prelude.{IfOk, Result, Ok, Err}
use Rattle.std.proofs.lemmas.Bool.{cases_Bool}
use Rattle.std.proofs.lemmas.List.{length-drop, take_all}
use Rattle.pump_seals.specs.Moments.{MomentsRise}

-- a property of each element holds of the element at a place
nth : {X : Type 0} (P : X → Type 0) (xs : List X) (i : ℕ) (d : X) → AllByRecursion P xs → i < length xs → P (get_or xs i d)
nth P [] i d all within = absurd (omega arith)
nth P (x ∷ xs) zero d all within = all.0
nth P (x ∷ xs) (suc i) d all within = nth P xs i d all.1 (omega (arith, within))

-- a test that passes each element that is not after a passing one passes exactly a prefix of such a list
pub rising_front : {X : Type 0} (before : X → X → Bool) (p : X → Bool) → ((x y : X) → before y x ≡ false → p y ≡ true → p x ≡ true)
    → (xs : List X) → MomentsRise before xs → IsPartitionedBy p xs
rising_front before p down [] rise i j d le within t = absurd (omega arith)
rising_front before p down (x ∷ xs) rise zero zero d le within t = t
rising_front before p down (x ∷ xs) rise zero (suc j) d le within t =
    down x (get_or xs j d) (nth (λ y. before y x ≡ false) xs j d rise.0 (omega arith)) t
rising_front before p down (x ∷ xs) rise (suc i) zero d le within t = absurd (omega arith)
rising_front before p down (x ∷ xs) rise (suc i) (suc j) d le within t = rising_front before p down xs rise.1 i j d (omega arith) (omega arith) t

-- the first element that passes is at the partition point of the failing ones
pub find_at : {X : Type 0} (p q : X → Bool) → ((x : X) → p x ≡ true → q x ≡ false) → ((x : X) → p x ≡ false → q x ≡ true)
    → (xs : List X) (n : ℕ) → IsPartitionPoint (λ y. p y ≡ true) (λ y. p y ≡ false) xs n → find q xs ≡ slice_get xs n
find_at p q front rest [] n parts = refl
find_at p q front rest (x ∷ xs) zero parts = rw (rest x (parts.1 0 x (omega arith) (omega arith))) refl
find_at p q front rest (x ∷ xs) (suc n) parts =
    rw (front x (parts.0 0 x (omega arith) (omega arith)))
    (find_at p q front rest xs n
    (λ k d low lt. parts.0 (suc k) d (omega arith) (omega (arith, lt)), λ k d low lt. parts.1 (suc k) d (omega (arith, low)) (omega (arith, lt))))

-- the values of a list with one more element are not before k if its own is not
all_with : {X M : Type 0} (before : M → M → Bool) (key : X → M) (f : X → Option M) → ((x : X) (m : M) → f x ≡ Some m → m ≡ key x)
    → (k : M) (x : X) (xs : List X) (o : Option M) → f x ≡ o → before (key x) k ≡ false → AllByRecursion (λ m. before m k ≡ false) (filter_map f xs)
    → AllByRecursion (λ m. before m k ≡ false) (cons_option o (filter_map f xs))
all_with before key f own k x xs None is e all = all
all_with before key f own k x xs (Some m) is e all = (subst (λ n. before n k ≡ false) (sym (own x m is)) e, all)

-- the values of elements that are not before k are not before k, if each value is its element's own moment
all_given : {X M : Type 0} (before : M → M → Bool) (key : X → M) (f : X → Option M) → ((x : X) (m : M) → f x ≡ Some m → m ≡ key x)
    → (k : M) (xs : List X) → AllByRecursion (λ x. before (key x) k ≡ false) xs → AllByRecursion (λ m. before m k ≡ false) (filter_map f xs)
all_given before key f own k [] all = tt
all_given before key f own k (x ∷ xs) all = all_with before key f own k x xs (f x) refl all.0 (all_given before key f own k xs all.1)

rise_with : {X M : Type 0} (before : M → M → Bool) (key : X → M) (f : X → Option M) → ((x : X) (m : M) → f x ≡ Some m → m ≡ key x)
    → (x : X) (xs : List X) (o : Option M) → f x ≡ o → AllByRecursion (λ y. before (key y) (key x) ≡ false) xs → MomentsRise before (filter_map f xs)
    → MomentsRise before (cons_option o (filter_map f xs))
rise_with before key f own x xs None is all rise = rise
rise_with before key f own x xs (Some m) is all rise =
    (all_given before key f own m xs (subst (λ n. AllByRecursion (λ y. before (key y) n ≡ false) xs) (sym (own x m is)) all), rise)

pub rise_given : {X M : Type 0} (before : M → M → Bool) (key : X → M) (f : X → Option M) → ((x : X) (m : M) → f x ≡ Some m → m ≡ key x)
    → (xs : List X) → MomentsRise (λ a b. before (key a) (key b)) xs → MomentsRise before (filter_map f xs)
rise_given before key f own [] rise = tt
rise_given before key f own (x ∷ xs) rise =
    rise_with before key f own x xs (f x) refl rise.0 (rise_given before key f own xs rise.1)

-- a property of each element holds of each element of the filtered list
all_filtered : {X : Type 0} (P : X → Type 0) (p : X → Bool) (xs : List X) → AllByRecursion P xs → AllByRecursion P (filter p xs)
all_filtered P p [] all = tt
all_filtered P p (x ∷ xs) all = elim (cases_Bool (p x)) [
  | inl e ↦ rw e (all.0, all_filtered P p xs all.1)
  | inr e ↦ rw e (all_filtered P p xs all.1)
]

pub rise_filter : {X : Type 0} (before : X → X → Bool) (p : X → Bool) (xs : List X) → MomentsRise before xs → MomentsRise before (filter p xs)
rise_filter before p [] rise = tt
rise_filter before p (x ∷ xs) rise = elim (cases_Bool (p x)) [
  | inl e ↦ rw e (all_filtered (λ y. before y x ≡ false) p xs rise.0, rise_filter before p xs rise.1)
  | inr e ↦ rw e (rise_filter before p xs rise.1)
]

-- the rest of such a list is such a list
pub rise_drop : {X : Type 0} (before : X → X → Bool) (n : ℕ) (xs : List X) → MomentsRise before xs → MomentsRise before (drop n xs)
rise_drop before zero xs rise = rise
rise_drop before (suc n) [] rise = tt
rise_drop before (suc n) (x ∷ xs) rise = rise_drop before n xs rise.1

-- ---- parts without values

-- a prefix without values can be left out
pub given_behind : {X Y : Type 0} (f : X → Option Y) (p : X → Bool) → ((x : X) → p x ≡ true → f x ≡ None) → (xs : List X) (n : ℕ)
    → IsPartitionPoint (λ y. p y ≡ true) (λ y. p y ≡ false) xs n → n ≤ length xs → filter_map f (drop n xs) ≡ filter_map f xs
given_behind f p none xs zero parts within = refl
given_behind f p none [] (suc n) parts within = refl
given_behind f p none (x ∷ xs) (suc n) parts within =
    rw (none x (parts.0 0 x (omega arith) (omega arith)))
    (given_behind f p none xs n
    (λ k d low lt. parts.0 (suc k) d (omega arith) (omega (arith, lt)), λ k d low lt. parts.1 (suc k) d (omega (arith, low)) (omega (arith, lt)))
    (omega (arith, within)))

-- a rest without values can be left out
pub given_front : {X Y : Type 0} (f : X → Option Y) (p : X → Bool) → ((x : X) → p x ≡ false → f x ≡ None) → (xs : List X) (n : ℕ)
    → IsPartitionPoint (λ y. p y ≡ true) (λ y. p y ≡ false) xs n → n ≤ length xs → filter_map f (take n xs) ≡ filter_map f xs
given_front f p none [] zero parts within = refl
given_front f p none [] (suc n) parts within = refl
given_front f p none (x ∷ xs) zero parts within =
    rw (none x (parts.1 0 x (omega arith) (omega arith)))
    (given_front f p none xs zero
    (λ k d low lt. absurd (omega (arith, lt)), λ k d low lt. parts.1 (suc k) d (omega arith) (omega (arith, lt))) (omega arith))
given_front f p none (x ∷ xs) (suc n) parts within =
    ap (λ ys. cons_option (f x) ys) (given_front f p none xs n
    (λ k d low lt. parts.0 (suc k) d (omega arith) (omega (arith, lt)), λ k d low lt. parts.1 (suc k) d (omega (arith, low)) (omega (arith, lt)))
    (omega (arith, within)))

-- a slice from a place to the end is the rest
pub to_end : {X : Type 0} (xs : List X) (n : ℕ) → take (length xs - n) (drop n xs) ≡ drop n xs
to_end xs n = take_all (length xs - n) (drop n xs) (omega (arith, length-drop n xs))

-- a weaker property of a successful result
pub if_ok : {A E : Type 0} (r : Result A E) (P Q : A → Type 0) → ((x : A) → P x → Q x) → IfOk r P → IfOk r Q
if_ok (Ok x) P Q so holds = so x holds
if_ok (Err e) P Q so holds = holds
