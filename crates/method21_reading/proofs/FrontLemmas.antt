-- When the elements of an ordered list that pass a test are a prefix or another part of it, and when the last one that passes decides.
use Rattle.std.proofs.Common.{◌≡◌, ℕ, zero, suc, ◌+◌, ◌<◌, ◌≤◌, Bool, true, false, ◌&&◌, ◌||◌, cond, Option, Some, None, List, [], ◌∷◌, ◌++◌, length}
use Rattle.std.proofs.Common.{take, drop, filter, get_or, refl, sym, ap, ◌∙◌, subst, inl, inr, arith}
use Rattle.std.specs.List.{AllByRecursion, AllWithin, list_any}
use Rattle.std.specs.List.Sorted.{IsPartitionedBy, IsPartitionPoint}
use Rattle.std.specs.Option.{option_or, option_map_or}
use Rattle.std.proofs.lemmas.Bool.{cases_Bool, false≢true}
use Rattle.std.proofs.lemmas.List.{take-append-drop, get_or-take, get_or-drop, length-take-le, length-drop, append-nil}
use Rattle.std.proofs.lemmas.List.Elements.{filter-append}
use Rattle.list_words.specs.Order.{Ascends}
use Rattle.list_words.specs.Words.{last_such}
use Rattle.list_words.proofs.CutLemmas.{filter_none, filter_all}
use Rattle.list_words.proofs.WordLemmas.{last_such-cons, option_or-None}

-- a property of each element holds of the element at a place
at_place : {X : Type 0} (P : X → Type 0) (xs : List X) (j : ℕ) (d : X) → AllByRecursion P xs → j < length xs → P (get_or xs j d)
at_place P [] j d all within = absurd (omega arith)
at_place P (x ∷ xs) zero d all within = all.0
at_place P (x ∷ xs) (suc j) d all within = at_place P xs j d all.1 (omega (arith, within))

by_places : {X : Type 0} (P : X → Type 0) (xs : List X) → ((k : ℕ) (d : X) → k < length xs → P (get_or xs k d)) → AllByRecursion P xs
by_places P [] each = tt
by_places P (x ∷ xs) each = (each 0 x (omega arith), by_places P xs (λ k d within. each (suc k) d (omega (arith, within))))

-- in an ascending list, a test that passes each element before a passing one passes exactly a prefix
pub stands_in_front : {X : Type 0} (before : X → X → Bool) (p : X → Bool) → ((x y : X) → before x y ≡ true → p y ≡ true → p x ≡ true) →
    (xs : List X) → Ascends before xs → IsPartitionedBy p xs
stands_in_front before p closed [] up i j d le within t = absurd (omega arith)
stands_in_front before p closed (x ∷ xs) up zero zero d le within t = t
stands_in_front before p closed (x ∷ xs) up zero (suc j) d le within t =
    closed x (get_or xs j d) (at_place (λ y. before x y ≡ true) xs j d up.0 (omega (arith, within))) t
stands_in_front before p closed (x ∷ xs) up (suc i) zero d le within t = absurd (omega arith)
stands_in_front before p closed (x ∷ xs) up (suc i) (suc j) d le within t =
    stands_in_front before p closed xs up.1 i j d (omega (arith, le)) (omega (arith, within)) t

-- a suffix of an ascending list ascends
pub ascends_drop : {X : Type 0} (before : X → X → Bool) (n : ℕ) (xs : List X) → Ascends before xs → Ascends before (drop n xs)
ascends_drop before zero xs up = up
ascends_drop before (suc n) [] up = up
ascends_drop before (suc n) (x ∷ xs) up = ascends_drop before n xs up.1

all_filter : {X : Type 0} (P : X → Type 0) (p : X → Bool) (xs : List X) → AllByRecursion P xs → AllByRecursion P (filter p xs)
all_filter P p [] all = tt
all_filter P p (x ∷ xs) all =
    elim (cases_Bool (p x)) [
      | inl t ↦ rw t (all.0, all_filter P p xs all.1)
      | inr f ↦ rw f (all_filter P p xs all.1)
    ]

-- a filtered ascending list ascends
pub ascends_filter : {X : Type 0} (before : X → X → Bool) (p : X → Bool) (xs : List X) → Ascends before xs → Ascends before (filter p xs)
ascends_filter before p [] up = tt
ascends_filter before p (x ∷ xs) up =
    elim (cases_Bool (p x)) [
      | inl t ↦ rw t (all_filter (λ y. before x y ≡ true) p xs up.0, ascends_filter before p xs up.1)
      | inr f ↦ rw f (ascends_filter before p xs up.1)
    ]

-- if exactly the first `count` elements pass, they are the filtered list
pub filter_front : {X : Type 0} (p : X → Bool) (xs : List X) (count : ℕ) → count ≤ length xs → AllWithin (λ x. p x ≡ true) xs 0 count →
    AllWithin (λ x. p x ≡ false) xs count (length xs) → filter p xs ≡ take count xs
filter_front p xs count within here late =
    let front = take count xs in
    let rest = drop count xs in
    let long = length-take-le count xs within in
    let short = length-drop count xs in
    let all_here : filter p front ≡ front = filter_all p front (by_places (λ x. p x ≡ true) front
    (λ k d l. let at : k < count = omega (arith, l, long) in rw (get_or-take count xs k d at) (here k d (omega arith) at))) in
    let none_late : filter p rest ≡ [] = filter_none p rest (by_places (λ x. p x ≡ false) rest
    (λ k d l. rw (get_or-drop count xs k d) (late (count + k) d (omega arith) (omega (arith, l, short, within))))) in
    ap (filter p) (sym (take-append-drop count xs)) ∙ filter-append p front rest ∙ ap (λ ys. filter p front ++ ys) none_late
    ∙ append-nil (filter p front) ∙ all_here

-- if none of the first elements passes, the filtered list is that of the rest
pub filter_behind : {X : Type 0} (p : X → Bool) (xs : List X) (from : ℕ) → from ≤ length xs → AllWithin (λ x. p x ≡ false) xs 0 from →
    filter p xs ≡ filter p (drop from xs)
filter_behind p xs from within early =
    let front = take from xs in
    let long = length-take-le from xs within in
    let none_early : filter p front ≡ [] = filter_none p front (by_places (λ x. p x ≡ false) front
    (λ k d l. let at : k < from = omega (arith, l, long) in rw (get_or-take from xs k d at) (early k d (omega arith) at))) in
    ap (filter p) (sym (take-append-drop from xs)) ∙ filter-append p front (drop from xs) ∙ ap (λ ys. ys ++ filter p (drop from xs)) none_early

-- a conjunction whose second test is known
and_passed : (a b : Bool) → b ≡ true → (a && b) ≡ a
and_passed true b t = t
and_passed false b t = refl

and_failed : (a b : Bool) → b ≡ false → (a && b) ≡ false
and_failed true b f = f
and_failed false b f = refl

or_false : (a : Bool) → (a || false) ≡ a
or_false true = refl
or_false false = refl

or_true : (a : Bool) → (a || true) ≡ true
or_true true = refl
or_true false = refl

-- the last element that passes both tests is the last that passes one, among those that pass the other
pub last_such_both : {X : Type 0} (p q : X → Bool) (xs : List X) → last_such (λ x. p x && q x) xs ≡ last_such p (filter q xs)
last_such_both p q [] = refl
last_such_both p q (x ∷ xs) =
    let rest = last_such_both p q xs in
    let more = ap (λ o. option_or o (cond (p x && q x) (Some x) None)) rest in
    elim (cases_Bool (q x)) [
      | inl t ↦ rw t (last_such-cons (λ y. p y && q y) x xs ∙ more
          ∙ ap (λ b. option_or (last_such p (filter q xs)) (cond b (Some x) None)) (and_passed (p x) (q x) t)
          ∙ sym (last_such-cons p x (filter q xs)))
      | inr f ↦ rw f (last_such-cons (λ y. p y && q y) x xs ∙ more
          ∙ ap (λ b. option_or (last_such p (filter q xs)) (cond b (Some x) None)) (and_failed (p x) (q x) f)
          ∙ option_or-None (last_such p (filter q xs)))
    ]

same_some : {X : Type 0} (x y : X) → Some x ≡ Some y → x ≡ y
same_some x y e = cc

-- a property of an optional element and of another one holds of the choice
holds_either : {X : Type 0} (P : X → Type 0) (x y : X) (o : Option X) (b : Bool) → (o ≡ Some y → P y) → P x →
    option_or o (cond b (Some x) None) ≡ Some y → P y
holds_either P x y None true rest here e = subst P (same_some x y e) here
holds_either P x y None false rest here e = cc
holds_either P x y (Some z) b rest here e = rest e

last_holds : {X : Type 0} (P : X → Type 0) (p : X → Bool) (xs : List X) (y : X) → AllByRecursion P xs → last_such p xs ≡ Some y → P y
last_holds P p [] y all e = cc
last_holds P p (x ∷ xs) y all e =
    holds_either P x y (last_such p xs) (p x) (λ found. last_holds P p xs y all.1 found) all.0 (sym (last_such-cons p x xs) ∙ e)

-- one more element before others: if some of those pass p, the last of them decides
latest_step : {X : Type 0} (r : X → Bool) (x : X) (b any : Bool) (o : Option X) → any ≡ option_map_or r o false →
    ((y : X) → o ≡ Some y → r x ≡ true → r y ≡ true) → ((b && r x) || any) ≡ option_map_or r (option_or o (cond b (Some x) None)) false
latest_step r x true any None is grows = rw is (or_false (r x))
latest_step r x false any None is grows = is
latest_step r x b any (Some y) is grows =
    elim (cases_Bool (r x)) [
      | inl t ↦ ap (λ a. (b && r x) || a) (is ∙ grows y refl t) ∙ or_true (b && r x) ∙ sym (grows y refl t)
      | inr f ↦ ap (λ a. a || any) (and_failed b (r x) f) ∙ is
    ]

-- if r passes each element after one that it passes, the last element that passes p decides whether some element passes both
pub latest_decides : {X : Type 0} (before : X → X → Bool) (p r : X → Bool) → ((x y : X) → before x y ≡ true → r x ≡ true → r y ≡ true) →
    (xs : List X) → Ascends before xs → list_any (λ x. p x && r x) xs ≡ option_map_or r (last_such p xs) false
latest_decides before p r grows [] up = refl
latest_decides before p r grows (x ∷ xs) up =
    latest_step r x (p x) (list_any (λ y. p y && r y) xs) (last_such p xs) (latest_decides before p r grows xs up.1)
    (λ y found t. grows x y (last_holds (λ z. before x z ≡ true) p xs y up.0 found) t)
    ∙ ap (λ o. option_map_or r o false) (sym (last_such-cons p x xs))

-- if the passing elements are a prefix, a place with only passing elements before it and a failing one at it is its end
pub parted_at : {X : Type 0} (p : X → Bool) (xs : List X) (count : ℕ) → IsPartitionedBy p xs → AllWithin (λ x. p x ≡ true) xs 0 count →
    ((d : X) → count < length xs → p (get_or xs count d) ≡ false) → IsPartitionPoint (λ x. p x ≡ true) (λ x. p x ≡ false) xs count
parted_at p xs count parted passed failed = (
  passed,
  λ k d low l. elim (cases_Bool (p (get_or xs k d))) [
    | inl t ↦ absurd (false≢true (sym (failed d (omega (arith, low, l))) ∙ parted count k d low l t))
    | inr f ↦ f
  ],
)

-- a property of the element at a place within the list does not depend on the default
pub same_within : {X : Type 0} (P : X → Type 0) (xs : List X) (count : ℕ) (x d : X) → x ≡ get_or xs count x → count < length xs → P x → P (get_or xs count d)
same_within P [] count x d is within h = absurd (omega arith)
same_within P (y ∷ ys) zero x d is within h = subst P is h
same_within P (y ∷ ys) (suc count) x d is within h = same_within P ys count x d is (omega (arith, within)) h
