use Rattle.std.proofs.Common.{◌≡◌, ℕ, ◌+◌, ◌≤◌, Bool, true, false, ◌||◌, cond, nat_lt, Some, List, [], ◌∷◌, ◌++◌, length, filter, count_by, slice_get}
use Rattle.std.proofs.Common.{refl, sym, ap, ◌∙◌, subst, inl, inr, arith}
use Rattle.std.specs.List.{AllByRecursion, list_any}
use Rattle.std.proofs.lemmas.Bool.{cases_Bool, cases_lt, false≢true, or_parts, or_left, or_right, lt-ltb, le-ltb}
use Rattle.std.proofs.lemmas.Bool.Decides.{nat_tests}
use Rattle.std.proofs.lemmas.List.{append-nil, append_assoc}
use Rattle.std.proofs.lemmas.List.Sums.{sum_by-cons, sum_by-append}
use Rattle.list_words.specs.Order.{IsStrictOrder, Ascends}
use Rattle.list_words.proofs.Members.{Among, all_weaker}

-- ---- the place of an element in a list

-- an element of a list is at a cut of the list
pub cut_at : {X : Type 0} (xs : List X) (z : X) → Among xs z → (before : List X) × (after : List X) × (xs ≡ before ++ z ∷ after)
cut_at [] z h = absurd h
cut_at (x ∷ xs) z h =
    elim h [
      | inl e ↦ ([], xs, ap (λ y. y ∷ xs) e)
      | inr there ↦ let rest = cut_at xs z there in (x ∷ rest.0, rest.1, ap (λ ys. x ∷ ys) rest.2)
    ]

-- if a test passes on some element, there is such an element
pub any_among : {X : Type 0} (p : X → Bool) (xs : List X) → list_any p xs ≡ true → (x : X) × Among xs x × (p x ≡ true)
any_among p [] e = absurd (false≢true e)
any_among p (x ∷ xs) e = elim (cases_Bool (p x)) [
  | inl t ↦ (x, inl refl, t)
  | inr f ↦ let rest = any_among p xs (subst (λ b. (b || list_any p xs) ≡ true) f e) in (rest.0, inr rest.1, rest.2)
]

-- if an element passes, the test passes on some element
pub among_any : {X : Type 0} (p : X → Bool) (xs : List X) (x : X) → Among xs x → p x ≡ true → list_any p xs ≡ true
among_any p [] x h t = absurd h
among_any p (y ∷ ys) x h t = elim h [
  | inl e ↦ or_left (p y) (list_any p ys) (ap p e ∙ t)
  | inr there ↦ or_right (p y) (list_any p ys) (among_any p ys x there t)
]

-- a test of two lists, one after the other
pub list_any-append : {X : Type 0} (p : X → Bool) (xs ys : List X) → list_any p (xs ++ ys) ≡ (list_any p xs || list_any p ys)
list_any-append p [] ys = refl
list_any-append p (x ∷ xs) ys = elim (cases_Bool (p x)) [ inl t ↦ rw t refl | inr f ↦ rw f (list_any-append p xs ys) ]

-- a property of all elements that follows from two others
pub all_both : {X : Type 0} (P Q : X → Type 0) (xs : List X) → AllByRecursion P xs → AllByRecursion Q xs → AllByRecursion (λ x. P x × Q x) xs
all_both P Q [] all other = tt
all_both P Q (x ∷ xs) all other = ((all.0, other.0), all_both P Q xs all.1 other.1)

-- the first element of a list is one of its elements
pub first_among : {X : Type 0} (xs : List X) (x : X) → slice_get xs 0 ≡ Some x → Among xs x
first_among [] x e = absurd cc
first_among (y ∷ ys) x e = let same : y ≡ x = cc in inl same

-- ---- how many elements pass

-- the count with one more element
pub count_cons : {X : Type 0} (p : X → Bool) (x : X) (xs : List X) → count_by p (x ∷ xs) ≡ cond (p x) 1 0 + count_by p xs
count_cons p x xs = sum_by-cons (λ y. cond (p y) 1 0) x xs

-- the count with one more element that passes
pub count_yes : {X : Type 0} (p : X → Bool) (x : X) (xs : List X) → p x ≡ true → count_by p (x ∷ xs) ≡ 1 + count_by p xs
count_yes p x xs t = count_cons p x xs ∙ ap (λ b. cond b 1 0 + count_by p xs) t

-- the count with one more element that fails
pub count_no : {X : Type 0} (p : X → Bool) (x : X) (xs : List X) → p x ≡ false → count_by p (x ∷ xs) ≡ count_by p xs
count_no p x xs f = count_cons p x xs ∙ ap (λ b. cond b 1 0 + count_by p xs) f ∙ omega arith

-- if no element passes, the count is 0
pub count_none : {X : Type 0} (p : X → Bool) (xs : List X) → list_any p xs ≡ false → count_by p xs ≡ 0
count_none p [] e = refl
count_none p (x ∷ xs) e = let parts = or_parts (p x) (list_any p xs) e in count_no p x xs parts.0 ∙ count_none p xs parts.1

-- if an element passes, the count is at least 1
pub count_among : {X : Type 0} (p : X → Bool) (xs : List X) (x : X) → Among xs x → p x ≡ true → 1 ≤ count_by p xs
count_among p [] x h t = absurd h
count_among p (y ∷ ys) x h t =
    let here = count_cons p y ys in
    elim h [
      | inl e ↦ let one = count_yes p y ys (ap p e ∙ t) in omega (arith, one)
      | inr there ↦ let rest = count_among p ys x there t in omega (arith, here, rest)
    ]

-- one more element at the end
pub count_push : {X : Type 0} (p : X → Bool) (xs : List X) (x : X) → count_by p (xs ++ x ∷ []) ≡ count_by p xs + cond (p x) 1 0
count_push p xs x =
    let split = sum_by-append (λ y. cond (p y) 1 0) xs (x ∷ []) in
    let one = count_cons p x [] in
    omega (arith, split, one)

-- a part of a list has no greater count
pub count_filtered : {X : Type 0} (p q : X → Bool) (xs : List X) → count_by p (filter q xs) ≤ count_by p xs
count_filtered p q [] = omega arith
count_filtered p q (x ∷ xs) =
    let rest = count_filtered p q xs in
    let all = count_cons p x xs in
    elim (cases_Bool (q x)) [
      | inl t ↦ let some = count_cons p x (filter q xs) in rw t (omega (arith, rest, all, some))
      | inr f ↦ rw f (omega (arith, rest, all))
    ]

-- a test that passes adds 1
bit_yes : (n : ℕ) (b : Bool) → n ≡ cond b 1 0 → b ≡ true → n ≡ 1
bit_yes n true is t = is
bit_yes n false is t = absurd (false≢true t)

-- a test that fails adds 0
bit_no : (n : ℕ) (b : Bool) → n ≡ cond b 1 0 → b ≡ false → n ≡ 0
bit_no n true is f = absurd (false≢true (sym f))
bit_no n false is f = is

-- the count with one more element, if no earlier one passes when it does
one_more : {X : Type 0} (p : X → Bool) (xs : List X) (x : X) → (p x ≡ true → list_any p xs ≡ false) → count_by p xs ≤ 1 → count_by p (xs ++ x ∷ []) ≤ 1
one_more p xs x first few =
    let all = count_push p xs x in
    elim (cases_Bool (p x)) [
      | inl t ↦ let none = count_none p xs (first t) in omega (arith, all, none, bit_yes (cond (p x) 1 0) (p x) refl t)
      | inr f ↦ omega (arith, all, few, bit_no (cond (p x) 1 0) (p x) refl f)
    ]

-- at most one element passes, if no element before a passing one does
pub once_behind : {X : Type 0} (p : X → Bool) (front b a : List X)
    → ((before : List X) (x : X) (after : List X) → b ++ a ≡ before ++ x ∷ after → p x ≡ true → list_any p (front ++ before) ≡ false)
    → count_by p (front ++ b) ≤ 1 → count_by p (front ++ (b ++ a)) ≤ 1
once_behind p front b [] first few = subst (λ l. count_by p (front ++ l) ≤ 1) (sym (append-nil b)) few
once_behind p front b (x ∷ a) first few =
    let moved : (b ++ x ∷ []) ++ a ≡ b ++ x ∷ a = append_assoc b (x ∷ []) a in
    let one : count_by p (front ++ (b ++ x ∷ [])) ≤ 1 =
    subst (λ l. count_by p l ≤ 1) (append_assoc front b (x ∷ [])) (one_more p (front ++ b) x (first b x a refl) few) in
    subst (λ l. count_by p (front ++ l) ≤ 1) moved
    (once_behind p front (b ++ x ∷ []) a (λ before y after stands. first before y after (sym moved ∙ stands)) one)

-- ---- numbers in order

-- numbers are in a strict order
pub strict_lt : IsStrictOrder nat_lt
strict_lt = record {
  irreflexive = λ x. le-ltb x x (omega arith);
  transitive = λ x y z a b. grind (arith, nat_tests);
}

-- one of two different numbers is less than the other
pub apart_of : (a b : ℕ) → (a ≡ b → ⊥) → (nat_lt a b || nat_lt b a) ≡ true
apart_of a b differ = elim (cases_lt a b) [
  | inl below ↦ or_left (nat_lt a b) (nat_lt b a) (lt-ltb a b below)
  | inr above ↦ elim (cases_lt b a) [
    | inl less ↦ or_right (nat_lt a b) (nat_lt b a) (lt-ltb b a less)
    | inr not_less ↦ absurd (differ (omega (arith, above, not_less)))
  ]
]

-- strictly ascending numbers in a range are at most as many as the range has
pub few_from : (low most : ℕ) (xs : List ℕ) → Ascends nat_lt xs → AllByRecursion (λ n. (low ≤ n) × (n ≤ most)) xs → low ≤ most + 1 → low + length xs ≤ most + 1
few_from low most [] up all fits = omega (arith, fits)
few_from low most (x ∷ xs) up all fits =
    let later : AllByRecursion (λ n. (x + 1 ≤ n) × (n ≤ most)) xs =
    all_weaker (λ n. (nat_lt x n ≡ true) × ((low ≤ n) × (n ≤ most))) (λ n. (x + 1 ≤ n) × (n ≤ most))
    (λ n h. let less = h.0 in let within = h.1.1 in (grind (arith, nat_tests), within)) xs
    (all_both (λ n. nat_lt x n ≡ true) (λ n. (low ≤ n) × (n ≤ most)) xs up.0 all.1) in
    let least = all.0.0 in
    let greatest = all.0.1 in
    let rest = few_from (x + 1) most xs up.1 later (omega (arith, greatest)) in
    omega (arith, rest, least)
