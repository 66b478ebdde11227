use Rattle.std.proofs.Common.{◌≡◌, ℕ, ◌+◌, ◌-◌, ◌<◌, ◌≤◌, Bool, true, false, ◌||◌, cond, Option, Some, None, List, [], ◌∷◌, ◌++◌, length, take, drop}
use Rattle.std.proofs.Common.{get_or, reverse, find, refl, sym, ap, ◌∙◌, inl, inr, arith}
use Rattle.std.specs.List.{list_any, cons_option, filter_map, AllWithin}
use Rattle.std.specs.List.Sorted.{IsPartitionPoint}
use Rattle.std.specs.Option.{option_or, option_to_list}
use Rattle.std.proofs.lemmas.List.{drop_more, take_more, drop_all, append_assoc, append-nil, reverse-append, take-append-drop, get_or-drop, length-drop}
use Rattle.std.proofs.lemmas.List.Folds.{find-append, list_any_none}
use Rattle.std.proofs.lemmas.Bool.{cases_Bool, or_parts}
use Rattle.list_words.specs.Words.{somewhere_from, first_from, first_given_from, each_from, last_such}

-- one step of a loop that searches for an element that passes
pub somewhere_more : {X : Type 0} (p : List X → X → List X → Bool) (xs : List X) (i : ℕ) (d : X) → i < length xs
    → somewhere_from p (take i xs) (drop i xs) ≡ (p (take i xs) (get_or xs i d) (drop (i + 1) xs) || somewhere_from p (take (i + 1) xs) (drop (i + 1) xs))
somewhere_more p xs i d h = rw (drop_more xs i d h, take_more xs i d h) refl

-- one step of a loop that looks for the first element that passes
pub first_more : {X : Type 0} (p : List X → X → List X → Bool) (xs : List X) (i : ℕ) (d : X) → i < length xs
    → first_from p (take i xs) (drop i xs) ≡ cond (p (take i xs) (get_or xs i d) (drop (i + 1) xs)) (Some (get_or xs i d))
    (first_from p (take (i + 1) xs) (drop (i + 1) xs))
first_more p xs i d h = rw (drop_more xs i d h, take_more xs i d h) refl

-- one step of a loop that looks for the first value
pub first_given_more : {X Y : Type 0} (f : List X → X → List X → Option Y) (xs : List X) (i : ℕ) (d : X) → i < length xs
    → first_given_from f (take i xs) (drop i xs) ≡ option_or (f (take i xs) (get_or xs i d) (drop (i + 1) xs))
    (first_given_from f (take (i + 1) xs) (drop (i + 1) xs))
first_given_more f xs i d h = rw (drop_more xs i d h, take_more xs i d h) refl

-- one step of a loop that collects the values
pub each_more : {X Y : Type 0} (f : List X → X → List X → Option Y) (xs : List X) (i : ℕ) (d : X) → i < length xs
    → each_from f (take i xs) (drop i xs) ≡ cons_option (f (take i xs) (get_or xs i d) (drop (i + 1) xs)) (each_from f (take (i + 1) xs) (drop (i + 1) xs))
each_more f xs i d h = rw (drop_more xs i d h, take_more xs i d h) refl

-- past the last element no element passes
pub somewhere_none : {X : Type 0} (p : List X → X → List X → Bool) (front xs : List X) (i : ℕ) → length xs ≤ i → somewhere_from p front (drop i xs) ≡ false
somewhere_none p front xs i h = rw (drop_all i xs h) refl

-- past the last element there is no first one that passes
pub first_none : {X : Type 0} (p : List X → X → List X → Bool) (front xs : List X) (i : ℕ) → length xs ≤ i → first_from p front (drop i xs) ≡ None
first_none p front xs i h = rw (drop_all i xs h) refl

-- past the last element there are no values
pub each_none : {X Y : Type 0} (f : List X → X → List X → Option Y) (front xs : List X) (i : ℕ) → length xs ≤ i → each_from f front (drop i xs) ≡ []
each_none f front xs i h = rw (drop_all i xs h) refl

-- an element that passes ends the search
pub somewhere_found : {X : Type 0} (p : List X → X → List X → Bool) (xs : List X) (i : ℕ) (d : X) → i < length xs
    → p (take i xs) (get_or xs i d) (drop (i + 1) xs) ≡ true → somewhere_from p (take i xs) (drop i xs) ≡ true
somewhere_found p xs i d h e = somewhere_more p xs i d h ∙ rw e refl

-- an element that fails leaves the search to the rest
pub somewhere_past : {X : Type 0} (p : List X → X → List X → Bool) (xs : List X) (i : ℕ) (d : X) → i < length xs
    → p (take i xs) (get_or xs i d) (drop (i + 1) xs) ≡ false → somewhere_from p (take i xs) (drop i xs) ≡ somewhere_from p (take (i + 1) xs) (drop (i + 1) xs)
somewhere_past p xs i d h e = somewhere_more p xs i d h ∙ rw e refl

-- an element that passes is the first one
pub first_found : {X : Type 0} (p : List X → X → List X → Bool) (xs : List X) (i : ℕ) (d : X) → i < length xs
    → p (take i xs) (get_or xs i d) (drop (i + 1) xs) ≡ true → first_from p (take i xs) (drop i xs) ≡ Some (get_or xs i d)
first_found p xs i d h e = first_more p xs i d h ∙ rw e refl

-- an element that fails is skipped
pub first_past : {X : Type 0} (p : List X → X → List X → Bool) (xs : List X) (i : ℕ) (d : X) → i < length xs
    → p (take i xs) (get_or xs i d) (drop (i + 1) xs) ≡ false → first_from p (take i xs) (drop i xs) ≡ first_from p (take (i + 1) xs) (drop (i + 1) xs)
first_past p xs i d h e = first_more p xs i d h ∙ rw e refl

-- `cons_option` joins a list of at most one element
pub cons_option_is : {X : Type 0} (o : Option X) (xs : List X) → cons_option o xs ≡ option_to_list o ++ xs
cons_option_is None xs = refl
cons_option_is (Some x) xs = refl

-- one step of a loop that pushes each element's optional value
pub each_pushed : {X Y : Type 0} (f : List X → X → List X → Option Y) (done : List Y) (xs : List X) (i : ℕ) (d : X) → i < length xs
    → (done ++ option_to_list (f (take i xs) (get_or xs i d) (drop (i + 1) xs))) ++ each_from f (take (i + 1) xs) (drop (i + 1) xs) ≡ done ++ each_from f
    (take i xs) (drop i xs)
each_pushed f done xs i d h = rw (each_more f xs i d h, cons_option_is, append_assoc) refl

-- the end of a loop that pushes each element's optional value
pub each_done : {X Y : Type 0} (f : List X → X → List X → Option Y) (done all : List Y) (front xs : List X) (i : ℕ) → length xs ≤ i
    → done ++ each_from f front (drop i xs) ≡ all → done ≡ all
each_done f done all front xs i h e = sym (append-nil done) ∙ (ap (λ ys. done ++ ys) (sym (each_none f front xs i h)) ∙ e)

-- `somewhere` of a test of the element only is `list_any`
pub somewhere_is_any : {X : Type 0} (p : X → Bool) (front xs : List X) → somewhere_from (λ _ x _. p x) front xs ≡ list_any p xs
somewhere_is_any p front [] = refl
somewhere_is_any p front (x ∷ xs) = ap (λ b. p x || b) (somewhere_is_any p (front ++ x ∷ []) xs)

-- `first_where` of a test of the element only is `find`
pub first_is_find : {X : Type 0} (p : X → Bool) (front xs : List X) → first_from (λ _ x _. p x) front xs ≡ find p xs
first_is_find p front [] = refl
first_is_find p front (x ∷ xs) = ap (λ o. cond (p x) (Some x) o) (first_is_find p (front ++ x ∷ []) xs)

-- `each_where` of a function of the element only is `filter_map`
pub each_is_filter_map : {X Y : Type 0} (f : X → Option Y) (front xs : List X) → each_from (λ _ x _. f x) front xs ≡ filter_map f xs
each_is_filter_map f front [] = refl
each_is_filter_map f front (x ∷ xs) = ap (λ ys. cons_option (f x) ys) (each_is_filter_map f (front ++ x ∷ []) xs)

-- an option or else None is the option
pub option_or-None : {X : Type 0} (o : Option X) → option_or o None ≡ o
option_or-None None = refl
option_or-None (Some x) = refl

-- the last element that passes of two joined lists
pub last_such-append : {X : Type 0} (p : X → Bool) (xs ys : List X) → last_such p (xs ++ ys) ≡ option_or (last_such p ys) (last_such p xs)
last_such-append p xs ys = ap (find p) (reverse-append xs ys) ∙ find-append p (reverse ys) (reverse xs)

-- the last element that passes of a list with one more at its head
pub last_such-cons : {X : Type 0} (p : X → Bool) (x : X) (xs : List X) → last_such p (x ∷ xs) ≡ option_or (last_such p xs) (cond (p x) (Some x) None)
last_such-cons p x xs = last_such-append p (x ∷ []) xs

-- the last element that passes of a list with one more at its end
pub last_such-push : {X : Type 0} (p : X → Bool) (xs : List X) (x : X) → last_such p (xs ++ x ∷ []) ≡ cond (p x) (Some x) (last_such p xs)
last_such-push p xs x = last_such-append p xs (x ∷ []) ∙ elim (cases_Bool (p x)) [ inl e ↦ rw e refl | inr e ↦ rw e refl ]

-- one step of a loop that keeps the last element that passes
pub last_such_more : {X : Type 0} (p : X → Bool) (xs : List X) (i : ℕ) (d : X) → i < length xs
    → last_such p (take (i + 1) xs) ≡ cond (p (get_or xs i d)) (Some (get_or xs i d)) (last_such p (take i xs))
last_such_more p xs i d h = ap (last_such p) (take_more xs i d h) ∙ last_such-push p (take i xs) (get_or xs i d)

-- `last_such` is None if no element passes
pub last_such_none : {X : Type 0} (p : X → Bool) (xs : List X) → list_any p xs ≡ false → last_such p xs ≡ None
last_such_none p [] e = refl
last_such_none p (x ∷ xs) e =
    let parts = or_parts (p x) (list_any p xs) e in
    last_such-cons p x xs ∙ rw (last_such_none p xs parts.1, parts.0) refl

-- an element that passes is the last one if none after it passes
pub last_such_here : {X : Type 0} (p : X → Bool) (xs : List X) (x : X) (ys : List X) → p x ≡ true → list_any p ys ≡ false → last_such p (xs ++ x ∷ ys) ≡ Some x
last_such_here p xs x ys e none = last_such-append p xs (x ∷ ys) ∙ rw (last_such-cons p x ys, last_such_none p ys none, e) refl

-- if each element from a place on fails, no element of the rest passes
pub list_any_rest : {X : Type 0} (p : X → Bool) (xs : List X) (n : ℕ) → AllWithin (λ y. p y ≡ false) xs n (length xs) → list_any p (drop n xs) ≡ false
list_any_rest p xs n h = list_any_none p (drop n xs) (λ k d l. rw (get_or-drop n xs k d) (h (n + k) d (omega arith) (omega (arith, length-drop n xs))))

-- the last that passes is just before the place that `partition_point` finds
pub last_such_at : {X : Type 0} (p : X → Bool) (xs : List X) (n : ℕ) (d : X) → 0 < n → n ≤ length xs
    → IsPartitionPoint (λ y. p y ≡ true) (λ y. p y ≡ false) xs n → last_such p xs ≡ Some (get_or xs (n - 1) d)
last_such_at p xs n d some within parts =
    let here : n - 1 < length xs = omega arith in
    let next : n - 1 + 1 ≡ n = omega arith in
    let none : list_any p (drop (n - 1 + 1) xs) ≡ false = rw next (list_any_rest p xs n parts.1) in
    let split : xs ≡ take (n - 1) xs ++ get_or xs (n - 1) d ∷ drop (n - 1 + 1) xs = sym (take-append-drop (n - 1) xs)
    ∙ ap (λ rest. take (n - 1) xs ++ rest) (drop_more xs (n - 1) d here) in
    ap (last_such p) split ∙ last_such_here p (take (n - 1) xs) (get_or xs (n - 1) d) (drop (n - 1 + 1) xs) (parts.0 (n - 1) d (omega arith) (omega arith)) none

-- none passes if `partition_point` finds place 0
pub last_such_nowhere : {X : Type 0} (p : X → Bool) (xs : List X) → IsPartitionPoint (λ y. p y ≡ true) (λ y. p y ≡ false) xs 0 → last_such p xs ≡ None
last_such_nowhere p xs parts = last_such_none p xs (list_any_rest p xs 0 parts.1)
