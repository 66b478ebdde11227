-- Lists that a loop makes of what each element gives.
use Rattle.std.proofs.Common.{◌≡◌, ℕ, zero, suc, ◌+◌, ◌-◌, ◌<◌, ◌≤◌, Bool, true, Option, Some, None, List, [], ◌∷◌, ◌++◌, length, take, drop, map, filter, get_or}
use Rattle.std.proofs.Common.{refl, sym, ap, ◌∙◌, subst, inl, inr, arith}
use Rattle.std.specs.List.{AllByRecursion, cons_option, filter_map, range_with_len}
use Rattle.std.specs.Option.{IfSome, option_to_list}
use Rattle.std.proofs.lemmas.Bool.{cases_Bool}
use Rattle.std.proofs.lemmas.List.{take_at, take_more, drop_more, drop_all, append_assoc, append-nil, map_more}
use Rattle.std.proofs.lemmas.List.Elements.{filter_map-append}
use Rattle.std.proofs.lemmas.List.FromFn.{get_or-map-range_with_len, length-map-range_with_len, map-range_with_len_more}
use Rattle.list_words.specs.Order.{Ascends}
use Rattle.list_words.specs.Ranges.{until, from_to}
use Rattle.list_words.proofs.WordLemmas.{cons_option_is}

-- what is made so far and what the rest gives, once the next element has given something or nothing
pub given_pushed : {X Y : Type 0} (f : X → Option Y) (done : List Y) (xs : List X) (i : ℕ) (d : X) → i < length xs
    → (done ++ option_to_list (f (get_or xs i d))) ++ filter_map f (drop (i + 1) xs) ≡ done ++ filter_map f (drop i xs)
given_pushed f done xs i d within = rw (drop_more xs i d within, cons_option_is, append_assoc) refl

-- .. and at the end
pub given_done : {X Y : Type 0} (f : X → Option Y) (done all : List Y) (xs : List X) (i : ℕ) → length xs ≤ i
    → done ++ filter_map f (drop i xs) ≡ all → done ≡ all
given_done f done all xs i end is =
    sym (append-nil done) ∙ ap (λ ys. done ++ filter_map f ys) (sym (drop_all i xs end)) ∙ is

-- what the elements so far give, with the next
pub given_next : {X Y : Type 0} (f : X → Option Y) (xs : List X) (i : ℕ) (x : X) → i < length xs → x ≡ get_or xs i x
    → filter_map f (take (i + 1) xs) ≡ filter_map f (take i xs) ++ option_to_list (f x)
given_next f xs i x within is =
    ap (filter_map f) (take_more xs i x within) ∙ filter_map-append f (take i xs) (get_or xs i x ∷ [])
    ∙ ap (λ ys. filter_map f (take i xs) ++ ys) (cons_option_is (f (get_or xs i x)) [] ∙ append-nil (option_to_list (f (get_or xs i x))))
    ∙ ap (λ y. filter_map f (take i xs) ++ option_to_list (f y)) (sym is)

-- a list of what each element gives, with one more
pub mapped_more : {X Y : Type 0} (f : X → Y) (xs : List X) (i : ℕ) (x : X) → i < length xs → x ≡ get_or xs i x
    → map f (take (i + 1) xs) ≡ map f (take i xs) ++ f x ∷ []
mapped_more f xs i x within is = map_more f xs i x within ∙ ap (λ y. map f (take i xs) ++ f y ∷ []) (sym is)

few_with : {Y : Type 0} (o : Option Y) (ys : List Y) (most : ℕ) → length ys ≤ most → length (cons_option o ys) ≤ suc most
few_with None ys most few = omega (arith, few)
few_with (Some y) ys most few = omega (arith, few)

-- no more is given than there are elements
pub few_given : {X Y : Type 0} (f : X → Option Y) (xs : List X) → length (filter_map f xs) ≤ length xs
few_given f [] = omega arith
few_given f (x ∷ xs) = few_with (f x) (filter_map f xs) (length xs) (few_given f xs)

-- ---- of the numbers of a range

-- lists of what each number gives are one, where each gives the same
alike_range : {Y : Type 0} (f g : ℕ → Y) (low len : ℕ) → ((n : ℕ) → low ≤ n → n < low + len → f n ≡ g n)
    → map f (range_with_len low len) ≡ map g (range_with_len low len)
alike_range f g low zero same = refl
alike_range f g low (suc len) same =
    ap (λ y. y ∷ map f (range_with_len (low + 1) len)) (same low (omega arith) (omega arith))
    ∙ ap (λ ys. g low ∷ ys) (alike_range f g (low + 1) len (λ n above below. same n (omega arith) (omega arith)))

pub alike_numbers : {Y : Type 0} (f g : ℕ → Y) (last : ℕ) → ((n : ℕ) → 1 ≤ n → n ≤ last → f n ≡ g n)
    → map f (from_to 1 last) ≡ map g (from_to 1 last)
unfolding until
alike_numbers f g last same = alike_range f g 1 (last + 1 - 1) (λ n above below. same n above (omega arith))

-- the list is as long as the last number
pub numbers_long : {Y : Type 0} (f : ℕ → Y) (last : ℕ) → length (map f (from_to 1 last)) ≡ last
unfolding until
numbers_long f last = length-map-range_with_len f 1 (last + 1 - 1) ∙ omega arith

-- a number's own stands one place before it
pub number_at : {Y : Type 0} (f : ℕ → Y) (last k : ℕ) (d : Y) → k < last → get_or (map f (from_to 1 last)) k d ≡ f (k + 1)
unfolding until
number_at f last k d within = get_or-map-range_with_len f 1 (last + 1 - 1) k (k + 1) d (omega arith) (omega arith)

-- the last one stands behind the others
pub number_last : {Y : Type 0} (f : ℕ → Y) (last : ℕ) → 1 ≤ last → map f (from_to 1 last) ≡ map f (from_to 1 (last - 1)) ++ f last ∷ []
unfolding until
number_last f last some =
    let more : last + 1 - 1 ≡ (last - 1 + 1 - 1) + 1 = omega arith in
    ap (λ n. map f (range_with_len 1 n)) more ∙ map-range_with_len_more f 1 (last - 1 + 1 - 1) last (omega arith)

-- .. which are its front
pub number_front : {Y : Type 0} (f : ℕ → Y) (last : ℕ) → 1 ≤ last → take (last - 1) (map f (from_to 1 last)) ≡ map f (from_to 1 (last - 1))
number_front f last some =
    ap (take (last - 1)) (number_last f last some)
    ∙ take_at (map f (from_to 1 (last - 1))) (f last ∷ []) (last - 1) (numbers_long f (last - 1))

-- what holds of each element holds of the one at a place
pub all_get : {X : Type 0} (P : X → Type 0) (xs : List X) (i : ℕ) (d : X) → AllByRecursion P xs → i < length xs → P (get_or xs i d)
all_get P [] i d all within = absurd (omega (arith, within))
all_get P (x ∷ xs) zero d all within = all.0
all_get P (x ∷ xs) (suc i) d all within = all_get P xs i d all.1 (omega (arith, within))

-- .. and of an element that is there
pub all_item : {X : Type 0} (P : X → Type 0) (xs : List X) (i : ℕ) (x : X) → AllByRecursion P xs → i < length xs → x ≡ get_or xs i x → P x
all_item P xs i x all within is = subst P (sym is) (all_get P xs i x all within)

-- ---- in order

-- what holds of each element holds of each that passes a test
all_part : {X : Type 0} (P : X → Type 0) (test : X → Bool) (xs : List X) → AllByRecursion P xs → AllByRecursion P (filter test xs)
all_part P test [] all = tt
all_part P test (x ∷ xs) all = elim (cases_Bool (test x)) [
  | inl keeps ↦ rw keeps (all.0, all_part P test xs all.1)
  | inr drops ↦ rw drops (all_part P test xs all.1)
]

-- those that pass a test are in order as all are
pub part_in_order : {X : Type 0} (before : X → X → Bool) (test : X → Bool) (xs : List X) → Ascends before xs → Ascends before (filter test xs)
part_in_order before test [] up = tt
part_in_order before test (x ∷ xs) up = elim (cases_Bool (test x)) [
  | inl keeps ↦ rw keeps (all_part (λ y. before x y ≡ true) test xs up.0, part_in_order before test xs up.1)
  | inr drops ↦ rw drops (part_in_order before test xs up.1)
]

-- one more at the end
pub all_pushed : {X : Type 0} (P : X → Type 0) (xs : List X) (o : Option X) → AllByRecursion P xs → IfSome o P → AllByRecursion P (xs ++ option_to_list o)
all_pushed P [] None all this = tt
all_pushed P [] (Some x) all this = (this, tt)
all_pushed P (x ∷ xs) o all this = (all.0, all_pushed P xs o all.1 this)
