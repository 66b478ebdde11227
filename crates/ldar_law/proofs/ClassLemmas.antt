-- Classes in key order: those entered by a day are a prefix, and the last of these is the class in force.
use Rattle.std.proofs.Common.{◌≡◌, ℕ, zero, suc, ◌-◌, ◌<◌, ◌≤◌, true, false, nat_le, Bool, Some, None, List, [], ◌∷◌, length, get_or, slice_get}
use Rattle.std.proofs.Common.{option_map, unwrap_or, refl, sym, ap, ◌∙◌, inl, inr, arith}
use Rattle.std.specs.List.Sorted.{IsPartitionedBy, IsPartitionPoint}
use Rattle.std.specs.Option.{option_map_or}
use Rattle.std.proofs.lemmas.Bool.{cases_Bool, false≢true, le-leb, lt-leb, leb-true, leb-false}
use Rattle.list_words.specs.Order.{Ascends}
use Rattle.list_words.proofs.WordLemmas.{last_such_at, last_such_nowhere}
use Rattle.fact_kinds.specs.declared.class.Class.{Class}
use Rattle.fact_kinds.specs.declared.key.Key.{Key}
use Rattle.fact_kinds.specs.Facts.{is_earlier}
use Rattle.ldar_law.specs.ClassInForce.{HasEntered}
use Rattle.ldar_law.specs.declared.equipment.Equipment.{Equipment}
use Rattle.ldar_law.specs.Force.{class_by, class_on}
use Rattle.ldar_law.proofs.KeyFronts.{days_in_front}

-- ---- the class in force

-- the classes entered by a day are a prefix of the classes in key order
pub entered_in_front : (day : ℕ) (classes : List (Key × Class)) → Ascends (λ a b. is_earlier a.0 b.0) classes →
    IsPartitionedBy (λ e. nat_le e.0.day day) classes
entered_in_front = days_in_front (λ e. e.0)

-- the last class of the prefix is the last one entered by the day
pub last_of_front : (day : ℕ) (classes : List (Key × Class)) (n : ℕ) (d : Key × Class) → 0 < n → n ≤ length classes → HasEntered day classes n →
    Some (get_or classes (n - 1) d) ≡ class_by day classes
last_of_front day classes n d some within parts = sym (last_such_at (λ e. nat_le e.0.day day) classes n d some within parts)

-- if the prefix is empty, no class was entered by the day
pub none_in_front : (day : ℕ) (classes : List (Key × Class)) → HasEntered day classes 0 → None ≡ class_by day classes
none_in_front day classes parts = sym (last_such_nowhere (λ e. nat_le e.0.day day) classes parts)

-- the class in force is the last one of the prefix
pub class_of_front : (item : Equipment) (classes : List (Key × Class)) (day n : ℕ) (d : Key × Class) → 0 < n → n ≤ length classes →
    HasEntered day classes n → (get_or classes (n - 1) d).1 ≡ class_on item classes day
class_of_front item classes day n d some within parts =
    ap (λ o. unwrap_or (option_map (λ e. e.1) o) item.class) (last_of_front day classes n d some within parts)

-- if the prefix is empty, the class in force is the one with which the component was entered
pub class_of_none : (item : Equipment) (classes : List (Key × Class)) (day : ℕ) → HasEntered day classes 0 → item.class ≡ class_on item classes day
class_of_none item classes day parts = ap (λ o. unwrap_or (option_map (λ e. e.1) o) item.class) (none_in_front day classes parts)

-- ---- a place in a list, and its two neighbours

-- a test of the element at a place
test_at : {X : Type 0} (p : X → Bool) (xs : List X) (i : ℕ) (d : X) → i < length xs → option_map_or p (slice_get xs i) false ≡ p (get_or xs i d)
test_at p [] i d within = absurd (omega arith)
test_at p (x ∷ xs) zero d within = refl
test_at p (x ∷ xs) (suc i) d within = test_at p xs i d (omega (arith, within))

-- if the test passes, there is an element at the place
test_within : {X : Type 0} (p : X → Bool) (xs : List X) (i : ℕ) → option_map_or p (slice_get xs i) false ≡ true → i < length xs
test_within p [] zero t = absurd (false≢true t)
test_within p [] (suc i) t = absurd (false≢true t)
test_within p (x ∷ xs) zero t = omega arith
test_within p (x ∷ xs) (suc i) t = omega (arith, test_within p xs i t)

-- the result of a test at a place, from its result on the element there, for any default
test_is : {X : Type 0} (p : X → Bool) (xs : List X) (i : ℕ) (b : Bool) → i < length xs → ((d : X) → p (get_or xs i d) ≡ b) →
    option_map_or p (slice_get xs i) false ≡ b
test_is p [] i b within all = absurd (omega (arith, within))
test_is p (x ∷ xs) i b within all = test_at p (x ∷ xs) i x within ∙ all x

-- the test fails at a place if the element there fails or does not exist
test_fails : {X : Type 0} (p : X → Bool) (xs : List X) (i : ℕ) → ((d : X) → i < length xs → p (get_or xs i d) ≡ false) →
    option_map_or p (slice_get xs i) false ≡ false
test_fails p [] zero all = refl
test_fails p [] (suc i) all = refl
test_fails p (x ∷ xs) zero all = all x (omega arith)
test_fails p (x ∷ xs) (suc i) all = test_fails p xs i (λ d within. all d (omega (arith, within)))

-- if the elements that pass are a prefix, the prefix ends at a place before which one passes and at which none does
module _ {X : Type 0} (p : X → Bool) (xs : List X) (parted : IsPartitionedBy p xs) where
  -- from a place at which the test fails on, no element passes
  ends_front : (place : ℕ) → option_map_or p (slice_get xs place) false ≡ false → (k : ℕ) (d : X) → place ≤ k → k < length xs → p (get_or xs k d) ≡ false
  ends_front place none k d le within =
      elim (cases_Bool (p (get_or xs k d))) [
        | inl t ↦ absurd (false≢true (sym none ∙ test_at p xs place d (omega (arith, le, within)) ∙ parted place k d le within t))
        | inr f ↦ f
      ]

  -- if the test fails at the first place, the prefix is empty
  empty_front : option_map_or p (slice_get xs 0) false ≡ false → IsPartitionPoint (λ x. p x ≡ true) (λ x. p x ≡ false) xs 0
  empty_front none = (λ k d low l. absurd (omega (arith, l)), λ k d low l. ends_front 0 none k d low l)

  -- if the test fails at a place and passes before it, the prefix ends there
  front_to : (place : ℕ) → 0 < place → option_map_or p (slice_get xs place) false ≡ false → option_map_or p (slice_get xs (place - 1)) false ≡ true →
      IsPartitionPoint (λ x. p x ≡ true) (λ x. p x ≡ false) xs place
  front_to place some none last =
      let within : place - 1 < length xs = test_within p xs (place - 1) last in (
        λ k d low l. parted k (place - 1) d (omega (arith, l)) within (sym (test_at p xs (place - 1) d within) ∙ last),
        λ k d low l. ends_front place none k d low l,
      )

-- ---- days and counts of classes

-- on each day from the entry of the class before a place to before the entry of the class at it, exactly the classes before the place are
-- entered
pub entered_between : (classes : List (Key × Class)) (place first end day : ℕ) → IsPartitionedBy (λ e. nat_le e.0.day day) classes →
    (0 < place → option_map_or (λ e. nat_le e.0.day day) (slice_get classes (place - 1)) false ≡ nat_le first day) →
    option_map_or (λ e. nat_le e.0.day day) (slice_get classes place) false ≡ nat_le end day → first ≤ day → day < end → HasEntered day classes place
entered_between classes zero first end day parted last next low high =
    empty_front (λ (e : Key × Class). nat_le e.0.day day) classes parted (next ∙ lt-leb end day high)
entered_between classes (suc place) first end day parted last next low high =
    front_to (λ (e : Key × Class). nat_le e.0.day day) classes parted (suc place) (omega arith) (next ∙ lt-leb end day high)
    (last (omega arith) ∙ le-leb first day low)

-- on each day from the entry of the class at a place on, the classes before the place are entered too
pub front_entered : (classes : List (Key × Class)) (place end day : ℕ) → IsPartitionedBy (λ e. nat_le e.0.day day) classes →
    option_map_or (λ e. nat_le e.0.day day) (slice_get classes place) false ≡ nat_le end day → end ≤ day →
    (k : ℕ) (e : Key × Class) → k < place → (get_or classes k e).0.day ≤ day
front_entered classes place end day parted next late k e low =
    let there = next ∙ le-leb end day late in
    let within = test_within (λ (x : Key × Class). nat_le x.0.day day) classes place there in
    leb-true (get_or classes k e).0.day day (parted k place e (omega (arith, low)) within
    (sym (test_at (λ (x : Key × Class). nat_le x.0.day day) classes place e within) ∙ there))

-- a day by which exactly the classes before a place were entered is between those two days
pub day_between : (classes : List (Key × Class)) (place first end day : ℕ) → place ≤ length classes → HasEntered day classes place → (place ≡ 0 → first ≡ 0) →
    (0 < place → option_map_or (λ e. nat_le e.0.day day) (slice_get classes (place - 1)) false ≡ nat_le first day) →
    option_map_or (λ e. nat_le e.0.day day) (slice_get classes place) false ≡ nat_le end day → (first ≤ day) × (day < end)
day_between classes zero first end day within entered none last next = (
  omega (arith, none refl),
  leb-false end day (sym next ∙ test_fails (λ (e : Key × Class). nat_le e.0.day day) classes 0 (λ d inside. entered.1 0 d (omega arith) inside)),
)
day_between classes (suc place) first end day within entered none last next = (
  leb-true first day (sym (last (omega arith))
      ∙ test_is (λ (e : Key × Class). nat_le e.0.day day) classes (suc place - 1) true (omega (arith, within))
      (λ d. entered.0 (suc place - 1) d (omega arith) (omega arith))),
  leb-false end day (sym next
      ∙ test_fails (λ (e : Key × Class). nat_le e.0.day day) classes (suc place) (λ d inside. entered.1 (suc place) d (omega arith) inside)),
)

-- if the classes before a place were entered by the day and the one at it was not, exactly those are entered
pub entered_to : (classes : List (Key × Class)) (place day : ℕ) → IsPartitionedBy (λ e. nat_le e.0.day day) classes →
    ((k : ℕ) (e : Key × Class) → k < place → (get_or classes k e).0.day ≤ day) →
    ((e : Key × Class) → place < length classes → nat_le (get_or classes place e).0.day day ≡ false) → HasEntered day classes place
entered_to classes place day parted front next = (
  λ k e low lt. le-leb (get_or classes k e).0.day day (front k e lt),
  λ k e from within.
      elim (cases_Bool (nat_le (get_or classes k e).0.day day)) [
        | inl t ↦ absurd (false≢true (sym (next e (omega (arith, from, within))) ∙ parted place k e from within t))
        | inr f ↦ f
      ],
)
