-- Lists that a loop makes of what each element gives, and lists in order.
use Rattle.std.proofs.Common.{◌≡◌, ℕ, Bool, true, nat_lt, Option, Some, None, List}
use Rattle.std.proofs.Common.{[], ◌∷◌, map, refl, sym, ap, ◌∙◌, subst}
use Rattle.std.specs.List.{AllByRecursion, cons_option, filter_map}
use Rattle.std.specs.Option.{IfSome}
use Rattle.list_words.specs.Order.{Ascends}

-- ---- in order

-- a property of the image of each element is one of each image
pub all_map : {X Y : Type 0} (P : Y → Type 0) (f : X → Y) (xs : List X) → AllByRecursion (λ x. P (f x)) xs → AllByRecursion P (map f xs)
all_map P f [] all = tt
all_map P f (x ∷ xs) all = (all.0, all_map P f xs all.1)

-- a list ascends as what each element gives of it does
pub ascends_map : {X Y : Type 0} (before : Y → Y → Bool) (f : X → Y) (xs : List X)
    → Ascends (λ a b. before (f a) (f b)) xs → Ascends before (map f xs)
ascends_map before f [] up = tt
ascends_map before f (x ∷ xs) up = (all_map (λ y. before (f x) y ≡ true) f xs up.0, ascends_map before f xs up.1)

-- what some ascending numbers give ascends by number, where each gives what has its number
module _ {X : Type 0} (number : X → ℕ) (f : ℕ → Option X) (numbered : (n : ℕ) (x : X) → f n ≡ Some x → number x ≡ n) where
  given_above : (least : ℕ) (ns : List ℕ) → AllByRecursion (λ n. nat_lt least n ≡ true) ns
      → AllByRecursion (λ x. nat_lt least (number x) ≡ true) (filter_map f ns)
  given_above least [] all = tt
  given_above least (n ∷ ns) all =
      elim (f n) as (λ o. f n ≡ o → AllByRecursion (λ x. nat_lt least (number x) ≡ true) (cons_option o (filter_map f ns))) [
        | None ↦ λ is. given_above least ns all.1
        | Some x ↦ λ is. (ap (nat_lt least) (numbered n x is) ∙ all.0, given_above least ns all.1)
      ] refl

  pub given_ascend : (ns : List ℕ) → Ascends nat_lt ns → Ascends (λ a b. nat_lt (number a) (number b)) (filter_map f ns)
  given_ascend [] up = tt
  given_ascend (n ∷ ns) up =
      elim (f n) as (λ o. f n ≡ o → Ascends (λ a b. nat_lt (number a) (number b)) (cons_option o (filter_map f ns))) [
        | None ↦ λ is. given_ascend ns up.1
        | Some x ↦ λ is. (
          subst (λ m. AllByRecursion (λ y. nat_lt m (number y) ≡ true) (filter_map f ns)) (sym (numbered n x is)) (given_above n ns up.0),
          given_ascend ns up.1,
        )
      ] refl

-- a property of the image of each number is one of each image
pub all_given : {X : Type 0} (P : X → Type 0) (f : ℕ → Option X) (ns : List ℕ) → ((n : ℕ) (x : X) → f n ≡ Some x → P x)
    → AllByRecursion P (filter_map f ns)
all_given P f [] holds = tt
all_given P f (n ∷ ns) holds =
    elim (f n) as (λ o. f n ≡ o → AllByRecursion P (cons_option o (filter_map f ns))) [
      | None ↦ λ is. all_given P f ns holds
      | Some x ↦ λ is. (holds n x is, all_given P f ns holds)
    ] refl

-- a property of a value holds if there is a value
pub some_holds : {X : Type 0} (P : X → Type 0) (o : Option X) → ((x : X) → o ≡ Some x → P x) → IfSome o P
some_holds P None holds = tt
some_holds P (Some x) holds = holds x refl
