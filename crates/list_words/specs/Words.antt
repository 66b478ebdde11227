-- Words that see an element together with the elements before it and after it: somewhere, the first, each, the last.
use Rattle.std.specs.Prelude.{◌≡◌, ◌↔◌, Bool, true, false, ◌||◌, Decides, Option, Some, None, is_some, if◌then◌else◌, List, [], ◌∷◌, ◌++◌, reverse, find}
use Rattle.std.specs.Prelude.{Contains}
use Rattle.std.specs.List.{list_any, cons_option}
use Rattle.std.specs.Option.{option_or}

-- some element passes, seen with those before it and after it; the walk starts after the prefix `front`
abbrev pub somewhere_from : {X : Type 0} → (List X → X → List X → Bool) → List X → List X → Bool
somewhere_from p front [] = false
somewhere_from p front (x ∷ after) = p front x after || somewhere_from p (front ++ x ∷ []) after

-- some element passes, seen with those before it and after it
abbrev pub somewhere : {X : Type 0} → (List X → X → List X → Bool) → List X → Bool
somewhere p xs = somewhere_from p [] xs

-- the first element that passes; the walk starts after the prefix `front`
abbrev pub first_from : {X : Type 0} → (List X → X → List X → Bool) → List X → List X → Option X
first_from p front [] = None
first_from p front (x ∷ after) = if p front x after then Some x else first_from p (front ++ x ∷ []) after

-- the first element that passes, seen with those before it and after it
abbrev pub first_where : {X : Type 0} → (List X → X → List X → Bool) → List X → Option X
first_where p xs = first_from p [] xs

-- the value of the first element that has one; the walk starts after the prefix `front`
abbrev pub first_given_from : {X Y : Type 0} → (List X → X → List X → Option Y) → List X → List X → Option Y
first_given_from f front [] = None
first_given_from f front (x ∷ after) = option_or (f front x after) (first_given_from f (front ++ x ∷ []) after)

-- the value of the first element that has one, seen with those before it and after it
abbrev pub first_given : {X Y : Type 0} → (List X → X → List X → Option Y) → List X → Option Y
first_given f xs = first_given_from f [] xs

-- the values of the elements, in order; the walk starts after the prefix `front`
abbrev pub each_from : {X Y : Type 0} → (List X → X → List X → Option Y) → List X → List X → List Y
each_from f front [] = []
each_from f front (x ∷ after) = cons_option (f front x after) (each_from f (front ++ x ∷ []) after)

-- the values of the elements, in order, each seen with those before it and after it
abbrev pub each_where : {X Y : Type 0} → (List X → X → List X → Option Y) → List X → List Y
each_where f xs = each_from f [] xs

-- the last element that passes; in a list in key order, the one with the greatest key
abbrev pub last_such : {X : Type 0} → (X → Bool) → List X → Option X
last_such p xs = find p (reverse xs)

-- an element of the list passes, seen with the elements before it and after it
pub record Passes {X : Type 0} (p : List X → X → List X → Bool) (xs : List X) (x : X) : Type 0 where
  pub before : List X
  pub after : List X
  pub stands : xs ≡ before ++ x ∷ after
  pub passes : p before x after ≡ true

-- an element passes, and no element before it does
pub record PassesFirst {X : Type 0} (p : List X → X → List X → Bool) (xs : List X) (x : X) : Type 0 where
  pub before : List X
  pub after : List X
  pub stands : xs ≡ before ++ x ∷ after
  pub passes : p before x after ≡ true
  pub none_before : (a : List X) (y : X) (b : List X) → before ≡ a ++ y ∷ b → p a y (b ++ x ∷ after) ≡ false

-- an element has this value, and no element before it has a value
pub record GivesFirst {X Y : Type 0} (f : List X → X → List X → Option Y) (xs : List X) (given : Y) : Type 0 where
  pub before : List X
  pub element : X
  pub after : List X
  pub stands : xs ≡ before ++ element ∷ after
  pub gives : f before element after ≡ Some given
  pub none_before : (a : List X) (y : X) (b : List X) → before ≡ a ++ y ∷ b → f a y (b ++ element ∷ after) ≡ None

-- an element has this value, seen with the elements before it and after it
pub record Gives {X Y : Type 0} (f : List X → X → List X → Option Y) (xs : List X) (given : Y) : Type 0 where
  pub before : List X
  pub element : X
  pub after : List X
  pub stands : xs ≡ before ++ element ∷ after
  pub gives : f before element after ≡ Some given

-- an element passes, and no element after it does
pub record PassesLast {X : Type 0} (p : X → Bool) (xs : List X) (x : X) : Type 0 where
  pub before : List X
  pub after : List X
  pub stands : xs ≡ before ++ x ∷ after
  pub passes : p x ≡ true
  pub none_after : list_any p after ≡ false

-- `somewhere` is true exactly if some element passes
abbrev pub SomewhereDecides : Type 0 → Type 0
SomewhereDecides X = (p : List X → X → List X → Bool) (xs : List X) → Decides (somewhere p xs) ((x : X) × Passes p xs x)

-- `first_where` returns the first element that passes
abbrev pub FirstWhereIsFirst : Type 0 → Type 0
FirstWhereIsFirst X = (p : List X → X → List X → Bool) (xs : List X) (x : X) → (first_where p xs ≡ Some x) ↔ PassesFirst p xs x

-- `first_where` returns an element exactly if one passes
abbrev pub FirstWhereFinds : Type 0 → Type 0
FirstWhereFinds X = (p : List X → X → List X → Bool) (xs : List X) → is_some (first_where p xs) ≡ somewhere p xs

-- `first_given` returns the value of the first element that has one
abbrev pub FirstGivenIsFirst : Type 0 → Type 0 → Type 0
FirstGivenIsFirst X Y =
    (f : List X → X → List X → Option Y) (xs : List X) (given : Y) → (first_given f xs ≡ Some given) ↔ GivesFirst f xs given

-- `first_given` returns a value exactly if some element has one
abbrev pub FirstGivenFinds : Type 0 → Type 0 → Type 0
FirstGivenFinds X Y =
    (f : List X → X → List X → Option Y) (xs : List X)
    → is_some (first_given f xs) ≡ somewhere (λ before x after. is_some (f before x after)) xs

-- `each_where` contains exactly the values of the elements
abbrev pub EachWhereHolds : Type 0 → Type 0 → Type 0
EachWhereHolds X Y =
    (f : List X → X → List X → Option Y) (xs : List X) (given : Y) → Contains (each_where f xs) given ↔ Gives f xs given

-- `last_such` returns the last element that passes
abbrev pub LastSuchIsLast : Type 0 → Type 0
LastSuchIsLast X = (p : X → Bool) (xs : List X) (x : X) → (last_such p xs ≡ Some x) ↔ PassesLast p xs x

-- `last_such` returns an element exactly if one passes
abbrev pub LastSuchFinds : Type 0 → Type 0
LastSuchFinds X = (p : X → Bool) (xs : List X) → is_some (last_such p xs) ≡ list_any p xs
