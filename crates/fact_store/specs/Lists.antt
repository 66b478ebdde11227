-- Lists by number: their elements, their room, and what an insertion changes.
use Rattle.std.specs.Prelude.{◌≡◌, ℕ, ◌+◌, ◌-◌, ◌≤◌, zero, suc, nat_eq, if◌then◌else◌, Vec, Option, List, [], ◌∷◌, ◌++◌, insert, count_by}
use Rattle.std.specs.Vec.{vec_len, vec_capacity}
use Rattle.fact_kinds.specs.Named.{is_numbered}

-- the value of the element at a place, or a default past the end
abbrev pub value_at : {V Y : Type 0} → (V → Y) → Y → List V → ℕ → Y
value_at f none [] i = none
value_at f none (v ∷ vs) zero = f v
value_at f none (v ∷ vs) (suc i) = value_at f none vs i

-- the elements in the list of a number
abbrev pub items_in : {X Z : Type 0} → List (Vec X Z) → ℕ → List X
items_in lists number = value_at (λ v. v.items) [] lists number

-- the number of elements that can be added to the list of a number without allocating
abbrev pub room_in : {X Z : Type 0} → List (Vec X Z) → ℕ → ℕ
room_in lists number = value_at (λ v. vec_capacity v - vec_len v) 0 lists number

-- each list has the same elements, and at least the same room
pub record OnlyGrow {X Z : Type 0} (old new : List (Vec X Z)) : Type 0 where
  pub items : (number : ℕ) → items_in new number ≡ items_in old number
  pub room : (number : ℕ) → room_in old number ≤ room_in new number

-- each list has room for its number as often as it occurs among these
abbrev pub HaveRoomForEach : {X Z : Type 0} → List ℕ → List (Vec X Z) → Type 0
HaveRoomForEach numbers lists = (number : ℕ) → count_by (λ n. nat_eq n number) numbers ≤ room_in lists number

-- one element was inserted at an index of one list, and the other lists are unchanged
pub record PutsIn {X Z : Type 0} (number index : ℕ) (element : X) (old new : List (Vec X Z)) : Type 0 where
  pub items : (n : ℕ) → items_in new n ≡ (if nat_eq number n then insert (items_in old n) index element else items_in old n)
  pub room : (n : ℕ) → room_in old n ≤ room_in new n + (if nat_eq number n then 1 else 0)

-- one element was appended to the list of a number, if there is a number, and the other lists are unchanged
pub record Pushes {X Z : Type 0} (number : Option ℕ) (element : X) (old new : List (Vec X Z)) : Type 0 where
  pub items : (n : ℕ) → items_in new n ≡ (if is_numbered number n then items_in old n ++ element ∷ [] else items_in old n)
  pub room : (n : ℕ) → room_in old n ≤ room_in new n + (if is_numbered number n then 1 else 0)
