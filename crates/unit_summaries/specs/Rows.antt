-- Rows by number, each up to date or not.
use Rattle.std.specs.Prelude.{◌≡◌, ◌⊎◌, ℕ, Bool, true, ◌&&◌, not, nat_eq, if◌then◌else◌, Option, Some, None, List, slice_get}
use Rattle.touched_readings.specs.Flags.{flag_of}

-- the element at a number, if there is one
abbrev pub slot_in : {X : Type 0} → List (Option X) → ℕ → Option X
slot_in slots number = elim (slice_get slots number) [
  | None ↦ None
  | Some slot ↦ slot
]

-- rows at their numbers, and which of them are up to date
pub record Rows (T : Type 0) : Type 0 where
  pub slots : List (Option T)
  pub fresh : List Bool

-- the row of a number, if there is one
abbrev pub row_of : {T : Type 0} → Rows T → ℕ → Option T
row_of rows number = slot_in rows.slots number

-- .. and whether it is up to date
abbrev pub is_fresh : {T : Type 0} → Rows T → ℕ → Bool
is_fresh rows number = flag_of rows.fresh number

-- the same rows
pub record SameRows {T : Type 0} (old new : Rows T) : Type 0 where
  pub row : (n : ℕ) → row_of new n ≡ row_of old n
  pub fresh : (n : ℕ) → is_fresh new n ≡ is_fresh old n

-- the row of one number was put, and is up to date
pub record PutsRow {T : Type 0} (number : ℕ) (put : T) (old new : Rows T) : Type 0 where
  pub row : (n : ℕ) → row_of new n ≡ (if nat_eq n number then Some put else row_of old n)
  pub fresh : (n : ℕ) → is_fresh new n ≡ (if nat_eq n number then true else is_fresh old n)

-- the rows of these numbers are no more up to date
pub record Stales {T : Type 0} (stale : ℕ → Bool) (old new : Rows T) : Type 0 where
  pub row : (n : ℕ) → row_of new n ≡ row_of old n
  pub fresh : (n : ℕ) → is_fresh new n ≡ (is_fresh old n && not (stale n))

-- some rows were put that say this of their numbers; those that were up to date still are
pub record RenewsRows {T : Type 0} (says : ℕ → T → Type 0) (old new : Rows T) : Type 0 where
  pub fresh : (n : ℕ) → is_fresh old n ≡ true → is_fresh new n ≡ true
  pub row : (n : ℕ) → is_fresh new n ≡ true
      → ((is_fresh old n ≡ true) × (row_of new n ≡ row_of old n)) ⊎ ((row : T) × (row_of new n ≡ Some row) × says n row)
