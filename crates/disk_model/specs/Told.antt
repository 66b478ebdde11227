-- Properties of an object that it may expose or hide.
use Rattle.std.specs.Prelude.{Option, Some, None}

-- P holds of the exposed value, or the value is hidden
abbrev pub Told : {T : Type 0} → Option T → (T → Type 0) → Type 0
Told None P = Unit {0}
Told (Some now) P = P now

-- An object exposes a value always or never: if it exposed the old value, it exposes the new one, and P holds of the two; if it hid the old
-- one, it hides the new one.
abbrev pub BothTold : {T : Type 0} → Option T → Option T → (T → T → Type 0) → Type 0
BothTold None None P = Unit {0}
BothTold None (Some new) P = ⊥
BothTold (Some old) None P = ⊥
BothTold (Some old) (Some new) P = P old new
