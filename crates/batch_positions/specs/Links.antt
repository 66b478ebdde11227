-- Lists by position, from 1.
use Rattle.std.specs.Prelude.{ℕ, zero, suc, Option, None, List, slice_get}

-- the element at a position, from 1, or None at 0 and past the end
abbrev pub at_position : {X : Type 0} → List X → ℕ → Option X
at_position xs zero = None
at_position xs (suc i) = slice_get xs i
