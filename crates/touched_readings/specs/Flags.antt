-- Flags of components, each at the component's number.
use Rattle.std.specs.Prelude.{ℕ, Bool, false, zero, suc, List, [], ◌∷◌}

-- the flag of a number; a number without a flag is like one whose flag is cleared
abbrev pub flag_of : List Bool → ℕ → Bool
flag_of [] n = false
flag_of (flag ∷ flags) zero = flag
flag_of (flag ∷ flags) (suc n) = flag_of flags n
