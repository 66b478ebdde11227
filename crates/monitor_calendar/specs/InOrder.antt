-- Two proofs that a list ascends are equal.
use Rattle.std.specs.Prelude.{Bool, List, [], ◌∷◌}
use Rattle.std.specs.Coded.{×_prop, Unit-prop}
use Rattle.std.specs.List.{AllByRecursion-prop}
use Rattle.list_words.specs.Order.{Ascends}
use mathlib.Core.Bool.{Bool-set}

-- any two proofs that a list ascends are equal
pub Ascends-prop : {X : Type 0} (before : X → X → Bool) (xs : List X) → IsProp (Ascends before xs)
Ascends-prop before [] = Unit-prop
Ascends-prop before (x ∷ xs) = ×_prop (AllByRecursion-prop _ (λ y. Bool-set _ _) xs) (Ascends-prop before xs)
