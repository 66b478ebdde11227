use Rattle.std.proofs.Common.{◌≡◌, ℕ, zero, suc, ◌<◌, Bool, true, List, [], ◌∷◌, length, get_or, arith}
use Rattle.std.specs.List.{AllByRecursion}
use Rattle.std.specs.List.Sorted.{IsPartitionedBy}
use Rattle.list_words.specs.Order.{Ascends}

-- what holds of each element holds at each place
at_place : {X : Type 0} (P : X → Type 0) (xs : List X) (j : ℕ) (d : X) → AllByRecursion P xs → j < length xs → P (get_or xs j d)
at_place P [] j d all within = absurd (omega arith)
at_place P (x ∷ xs) zero d all within = all.0
at_place P (x ∷ xs) (suc j) d all within = at_place P xs j d all.1 (omega arith)

-- a test that passes every element before one that passes selects a prefix of an ascending list
pub front_passes : {X : Type 0} (before : X → X → Bool) (p : X → Bool) → ((x y : X) → before x y ≡ true → p y ≡ true → p x ≡ true)
    → (xs : List X) → Ascends before xs → IsPartitionedBy p xs
front_passes before p down [] up i j d le within t = absurd (omega arith)
front_passes before p down (x ∷ xs) up zero zero d le within t = t
front_passes before p down (x ∷ xs) up zero (suc j) d le within t =
    down x (get_or xs j d) (at_place (λ y. before x y ≡ true) xs j d up.0 (omega arith)) t
front_passes before p down (x ∷ xs) up (suc i) zero d le within t = absurd (omega arith)
front_passes before p down (x ∷ xs) up (suc i) (suc j) d le within t = front_passes before p down xs up.1 i j d (omega arith) (omega arith) t
