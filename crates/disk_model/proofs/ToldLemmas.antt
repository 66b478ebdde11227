-- Steps over exposed values and over counts of errors.
use Rattle.std.proofs.Common.{◌≤◌, ℕ, Option, Some, None, arith}
use Rattle.disk_model.specs.Faults.{Rose}
use Rattle.disk_model.specs.Told.{Told, BothTold}

-- two calls one after the other, on an exposed value
pub BothTold-joins : {T : Type 0} (P Q R : T → T → Type 0) → ((a b c : T) → P a b → Q b c → R a c)
    → (old middle new : Option T) → BothTold old middle P → BothTold middle new Q → BothTold old new R
BothTold-joins P Q R joins None None None first second = tt
BothTold-joins P Q R joins None None (Some c) first second = absurd second
BothTold-joins P Q R joins None (Some b) new first second = absurd first
BothTold-joins P Q R joins (Some a) None new first second = absurd first
BothTold-joins P Q R joins (Some a) (Some b) None first second = absurd second
BothTold-joins P Q R joins (Some a) (Some b) (Some c) first second = joins a b c first second

-- a weaker property of a call, on an exposed value
pub BothTold-weaker : {T : Type 0} (P Q : T → T → Type 0) → ((a b : T) → P a b → Q a b)
    → (old new : Option T) → BothTold old new P → BothTold old new Q
BothTold-weaker P Q weaker None None told = tt
BothTold-weaker P Q weaker None (Some b) told = absurd told
BothTold-weaker P Q weaker (Some a) None told = absurd told
BothTold-weaker P Q weaker (Some a) (Some b) told = weaker a b told

-- a count that rose in a call rose in each longer stretch of calls around it
pub Rose-longer : (entry before after exit : ℕ) → entry ≤ before → before ≤ after → after ≤ exit → Rose before after → Rose entry exit
Rose-longer entry before after exit first during last rose = grind arith

-- a property of an exposed value after a call, from one before it
pub Told-after : {T : Type 0} (P Q : T → Type 0) (R : T → T → Type 0) → ((a b : T) → P a → R a b → Q b)
    → (old new : Option T) → Told old P → BothTold old new R → Told new Q
Told-after P Q R after None None told both = tt
Told-after P Q R after None (Some b) told both = absurd both
Told-after P Q R after (Some a) None told both = absurd both
Told-after P Q R after (Some a) (Some b) told both = after a b told both

-- a weaker property of an exposed value
pub Told-weaker : {T : Type 0} (P Q : T → Type 0) → ((a : T) → P a → Q a) → (now : Option T) → Told now P → Told now Q
Told-weaker P Q weaker None told = tt
Told-weaker P Q weaker (Some a) told = weaker a told

-- two properties of an exposed value
pub Told-both : {T : Type 0} (P Q : T → Type 0) → (now : Option T) → Told now P → Told now Q → Told now (λ a. P a × Q a)
Told-both P Q None first second = tt
Told-both P Q (Some a) first second = (first, second)
