-- The numbers of the kinds of facts.
use Rattle.std.proofs.Common.{◌≡◌, ◌≤◌, Bool, true, false, if◌then◌else◌, Option, None, refl, arith}
use Rattle.fact_kinds.specs.declared.body.FactBody.{FactBody}
use Rattle.fact_kinds.specs.declared.body.FactBody.TheVariants.{Unit as UnitFact, Component as ComponentFact, Class as ClassFact, Retire, Election, Shutdown}
use Rattle.fact_kinds.specs.declared.body.FactBody.TheVariants.{Calibration, Precision, Drift, Reading, Visual, Attempt, Delay, Release, Indication}
use Rattle.fact_kinds.specs.Fields.{body_number}

-- each kind has one of the numbers 1 to 15
pub body_number-in_range : (body : FactBody) → (1 ≤ body_number body) × (body_number body ≤ 15)
body_number-in_range (UnitFact _ _ _) = (omega arith, omega arith)
body_number-in_range (ComponentFact _ _ _ _ _ _) = (omega arith, omega arith)
body_number-in_range (ClassFact _ _) = (omega arith, omega arith)
body_number-in_range (Retire _) = (omega arith, omega arith)
body_number-in_range (Election _ _ _) = (omega arith, omega arith)
body_number-in_range (Shutdown _ _) = (omega arith, omega arith)
body_number-in_range (Calibration _ _) = (omega arith, omega arith)
body_number-in_range (Precision _ _ _) = (omega arith, omega arith)
body_number-in_range (Drift _ _ _) = (omega arith, omega arith)
body_number-in_range (Reading _ _ _ _ _ _) = (omega arith, omega arith)
body_number-in_range (Visual _ _) = (omega arith, omega arith)
body_number-in_range (Attempt _ _) = (omega arith, omega arith)
body_number-in_range (Delay _ _ _ _) = (omega arith, omega arith)
body_number-in_range (Release _) = (omega arith, omega arith)
body_number-in_range (Indication _ _ _) = (omega arith, omega arith)

-- an object that has other keys is no fact
pub other_keys : (b : Bool) (read : Option FactBody) → false ≡ b → None ≡ (if b then read else None)
other_keys true read e = absurd cc
other_keys false read e = refl

-- an object that has no other keys
pub known_keys : (b : Bool) (read said : Option FactBody) → true ≡ b → said ≡ read → said ≡ (if b then read else None)
known_keys true read said e is = is
known_keys false read said e is = absurd cc
