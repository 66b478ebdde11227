-- `Keeps` over no call and over several.
use Rattle.std.proofs.Common.{ℕ, refl, ◌∙◌, arith}
use Rattle.disk_model.specs.Keeps.{Keeps}

-- without a call, everything is kept
pub Keeps-stays : {D : Type 0} (clock_of name_of faults_of : D → ℕ) (d : D) → Keeps clock_of name_of faults_of d d
Keeps-stays clock_of name_of faults_of d = record { time = omega arith; name = refl; count = omega arith }

-- what each of two stretches keeps, both together keep
pub Keeps-joins : {D : Type 0} (clock_of name_of faults_of : D → ℕ) (a b c : D)
    → Keeps clock_of name_of faults_of a b → Keeps clock_of name_of faults_of b c → Keeps clock_of name_of faults_of a c
Keeps-joins clock_of name_of faults_of a b c first second = record {
  time = omega arith;
  name = second.name ∙ first.name;
  count = omega arith;
}
