use Rattle.std.proofs.Common.{◌≡◌, ◌≤◌, false}
use Rattle.std.specs.List.{AllWithin}
use Rattle.ldar_law.specs.Fitness.{is_calibration}
use Rattle.method21_reading.proofs.gas.count_to_last.Given as goal

abbrev pub invariant-loop-place : goal.invariant-loop-place
invariant-loop-place l = (l.place ≤ l.count) × AllWithin (λ e. is_calibration l.instrument e.1.body ≡ false) l.facts l.place l.count

abbrev pub decreases-loop-place : goal.decreases-loop-place
decreases-loop-place l = l.place
