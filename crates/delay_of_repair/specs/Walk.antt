-- The result of a walk over delays.
use Rattle.std.specs.Prelude.{◌≡◌, ℕ, nat_lt, List, option_map}
use Rattle.ldar_days.specs.Calendar.{IsDay}
use Rattle.ldar_law.specs.declared.delay.DelayEntry.{DelayEntry}
use Rattle.ldar_law.specs.declared.delay.Stop.{Stop}
use Rattle.ldar_law.specs.declared.delay.Until.{Until}
use Rattle.ldar_law.specs.Delays.{is_past, due_given, last_counted}
use Rattle.delay_of_repair.specs.declared.delays.Repair.{Repair}

-- the repair by these delays, latest first
abbrev pub Repairs : ℕ → List ℕ → List Stop → List DelayEntry → Repair → Type 0
Repairs detected attempts stops latest repair =
    (repair.due ≡ due_given detected attempts stops (option_map (λ c. c.1) (last_counted detected attempts stops latest)))
    × (repair.counted ≡ option_map (λ c. c.0) (last_counted detected attempts stops latest))

-- the due day is past on exactly the days with a number greater than this one
abbrev pub IsPastAbove : Until → ℕ → Type 0
IsPastAbove due last = (day : ℕ) → IsDay day → is_past day due ≡ nat_lt last day
