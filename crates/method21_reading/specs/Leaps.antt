-- Where a search among drift assessments continues, so that it skips none that voids the reading (40 CFR 60.485a(b)(2)).
use Rattle.std.specs.Prelude.{◌≡◌, ℕ, ◌*◌, ◌<◌, ◌≤◌, Bool, true, false, not, ◌&&◌, nat_eq, if◌then◌else◌, Option, Some, None, List, length, get_or}
use Rattle.std.specs.List.{AllWithin}
use Rattle.fact_kinds.specs.declared.body.FactBody.{FactBody}
use Rattle.fact_kinds.specs.declared.body.FactBody.TheVariants.{Drift}
use Rattle.fact_kinds.specs.Facts.{Entry}
use Rattle.ldar_law.specs.Fitness.{sum_of, has_drifted, is_above_drifted, is_drift_past}
use Rattle.method21_reading.specs.declared.leaps.Leap.{Leap}

-- a failed drift assessment of the instrument that does not void such a reading
abbrev pub is_clear : ℕ → ℕ → ℕ → FactBody → Bool
is_clear instrument limit ppm (Drift of value readings) =
    nat_eq of instrument && has_drifted value (sum_of readings) && not (is_above_drifted limit ppm value (sum_of readings))
is_clear instrument limit ppm _ = false

-- the instrument of a failed drift assessment, three times the known value, and the sum of the readings
abbrev pub failed_in : FactBody → Option (ℕ × ℕ × ℕ)
failed_in (Drift of value readings) = if has_drifted value (sum_of readings) then Some (of, 3 * value, sum_of readings) else None
failed_in _ = None

-- no drift assessment of the instrument from the place `low` to before the place `high` voids such a reading
abbrev pub NonePast : ℕ → ℕ → ℕ → List Entry → ℕ → ℕ → Type 0
NonePast instrument limit ppm facts low high = AllWithin (λ e. is_drift_past instrument limit ppm e.1.body ≡ false) facts low high

-- the leap from a place; the end leads to itself
abbrev pub leap_in : List Leap → ℕ → Leap
leap_in leaps place = get_or leaps place (record { next = length leaps; jump = length leaps; depth = 0 })

-- if the drift assessment at `high` does not void a reading, none from `low` to before `high` does
abbrev pub LeadsOver : List Entry → ℕ → ℕ → Type 0
LeadsOver facts low high =
    (instrument limit ppm : ℕ) (d : Entry)
    → high < length facts
    → is_clear instrument limit ppm (get_or facts high d).1.body ≡ true
    → (is_clear instrument limit ppm (get_or facts low d).1.body ≡ true) × NonePast instrument limit ppm facts low high

-- a search at this place can skip to both places of the leap
pub record LeapsTo (facts : List Entry) (at : ℕ) (leap : Leap) : Type 0 where
  pub next_later : (at < leap.next) × (leap.next ≤ length facts)
  pub jump_later : (at < leap.jump) × (leap.jump ≤ length facts)
  pub next :
      (instrument limit ppm : ℕ) (d : Entry)
      → is_clear instrument limit ppm (get_or facts at d).1.body ≡ true
      → NonePast instrument limit ppm facts at leap.next
  pub jump : LeadsOver facts at leap.jump

-- for each place from `from` on, a search at the place can skip to both places of its leap
pub record LeapsFrom (facts : List Entry) (leaps : List Leap) (from : ℕ) : Type 0 where
  pub all : length leaps ≡ length facts
  pub each : (at : ℕ) (d : Leap) → from ≤ at → at < length facts → LeapsTo facts at (get_or leaps at d)
