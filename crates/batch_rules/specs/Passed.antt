-- What follows from an earlier judgment of the rule on difficult valves in a batch (40 CFR 60.482-7a(h)(2)(ii)).
use Rattle.std.specs.Prelude.{◌≡◌, ℕ, Bool, false, ◌&&◌, nat_eq, Option, Some, None, List, [], ◌∷◌, ◌++◌}
use Rattle.std.specs.List.{AllByRecursion}
use Rattle.ldar_law.specs.Denials.{is_bounded, is_share_reached}
use Rattle.ldar_law.specs.Judged.{Register, Case}

-- the rule denies making one more valve of the unit difficult to monitor
abbrev pub is_reached : Case → ℕ → Bool
is_reached case unit = is_bounded case unit && is_share_reached case unit

-- the entry is for this unit and day
abbrev pub is_of : ℕ → ℕ → ℕ × ℕ → Bool
is_of unit day asked = nat_eq asked.0 unit && nat_eq asked.1 day

-- the rule passes each fact of the batch for this unit and day
abbrev pub IsPassed : Register → ℕ × ℕ → Type 0
IsPassed whole asked = (case : Case) → case.whole ≡ whole → case.entry.0.day ≡ asked.1 → is_reached case asked.0 ≡ false

-- .. for each of these units and days
abbrev pub ArePassed : Register → List (ℕ × ℕ) → Type 0
ArePassed whole asked = AllByRecursion (IsPassed whole) asked

-- one more unit and day, if there is a unit
abbrev pub with_asked : Option ℕ → ℕ → List (ℕ × ℕ) → List (ℕ × ℕ)
with_asked None day asked = asked
with_asked (Some unit) day asked = asked ++ (unit, day) ∷ []
