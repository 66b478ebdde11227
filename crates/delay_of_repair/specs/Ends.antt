-- The days on which a delay of repair can end.
use Rattle.std.specs.Prelude.{◌≡◌, ℕ, List}
use Rattle.ldar_law.specs.declared.delay.Stop.{Stop}
use Rattle.ldar_days.specs.Calendar.{later_by}
use Rattle.ldar_law.specs.Delays.{repair_by, stops_after, end_of_first, end_of_second}
use Rattle.delay_of_repair.specs.declared.shutdowns.Ends.{Ends}

-- the possible ends after a detection, with these attempts and shutdowns
abbrev pub AreEnds : ℕ → List ℕ → List Stop → Ends → Type 0
AreEnds detected attempts stops ends =
    (ends.repair_by ≡ repair_by detected)
    × (ends.half_year ≡ later_by 6 detected)
    × (ends.first ≡ end_of_first attempts (stops_after detected stops))
    × (ends.second ≡ end_of_second attempts (stops_after detected stops))
