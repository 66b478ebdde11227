-- Laws about the history of each drill: the statements of `laws`.
use Rattle.std.specs.Prelude.{◌≡◌, ℕ, ◌+◌, ◌*◌, ◌≤◌, true, false, IsTrue, Some, List, length, take, codes}
use Rattle.std.specs.List.{AllByRecursion, list_any}
use Rattle.fact_kinds.specs.Facts.{facts_of, facts_to}
use Rattle.fact_kinds.specs.Identity.{identities_differ, is_same_identity}
use Rattle.ldar_law.specs.declared.reply.Reply.TheVariants.{Shown}
use Rattle.ldar_law.specs.declared.request.Request.TheVariants.{Percent}
use Rattle.ldar_law.specs.declared.unit_entry.UnitEntry.{UnitEntry}
use Rattle.ldar_law.specs.Equipment.{unit_entry_of}
use Rattle.ldar_law.specs.Shown.{shown}
use Rattle.ldar_law.specs.Verdicts.{is_ruly}
use Rattle.drill_history.specs.declared.numbers.TheConstants.{LARGEST_DRILL, SHOWN_DAY, SHOWN_QUARTER, STARTUP}
use Rattle.drill_history.specs.Drill.{drill_history, month_batches}

-- each batch passes after those before it
abbrev pub DrillIsRuly : Type 0
DrillIsRuly = (seed size : ℕ) → size ≤ LARGEST_DRILL → IsTrue (is_ruly (drill_history seed size))

-- no two batches have the same identity
abbrev pub DrillIdentitiesDiffer : Type 0
DrillIdentitiesDiffer = (seed size : ℕ) → IsTrue (identities_differ (drill_history seed size))

-- the number of facts
abbrev pub DrillCounts : Type 0
DrillCounts = (seed size : ℕ) → length (facts_of (drill_history seed size)) ≡ size + 1 + 12 * (size + 2)

-- the batch that is sent once more is one of the history
abbrev pub DrillSendsOneAgain : Type 0
DrillSendsOneAgain =
    (seed size : ℕ)
    → AllByRecursion (λ b. list_any (is_same_identity b) (drill_history seed size) ≡ true) (take 1 (month_batches seed size))

-- the unit of the drill
abbrev pub drill_unit : UnitEntry
drill_unit = record { unit = 1; name = codes "DRILL"; startup = STARTUP; older = false }

-- on the day of its views, the unit was entered
abbrev pub DrillUnitIsEntered : Type 0
DrillUnitIsEntered = (seed size : ℕ) → unit_entry_of 1 (facts_to SHOWN_DAY (drill_history seed size)) ≡ Some drill_unit

-- .. and the percent of its quarter is shown
abbrev pub DrillShowsQuarter : Type 0
DrillShowsQuarter =
    (seed size : ℕ) → (text : List ℕ) × (shown (drill_history seed size) (Percent 1 SHOWN_QUARTER SHOWN_DAY) ≡ Some (Shown text))
