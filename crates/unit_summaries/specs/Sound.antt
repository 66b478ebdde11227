-- What is true of the summaries that are kept.
use Rattle.std.specs.Prelude.{◌≡◌, ℕ, ◌≤◌, Bool, true, false, List, length, drop, Contains}
use Rattle.std.specs.List.{AllByRecursion, list_any}
use Rattle.fact_kinds.specs.Facts.{Entry}
use Rattle.fact_kinds.specs.Named.{component_of, unit_of, is_numbered}
use Rattle.fact_store.specs.Lists.{value_at}
use Rattle.ldar_law.specs.Equipment.{members_of}
use Rattle.ldar_law.specs.Stirred.{is_touched}
use Rattle.unit_summaries.specs.declared.kept.DayTallies.{DayTallies}
use Rattle.unit_summaries.specs.declared.summary.Summary.{Summary}
use Rattle.unit_summaries.specs.declared.summary.UnitSummary.{UnitSummary}
use Rattle.unit_summaries.specs.Kept.{AreCounted}
use Rattle.unit_summaries.specs.Rows.{Rows, SameRows, is_fresh, row_of}
use Rattle.unit_summaries.specs.Says.{IsSaid, IsUnitSaid}

-- the value of summaries: those of components and of process units at their numbers, for each process unit the number of facts at its
-- last answered view, and the counts of quarters that are kept
pub record Sums : Type 0 where
  pub components : Rows Summary
  pub units : Rows UnitSummary
  pub answered : List ℕ
  pub kept : List DayTallies

-- the number of facts at the last answered view of a process unit; 0 if none was answered
abbrev pub answered_at : Sums → ℕ → ℕ
answered_at s unit = value_at (λ count. count) 0 s.answered unit

-- the facts that arrived since the last answered view of a process unit
abbrev pub news_of : List Entry → Sums → ℕ → List Entry
news_of arrived s unit = drop (answered_at s unit) arrived

-- some of these facts names the process unit
abbrev pub is_known : List Entry → ℕ → Bool
is_known facts unit = list_any (λ e. is_numbered (unit_of e.1.body) unit) facts

-- of some facts, in key order and as they arrived, with the first `listed` of them in the lists of a store
pub record Are (facts arrived : List Entry) (listed : ℕ) (s : Sums) : Type 0 where
  -- a summary that is up to date says what the facts say
  pub fresh : (n : ℕ) → is_fresh s.components n ≡ true → IsSaid facts n (row_of s.components n)
  -- a component without one is touched by a fact that arrived since its process unit was last shown
  pub stale : (u n : ℕ) → Contains (members_of u facts) n → is_fresh s.components n ≡ false → is_touched facts (news_of arrived s u) n ≡ true
  -- a component has none if a fact names it that is not listed
  pub tail : AllByRecursion (λ e. (n : ℕ) → is_numbered (component_of e.1.body) n ≡ true → is_fresh s.components n ≡ false) (drop listed arrived)
  -- the same for process units
  pub lists : (u : ℕ) → is_fresh s.units u ≡ true → IsUnitSaid facts u (row_of s.units u)
  pub unread : (u : ℕ) → is_known arrived u ≡ true → is_fresh s.units u ≡ false → is_known (news_of arrived s u) u ≡ true
  -- no view was answered with more facts
  pub asked : (u : ℕ) → answered_at s u ≤ length arrived
  -- the counts of quarters that are kept are those of the summaries
  pub counted : AreCounted facts s.components s.units s.kept

-- the summary of each component of a process unit is up to date
abbrev pub AreFresh : List Entry → ℕ → Sums → Type 0
AreFresh facts unit s = AllByRecursion (λ n. is_fresh s.components n ≡ true) (members_of unit facts)

-- .. and that of the unit too
pub record IsRenewed (facts : List Entry) (unit : ℕ) (s : Sums) : Type 0 where
  pub shown : is_fresh s.units unit ≡ true
  pub members : AreFresh facts unit s

-- the same summaries
pub record Alike (old new : Sums) : Type 0 where
  pub components : SameRows old.components new.components
  pub units : SameRows old.units new.units
  pub answered : (u : ℕ) → answered_at new u ≡ answered_at old u
