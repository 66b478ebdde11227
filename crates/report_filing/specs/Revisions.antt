-- The map in a filing: for each unit and half its revisions, which count from 1.
use Rattle.std.specs.Prelude.{◌≡◌, ℕ, ◌+◌, Bool, ◌&&◌, nat_eq, Option, List, [], ◌∷◌, filter, find, length}
use Rattle.list_words.specs.Words.{last_such}
use Rattle.ldar_law.specs.declared.report.Filed.{Filed}

-- the report was filed for this unit and half
abbrev pub is_filed_for : ℕ → ℕ → Filed → Bool
is_filed_for unit half filed = nat_eq filed.unit unit && nat_eq filed.half half

-- the revisions of a unit's half, from all reports in the order of filing
abbrev pub revisions : ℕ → ℕ → List Filed → List Filed
revisions unit half all = filter (is_filed_for unit half) all

-- the last revision of a unit's half
abbrev pub latest_of : ℕ → ℕ → List Filed → Option Filed
latest_of unit half all = last_such (is_filed_for unit half) all

-- the report was filed for this unit and half under this number
abbrev pub is_revision : ℕ → ℕ → ℕ → Filed → Bool
is_revision unit half revision filed = is_filed_for unit half filed && nat_eq filed.revision revision

-- the revision with this number of a unit's half
abbrev pub revision_of : ℕ → ℕ → ℕ → List Filed → Option Filed
revision_of unit half revision all = find (is_revision unit half revision) all

-- the revisions count up from this number
abbrev pub CountFrom : ℕ → List Filed → Type 0
CountFrom number [] = Unit {0}
CountFrom number (filed ∷ more) = (filed.revision ≡ number) × CountFrom (number + 1) more

-- the revisions of each unit and half count from 1
abbrev pub AreNumbered : List Filed → Type 0
AreNumbered all = (unit half : ℕ) → CountFrom 1 (revisions unit half all)

-- the report's revision is the next one of its unit and half
abbrev pub IsNext : Filed → List Filed → Type 0
IsNext filed all = filed.revision ≡ length (revisions filed.unit filed.half all) + 1
