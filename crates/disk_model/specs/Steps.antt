-- The log of what a disk's calls did, for proofs.
use Rattle.std.specs.Prelude.{ℕ, List, [], ◌∷◌, reverse, map, Vec}
use Rattle.std.specs.declared.alloc.Global.{Global}
use Rattle.disk_model.specs.Moments.{Change, WroteAt, SyncedAs}
use Rattle.disk_model.specs.declared.past.Step.{Step}
use Rattle.disk_model.specs.declared.past.Step.TheVariants.{Wrote, Synced}

-- a step, with the content after it, as a change of what a crash may leave
abbrev pub change_by : Step → List ℕ → Change
change_by (Wrote at n) bytes = WroteAt at n
change_by Synced bytes = SyncedAs bytes

-- the changes of a log, latest first
abbrev pub changes_by : List (Step × Vec ℕ Global) → List Change
changes_by log = map (λ entry. change_by entry.0 entry.1.items) (reverse log)

-- the content at the start of a log, or no bytes if it has none
abbrev pub first_content : {B : Type 0} → List (Vec ℕ Global × B) → List ℕ
first_content [] = []
first_content (entry ∷ log) = entry.0.items
