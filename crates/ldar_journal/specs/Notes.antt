-- The entry of a log with one entry, for proofs only.
use Rattle.std.specs.Prelude.{List, [], ◌∷◌}

-- the first list in the log, or the empty list if the log is empty
abbrev pub noted : {A B : Type 0} → List (List A × B) → List A
noted [] = []
noted (entry ∷ log) = entry.0
