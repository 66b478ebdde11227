-- What an office offers of its history.
use Rattle.std.specs.Prelude.{ℕ, Option, Some, None, List, [], ◌∷◌, take, drop}
use Rattle.fact_kinds.specs.declared.batch.Batch.{Batch}
use Rattle.office_mirror.specs.declared.answer.Answer.{Answer}
use Rattle.office_mirror.specs.declared.answer.TheConstants.{MOST_BATCHES}

-- the first of these batches, at most 16 of them, as an answer with this start; None if there are none
abbrev pub offered_of : ℕ → List Batch → Option Answer
offered_of start [] = None
offered_of start (batch ∷ batches) = Some (record { start = start; batches = take MOST_BATCHES (batch ∷ batches) })

-- the next batches of a history after the first `start`
abbrev pub offered : List Batch → ℕ → Option Answer
offered history start = offered_of start (drop start history)
