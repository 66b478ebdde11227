-- Batches as the views keep them: a header for each, and the facts of all, one after another.
use Rattle.std.specs.Prelude.{ℕ, ◌+◌, List, [], ◌∷◌, ◌++◌, length, take, drop, map}
use Rattle.fact_kinds.specs.declared.batch.Batch.{Batch}
use Rattle.fact_kinds.specs.Stated.{Stated}
use Rattle.fact_store.specs.Kept.{Kept}
use Rattle.office_views.specs.declared.header.Header.{Header}

-- the headers of some batches, given the number of facts before theirs
abbrev pub headers_of : ℕ → List Batch → List Header
headers_of first [] = []
headers_of first (batch ∷ batches) =
    record { handheld = batch.handheld; number = batch.number; first = first; count = length batch.facts }
    ∷ headers_of (first + length batch.facts) batches

-- the batch of a header, among the facts of all batches
abbrev pub batch_by : List Stated → Header → Batch
batch_by facts header =
    record { handheld = header.handheld; number = header.number; facts = take header.count (drop header.first facts) }

-- .. and of each of some headers
abbrev pub batches_by : List Stated → List Header → List Batch
batches_by facts headers = map (batch_by facts) headers

-- the facts that came to a store, and after them those that have room
abbrev pub facts_kept : Kept → List Stated
facts_kept kept = map (λ e. e.1) kept.arrived ++ kept.spare
