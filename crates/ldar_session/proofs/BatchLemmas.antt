-- The requests of batches at the front, and what a connection of batches is served.
use Rattle.std.proofs.Common.{◌≡◌, ◌≢◌, inl, inr, ℕ, zero, suc, ◌<◌, Bool, List, [], ◌∷◌, ◌++◌, length, Option, Some, None, refl, arith, length-append}
use Rattle.std.specs.List.{AllByRecursion}
use Rattle.ldar_facts.specs.Grammar.{HasNoBatch}
use Rattle.ldar_facts.proofs.GrammarLaws.{spelling_length}
use Rattle.ldar_law.specs.Machine.{Turn}
use Rattle.ldar_session.specs.Batches.{IsBatch, IsUnfinished, batch_speech}
use Rattle.ldar_session.specs.Served.{Served}
use Rattle.ldar_session.specs.Speech.{HasAnswer, IsAnswered, NoneJoins}

-- the beginning of a batch is at most as long as the longest batch
pub begun_fits : (bytes : List ℕ) → IsUnfinished bytes → length bytes < 16_384
begun_fits bytes is =
    omega (arith, spelling_length (bytes ++ is.begins.1) is.begins.0 is.begins.2, length-append bytes is.begins.1)

-- no batch joins bytes that have no batch as a prefix
pub none_joins_none : (bytes : List ℕ) → HasNoBatch bytes → NoneJoins batch_speech bytes
none_joins_none bytes none used closing batch within is = absurd (none used batch is.1)

-- a number that is not different from 0 is 0
pub is_zero : (n : ℕ) → ¬ (n ≢ 0) → n ≡ 0
is_zero zero none = refl
is_zero (suc n) none = absurd (none (λ is. absurd (omega (arith, is))))

-- an item with an answer is a batch
answered_batch : (closing : Bool) (item text : List ℕ) (turn : Option Turn)
    → IsAnswered batch_speech closing (record { item = item; turn = turn; text = text }) → IsBatch (record { item = item; turn = turn; text = text })
answered_batch closing item text None is = absurd is
answered_batch closing item text (Some turn) is = (is.0.1, is.1)

-- nothing else has an answer
is_batch : (s : Served) → HasAnswer batch_speech s → IsBatch s
is_batch s (inl is) = answered_batch is.0 s.item s.text s.turn is.1
is_batch s (inr away) = absurd away.says

-- each item is a batch
pub are_batches : (served : List Served) → AllByRecursion (HasAnswer batch_speech) served → AllByRecursion IsBatch served
are_batches [] each = tt
are_batches (s ∷ served) each = (is_batch s each.0, are_batches served each.1)
