-- Two offices, one of which mirrors the other: what may happen, and what then holds.
use Rattle.std.specs.Prelude.{◌≡◌, ◌≤◌, ◌+◌, ◌⊎◌, ℕ, IsTrue, Some, List, [], ◌∷◌, ◌++◌, length}
use Rattle.std.specs.List.{AllByRecursion}
use Rattle.fact_kinds.specs.declared.batch.Batch.{Batch}
use Rattle.fact_kinds.specs.Identity.{identities_differ}
use Rattle.ldar_law.specs.Machine.{State, is_accepted}
use Rattle.ldar_law.specs.Verdicts.{is_ruly}
use Rattle.office_mirror.specs.declared.answer.Answer.{Answer}
use Rattle.office_mirror.specs.Fronts.{IsMirrorOf, Asked, StandFrom}
use Rattle.office_mirror.specs.Offers.{offered}

-- the first office's history; the second's state; the answers that were ever offered; and the number of batches that the second last said it holds
pub record World : Type 0 where
  pub first : List Batch
  pub second : State
  pub answers : List Answer
  pub said : ℕ

-- the answer was offered at some time
abbrev pub IsOffered : List Answer → Answer → Type 0
IsOffered [] answer = ⊥
IsOffered (one ∷ more) answer = (one ≡ answer) ⊎ IsOffered more answer

-- the first office accepts a batch
abbrev pub Accepts : World → World → Type 0
Accepts w v = (batch : Batch) × IsTrue (is_accepted w.first batch) × (v ≡ record w { first = w.first ++ batch ∷ [] })

-- the first office offers its batches after some number
abbrev pub Offers : World → World → Type 0
Offers w v = (start : ℕ) × (answer : Answer) × (offered w.first start ≡ Some answer) × (v ≡ record w { answers = answer ∷ w.answers })

-- The second office takes an answer that was offered at some time, all of it or a part, and may say how many batches it holds then. A fault of
-- its disk is a turn of it, which may leave the batch in doubt.
abbrev pub Takes : World → World → Type 0
Takes w v = (answer : Answer) × (next : State) × IsOffered w.answers answer × (answer.start ≤ length w.second.history)
    × Asked w.second (answer.start + 1) answer.batches next
    × ((v ≡ record w { second = next }) ⊎ (v ≡ record w { second = next; said = length next.history }))

-- the second office crashes, and opens again without the batches in doubt or with them
abbrev pub Stops : World → World → Type 0
Stops w v =
    (v ≡ record w { second = record { history = w.second.history; doubt = [] } })
    ⊎ (v ≡ record w { second = record { history = w.second.history ++ w.second.doubt; doubt = [] } })

-- the first office crashes, and opens again with all batches that it accepted
abbrev pub FirstStops : World → World → Type 0
FirstStops w v = v ≡ w

abbrev pub Happens : World → World → Type 0
Happens w v = Accepts w v ⊎ (Offers w v ⊎ (Takes w v ⊎ (Stops w v ⊎ FirstStops w v)))

-- these worlds follow each other
abbrev pub Follow : World → List World → World → Type 0
Follow w [] last = last ≡ w
Follow w (next ∷ worlds) last = Happens w next × Follow next worlds last

-- The first is an office. The second's history is a front of the first's, also with its batches in doubt, and has all batches that it said it holds.
pub record IsMirrored (w : World) : Type 0 where
  pub ruly : IsTrue (is_ruly w.first)
  pub differ : IsTrue (identities_differ w.first)
  pub offers : AllByRecursion (λ answer. StandFrom w.first answer.start answer.batches) w.answers
  pub mirror : IsMirrorOf w.first w.second
  pub holds : w.said ≤ length w.second.history

-- whatever happens, in whatever order, it stays so
abbrev pub MirrorPrefix : Type 0
MirrorPrefix = (w last : World) (worlds : List World) → IsMirrored w → Follow w worlds last → IsMirrored last
