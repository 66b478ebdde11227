-- Offering the batches of a history to a mirror: the answers that are written, and how it ends.
use Rattle.std.specs.Prelude.{◌≡◌, ◌<◌, ◌≤◌, ◌+◌, ℕ, Option, Some, None, Result, Ok, Err, List, [], ◌∷◌, length}
use Rattle.std.specs.List.{flat_map}
use Rattle.fact_kinds.specs.declared.batch.Batch.{Batch}
use Rattle.ldar_facts.specs.Grammar.{spelled}
use Rattle.ldar_ports.specs.Sink.{Piece}
use Rattle.office_mirror.specs.declared.answer.Answer.{Answer}
use Rattle.office_mirror.specs.AnswerGrammar.{answer_fields}
use Rattle.office_mirror.specs.Offers.{offered}
use Rattle.office_commands.specs.declared.status.Status.{Status}
use Rattle.office_commands.specs.declared.status.Status.TheVariants.{Done, WriteFault, Memory, NoSuchPosition}
use Rattle.office_commands.specs.Statuses.{Said}

-- the spellings of answers, one after the other
abbrev pub answers_text : List Answer → List ℕ
answers_text answers = flat_map (λ answer. spelled (answer_fields answer)) answers

-- these are the next answers that a history offers from one start on, and the one after them has the other start
abbrev pub AreOffers : List Batch → ℕ → List Answer → ℕ → Type 0
AreOffers history start [] next = next ≡ start
AreOffers history start (answer ∷ answers) next =
    (offered history start ≡ Some answer) × AreOffers history (start + length answer.batches) answers next

-- answers were written, except for this part of the last one
pub record PutsOffers (history : List Batch) (from : ℕ) (old new : Option (List Piece)) (next : ℕ) (unsaid : List ℕ) : Type 0 where
  pub answers : List Answer
  pub are : AreOffers history from answers next
  pub said : Said (answers_text answers) old new unsaid

-- The end of offering the batches after the first `from`: all answers were written, until none is offered; or the first of them, the last one
-- in part after a write error; or there are fewer batches, and nothing was written.
abbrev pub OfferEnds : List Batch → ℕ → Status → Option (List Piece) → Option (List Piece) → Type 0
OfferEnds history from Done old new =
    (from ≤ length history) × (next : ℕ) × PutsOffers history from old new next [] × (offered history next ≡ None)
OfferEnds history from WriteFault old new = (from ≤ length history) × (next : ℕ) × (unsaid : List ℕ) × PutsOffers history from old new next unsaid
OfferEnds history from Memory old new = (from ≤ length history) × (next : ℕ) × PutsOffers history from old new next []
OfferEnds history from (NoSuchPosition position) old new = (position ≡ from) × (length history < from) × (new ≡ old)
OfferEnds history from _ old new = ⊥

-- ---- internal: one answer

-- the next answer was written, or a part of it after a write error; or none is offered, or memory ran out, and nothing was written
abbrev pub PutsOffer : List Batch → ℕ → Result (Option ℕ) Status → Option (List Piece) → Option (List Piece) → Type 0
PutsOffer history start (Ok None) old new = (offered history start ≡ None) × (new ≡ old)
PutsOffer history start (Ok (Some next)) old new =
    (answer : Answer) × (offered history start ≡ Some answer) × (next ≡ start + length answer.batches)
    × Said (spelled (answer_fields answer)) old new []
PutsOffer history start (Err WriteFault) old new =
    (answer : Answer) × (unsaid : List ℕ) × (offered history start ≡ Some answer) × Said (spelled (answer_fields answer)) old new unsaid
PutsOffer history start (Err Memory) old new = new ≡ old
PutsOffer history start (Err _) old new = ⊥
