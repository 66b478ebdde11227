-- Answers that are offered one after the other.
use Rattle.std.proofs.Common.{◌≡◌, ◌<◌, ◌≤◌, ◌+◌, ◌-◌, ℕ, Option, Some, None, Result, Ok, Err, List, [], ◌∷◌, ◌++◌, length, take, drop, refl, sym, ap, subst, ◌∙◌}
use Rattle.std.proofs.Common.{arith}
use Rattle.std.proofs.lemmas.List.{append-nil, length-drop, length-take}
use Rattle.std.proofs.lemmas.Grind.{flat_map-append}
use Rattle.fact_kinds.specs.declared.batch.Batch.{Batch}
use Rattle.ldar_facts.specs.Grammar.{spelled}
use Rattle.ldar_ports.specs.Sink.{Piece}
use Rattle.ldar_ports.proofs.PutsLemmas.{puts_none}
use Rattle.office_mirror.specs.declared.answer.Answer.{Answer}
use Rattle.office_mirror.specs.AnswerGrammar.{answer_fields}
use Rattle.office_mirror.specs.Offers.{offered, offered_of}
use Rattle.office_commands.specs.declared.status.Status.{Status}
use Rattle.office_commands.specs.declared.status.Status.TheVariants.{Done, Usage, ReadFault, WriteFault, DiskFault, Memory}
use Rattle.office_commands.specs.declared.status.Status.TheVariants.{NotAJournal, Damaged, Unruly, CutShort, BadInput, TooLarge, NotEmpty}
use Rattle.office_commands.specs.declared.status.Status.TheVariants.{BadRow, Conflict, Denied, Full, NoSuch, FilingFault, SameReport, NoRevisionLeft}
use Rattle.office_commands.specs.declared.status.Status.TheVariants.{NoSuchRevision, NoSuchPosition, Stranger}
use Rattle.office_commands.specs.Offering.{AreOffers, OfferEnds, PutsOffer, PutsOffers, answers_text}
use Rattle.office_commands.specs.Statuses.{Said}
use Rattle.office_commands.proofs.NoteLemmas.{said_more}

-- an answer has some of these batches, and no others
of_within : (rest : List Batch) (start : ℕ) (answer : Answer) → offered_of start rest ≡ Some answer
    → (0 < length answer.batches) × (length answer.batches ≤ length rest)
of_within [] start answer is = absurd cc
of_within (b ∷ bs) start answer is =
    let same : take 16 (b ∷ bs) ≡ answer.batches = cc in
    let long = ap length same in
    (omega (arith, long, length-take 16 (b ∷ bs)), omega (arith, long, length-take 16 (b ∷ bs)))

-- .. of those after its start
pub offered_within : (history : List Batch) (start : ℕ) (answer : Answer) → offered history start ≡ Some answer
    → (start < start + length answer.batches) × (start + length answer.batches ≤ length history)
offered_within history start answer is =
    let within = of_within (drop start history) start answer is in
    (omega (arith, within.0), omega (arith, within.0, within.1, length-drop start history))

-- one more answer
offers_more : (history : List Batch) (start middle next : ℕ) (answers : List Answer) (answer : Answer) → AreOffers history start answers middle
    → offered history middle ≡ Some answer → next ≡ middle + length answer.batches → AreOffers history start (answers ++ answer ∷ []) next
offers_more history start middle next [] answer are is step =
    let same : middle ≡ start = are in
    (subst (λ n. offered history n ≡ Some answer) same is, step ∙ ap (λ n. n + length answer.batches) same)
offers_more history start middle next (first ∷ answers) answer are is step =
    (are.0, offers_more history (start + length first.batches) middle next answers answer are.1 is step)

-- nothing was written yet
pub puts_none_yet : (history : List Batch) (from : ℕ) (pieces : Option (List Piece)) → PutsOffers history from pieces pieces from []
puts_none_yet history from pieces = record { answers = []; are = refl; said = record { put = []; puts = puts_none pieces; says = refl } }

-- one more answer was written, as far as this
pub puts_one_more : (history : List Batch) (from middle next : ℕ) (answer : Answer) (old now new : Option (List Piece)) (unsaid : List ℕ)
    → PutsOffers history from old now middle [] → offered history middle ≡ Some answer → next ≡ middle + length answer.batches
    → Said (spelled (answer_fields answer)) now new unsaid → PutsOffers history from old new next unsaid
puts_one_more history from middle next answer old now new unsaid before is step one =
    let text = spelled (answer_fields answer) in
    let joined : answers_text before.answers ++ text ≡ answers_text (before.answers ++ answer ∷ []) =
    sym (flat_map-append (λ (answer : Answer). spelled (answer_fields answer)) before.answers (answer ∷ [])
    ∙ ap (λ (l : List ℕ). answers_text before.answers ++ l) (append-nil text)) in
    record {
      answers = before.answers ++ answer ∷ [];
      are = offers_more history from middle next before.answers answer before.are is step;
      said = subst (λ (l : List ℕ). Said l old new unsaid) joined
          (said_more (answers_text before.answers) text old now new [] unsaid refl before.said one);
    }

-- the offering stops with this status
pub offer_stops : (history : List Batch) (from start : ℕ) (status : Status) (old now new : Option (List Piece)) → from ≤ length history
    → PutsOffers history from old now start [] → PutsOffer history start (Err status) now new → OfferEnds history from status old new
offer_stops history from start WriteFault old now new near before ends =
    (near, start + length ends.0.batches, ends.1, puts_one_more history from start _ ends.0 old now new ends.1 before ends.2 refl ends.3)
offer_stops history from start Memory old now new near before ends =
    (near, start, subst (λ (p : Option (List Piece)). PutsOffers history from old p start []) (sym ends) before)
offer_stops history from start Done old now new near before ends = absurd ends
offer_stops history from start Usage old now new near before ends = absurd ends
offer_stops history from start ReadFault old now new near before ends = absurd ends
offer_stops history from start DiskFault old now new near before ends = absurd ends
offer_stops history from start NotAJournal old now new near before ends = absurd ends
offer_stops history from start (Damaged at) old now new near before ends = absurd ends
offer_stops history from start (Unruly position rule) old now new near before ends = absurd ends
offer_stops history from start (CutShort got) old now new near before ends = absurd ends
offer_stops history from start (BadInput at) old now new near before ends = absurd ends
offer_stops history from start TooLarge old now new near before ends = absurd ends
offer_stops history from start NotEmpty old now new near before ends = absurd ends
offer_stops history from start (BadRow at) old now new near before ends = absurd ends
offer_stops history from start (Conflict position) old now new near before ends = absurd ends
offer_stops history from start (Denied fact rule) old now new near before ends = absurd ends
offer_stops history from start (Full facts) old now new near before ends = absurd ends
offer_stops history from start (NoSuch what) old now new near before ends = absurd ends
offer_stops history from start FilingFault old now new near before ends = absurd ends
offer_stops history from start (SameReport revision) old now new near before ends = absurd ends
offer_stops history from start NoRevisionLeft old now new near before ends = absurd ends
offer_stops history from start (NoSuchRevision revision) old now new near before ends = absurd ends
offer_stops history from start (NoSuchPosition position) old now new near before ends = absurd ends
offer_stops history from start (Stranger place) old now new near before ends = absurd ends
