-- The calls for an answer, one after another: what they leave of the history, and of a mirror.
use Rattle.std.proofs.Common.{◌≡◌, ◌⊎◌, inl, inr, ℕ, suc, ◌+◌, ◌-◌, ◌≤◌, Some, List, [], ◌∷◌, ◌++◌, length, take, map}
use Rattle.std.proofs.Common.{slice_get, refl, sym, ap, subst, ◌∙◌, arith, IsTrue}
use Rattle.std.specs.List.{AllByRecursion}
use Rattle.std.proofs.lemmas.Bool.{cases_lt}
use Rattle.std.proofs.lemmas.List.{append-nil, length-append, length-take-le}
use Rattle.disk_model.specs.Faults.{Rose}
use Rattle.fact_kinds.specs.declared.batch.Batch.{Batch}
use Rattle.fact_kinds.specs.Identity.{identities_differ}
use Rattle.ldar_journal.specs.Image.{Opens}
use Rattle.ldar_law.specs.declared.reply.Reply.{Reply}
use Rattle.ldar_law.specs.declared.reply.Reply.TheVariants.{Receipt, Shown, NoSuch, Fault, Memory}
use Rattle.ldar_law.specs.declared.request.Request.{Request}
use Rattle.ldar_law.specs.declared.request.What.{What}
use Rattle.ldar_law.specs.declared.request.Request.TheVariants.{Sync}
use Rattle.ldar_law.specs.Machine.{State, Moment, Call, Turn, Answers, AnswersBatch, batch_at, settled, IsAnswered, IsWanting, HasFault}
use Rattle.ldar_law.specs.Machine.{BreaksOff, Step, Steps, IsOfCall, GroupStep, Runs}
use Rattle.ldar_law.specs.Verdicts.{is_ruly}
use Rattle.office_book.specs.Safe.{StandsIn, StandsInRun}
use Rattle.office_book.proofs.ReceiptLemmas.{GoesFrom, steps_go, holds_later}
use Rattle.office_mirror.specs.declared.answer.Answer.{Answer}
use Rattle.office_mirror.specs.Fronts.{IsMirrorOf, HoldsFront, StandFrom, IsReceiptAt}
use Rattle.office_mirror.specs.Taking.{IsAsked, IsReceiptedAt, AreReceipted, AreTaken}
use Rattle.office_mirror.proofs.KeepLemmas.{TurnKeeps, turned}
use Rattle.office_mirror.proofs.OfficeLemmas.{longer, next_accepted, kept_stands}

-- ---- the one turn of a call

-- a call of one request and one reply has one turn
pub record IsTurnOf (batch : Batch) (reply : Reply) (turns : List Turn) : Type 0 where
  pub turn : Turn
  pub only : turns ≡ turn ∷ []
  pub asks : turn.request ≡ Sync batch
  pub replies : turn.reply ≡ reply

one_turn : (batch : Batch) (reply : Reply) (turns : List Turn) → map (λ turn. turn.request) turns ≡ Sync batch ∷ []
    → map (λ turn. turn.reply) turns ≡ reply ∷ []
    → IsTurnOf batch reply turns
one_turn batch reply [] asks replies = absurd cc
one_turn batch reply (turn ∷ []) asks replies = record { turn = turn; only = refl; asks = cc; replies = cc }
one_turn batch reply (turn ∷ other ∷ turns) asks replies = absurd cc

pub turn_of : (batch : Batch) (reply : Reply) (call : Call) → IsAsked batch reply call → IsTurnOf batch reply call.turns
turn_of batch reply call asked = one_turn batch reply call.turns asked.request asked.told

-- the steps of this turn
pub steps_of : (batch : Batch) (reply : Reply) (start : Moment) (call : Call) (asked : IsAsked batch reply call) → GroupStep start call.turns call.end
    → Steps start.state ((turn_of batch reply call asked).turn ∷ []) call.end.state
steps_of batch reply start call asked step =
    subst (λ (turns : List Turn). Steps start.state turns call.end.state) (turn_of batch reply call asked).only step.steps

-- ---- histories

-- a history goes on in the calls of a run
pub runs_go : (start end : Moment) (calls : List Call) → Runs start calls end → GoesFrom start.state.history end.state.history
runs_go start end [] run = ([], ap (λ (s : State). s.history) run.0 ∙ sym (append-nil start.state.history))
runs_go start end (call ∷ calls) run =
    let first = steps_go call.turns start.state call.end.state run.0.steps in
    let rest = runs_go call.end end calls run.1 in
    (first.0 ++ rest.0, rest.1 ∙ ap (λ (l : List Batch). l ++ rest.0) first.1 ∙ assoc start.state.history first.0 rest.0)
  where
    assoc : (a b c : List Batch) → (a ++ b) ++ c ≡ a ++ (b ++ c)
    assoc [] b c = refl
    assoc (x ∷ a) b c = ap (λ l. x ∷ l) (assoc a b c)

pub goes_grows : (old new : List Batch) → GoesFrom old new → length old ≤ length new
goes_grows old new goes = omega (arith, ap length goes.1, length-append old goes.0)

-- the last of a list
last_at : (xs : List Batch) (x : Batch) → slice_get (xs ++ x ∷ []) (length xs) ≡ Some x
last_at [] x = refl
last_at (y ∷ xs) x = last_at xs x

-- the batch of a receipt is in the history after it
receipt_holds : (history : List Batch) (batch : Batch) (handheld number position : ℕ) (after : List Batch)
    → AnswersBatch history batch (Receipt handheld number position) after → batch_at after position ≡ Some batch
receipt_holds history batch handheld number position after answers = elim answers.2 [
  | inl kept ↦ subst (λ (l : List Batch). batch_at l position ≡ Some batch) (sym kept.1) kept.0.1
  | inr new ↦
      let at : position - 1 ≡ length history = omega (arith, new.1) in
      ap (λ (l : List Batch). slice_get l (position - 1)) new.2 ∙ ap (slice_get (history ++ batch ∷ [])) at ∙ last_at history batch
]

-- the steps of one turn, by its reply
abbrev StepsBy : Reply → State → Turn → State → Type 0
StepsBy reply state turn next = elim reply [
  | Fault ↦ BreaksOff state turn [] next
  | other ↦ (between : State) × Step state turn between × (next ≡ between)
]

-- a turn, by its reply
abbrev GoesBy : Reply → State → Turn → State → Type 0
GoesBy reply state turn next = elim reply [ Fault ↦ ⊥ | Memory ↦ IsWanting state turn next | other ↦ IsAnswered state turn next ]

-- the batch of a turn is answered like this
answers_of : (state : State) (turn : Turn) (batch : Batch) (reply : Reply) (between next : State) → turn.request ≡ Sync batch → turn.reply ≡ reply
    → next ≡ between → IsAnswered (settled turn.found state) turn between → (history : List Batch) × AnswersBatch history batch reply next.history
answers_of state turn batch reply between next asks replies same answered =
    let history = (settled turn.found state).history in
    let told : Answers history turn.request reply between.history =
    subst (λ (r : Reply). Answers history turn.request r between.history) replies answered.answers in
    let batches : AnswersBatch history batch reply between.history = subst (λ (q : Request). Answers history q reply between.history) asks told in
    (history, subst (λ (s : State). AnswersBatch history batch reply s.history) (sym same) batches)

-- a receipt says where the batch is in the history
pub receipt_stands : (batch : Batch) (handheld number position : ℕ) (start : Moment) (call : Call) → IsAsked batch (Receipt handheld number position) call
    → GroupStep start call.turns call.end → batch_at call.end.state.history position ≡ Some batch
receipt_stands batch handheld number position start call asked step =
    let it = turn_of batch (Receipt handheld number position) call asked in
    let by = subst (λ (r : Reply). StepsBy r start.state it.turn call.end.state) it.replies
    (steps_of batch (Receipt handheld number position) start call asked step) in
    let goes = subst (λ (r : Reply). GoesBy r (settled it.turn.found start.state) it.turn by.0) it.replies by.1.goes_on in
    let answers = answers_of start.state it.turn batch (Receipt handheld number position) by.0 call.end.state it.asks it.replies by.2 goes in
    receipt_holds answers.0 batch handheld number position call.end.state.history answers.1

-- no batch is answered a text
pub shows_nothing : (batch : Batch) (text : List ℕ) (start : Moment) (call : Call) → IsAsked batch (Shown text) call → GroupStep start call.turns call.end → ⊥
shows_nothing batch text start call asked step =
    let it = turn_of batch (Shown text) call asked in
    let by = subst (λ (r : Reply). StepsBy r start.state it.turn call.end.state) it.replies (steps_of batch (Shown text) start call asked step) in
    let goes = subst (λ (r : Reply). GoesBy r (settled it.turn.found start.state) it.turn by.0) it.replies by.1.goes_on in
    (answers_of start.state it.turn batch (Shown text) by.0 call.end.state it.asks it.replies by.2 goes).1

pub names_nothing : (batch : Batch) (what : What) (start : Moment) (call : Call) → IsAsked batch (NoSuch what) call → GroupStep start call.turns call.end → ⊥
names_nothing batch what start call asked step =
    let it = turn_of batch (NoSuch what) call asked in
    let by = subst (λ (r : Reply). StepsBy r start.state it.turn call.end.state) it.replies (steps_of batch (NoSuch what) start call asked step) in
    let goes = subst (λ (r : Reply). GoesBy r (settled it.turn.found start.state) it.turn by.0) it.replies by.1.goes_on in
    (answers_of start.state it.turn batch (NoSuch what) by.0 call.end.state it.asks it.replies by.2 goes).1

-- a disk error is returned only if the count rose
pub fault_rose : (batch : Batch) (start end : Moment) (before : List Call) (last : Call) → IsAsked batch Fault last → Runs start (before ++ last ∷ []) end
    → Rose start.faults end.faults
fault_rose batch start end [] last asked run =
    let it = turn_of batch Fault last asked in
    let step = run.0 in
    let breaks = subst (λ (r : Reply). StepsBy r start.state it.turn last.end.state) it.replies (steps_of batch Fault start last asked step) in
    let faulty : HasFault it.turn = elim breaks.leaves [ inl leaves ↦ leaves.faulty | inr doubts ↦ doubts.faulty ] in
    let call = (subst (AllByRecursion (IsOfCall step.before last.end)) it.only step.call).0 in
    let low = step.count.0 in
    let high = step.count.1 in
    let later = run.1.1 in
    elim faulty [
      | inl rose ↦ inl (omega (arith, rose, call.begins, call.counts, low, later))
      | inr most ↦ elim (cases_lt start.faults end.faults) [
        | inl rose ↦ inl rose
        | inr same ↦ inr (omega (arith, most, call.counts, low, high, later, same))
      ]
    ]
fault_rose batch start end (call ∷ before) last asked run =
    let rest = fault_rose batch call.end end before last asked run.1 in
    let low = run.0.count.0 in
    let high = run.0.count.1 in
    elim rest [ inl rose ↦ inl (omega (arith, rose, low, high)) | inr most ↦ inr most ]

-- ---- batches of a list, one more

stand_on : (old new : List Batch) (place : ℕ) (batches : List Batch) → GoesFrom old new → StandFrom old place batches → StandFrom new place batches
stand_on old new place [] goes stand = tt
stand_on old new place (b ∷ batches) goes stand =
    let same : place + 1 - 1 ≡ place = omega arith in
    let there = holds_later old new (place + 1) b goes (subst (λ n. slice_get old n ≡ Some b) (sym same) stand.0) in
    (subst (λ n. slice_get new n ≡ Some b) same there, stand_on old new (place + 1) batches goes stand.1)

stand_more : (all : List Batch) (place : ℕ) (batches : List Batch) (b : Batch) → StandFrom all place batches → slice_get all (place + length batches) ≡ Some b
    → StandFrom all place (batches ++ b ∷ [])
stand_more all place [] b stand here =
    let same : place + 0 ≡ place = omega arith in
    (subst (λ n. slice_get all n ≡ Some b) same here, tt)
stand_more all place (c ∷ batches) b stand here =
    let same : place + suc (length batches) ≡ place + 1 + length batches = omega arith in
    (stand.0, stand_more all (place + 1) batches b stand.1 (subst (λ n. slice_get all n ≡ Some b) same here))

receipted_more : (position : ℕ) (batches : List Batch) (calls : List Call) (b : Batch) (call : Call) → AreReceipted position batches calls
    → IsReceiptedAt (position + length batches) b call → AreReceipted position (batches ++ b ∷ []) (calls ++ call ∷ [])
receipted_more position [] [] b call are one =
    let same : position + 0 ≡ position = omega arith in
    (subst (λ n. IsReceiptedAt n b call) same one, tt)
receipted_more position [] (other ∷ calls) b call are one = absurd are
receipted_more position (c ∷ batches) [] b call are one = absurd are
receipted_more position (c ∷ batches) (other ∷ calls) b call are one =
    let same : position + suc (length batches) ≡ position + 1 + length batches = omega arith in
    (are.0, receipted_more (position + 1) batches calls b call are.1 (subst (λ n. IsReceiptedAt n b call) same one))

-- the next batch of an answer was receipted in its place
pub taken_more : (answer : Answer) (count : ℕ) (start end : Moment) (calls : List Call) (b : Batch) (handheld number position : ℕ) (call : Call)
    → AreTaken answer count start.state.history calls → slice_get answer.batches count ≡ Some b → position ≡ answer.start + count + 1
    → IsAsked b (Receipt handheld number position) call → Runs start (call ∷ []) end → AreTaken answer (count + 1) end.state.history (calls ++ call ∷ [])
taken_more answer count start end calls b handheld number position call taken next at asked run =
    let more = longer answer.batches count b next in
    let fits = more.0 in
    let long = more.2 in
    let goes = runs_go start end (call ∷ []) run in
    let stands = receipt_stands b handheld number position start call asked run.0 in
    let ended : call.end.state.history ≡ end.state.history = ap (λ (s : State). s.history) (sym run.1.0) in
    let place : position - 1 ≡ answer.start + length (take count answer.batches) = omega (arith, at, long) in
    let here : slice_get end.state.history (answer.start + length (take count answer.batches)) ≡ Some b =
    ap (slice_get end.state.history) (sym place) ∙ ap (λ (l : List Batch). slice_get l (position - 1)) (sym ended) ∙ stands in
    let same : position ≡ answer.start + 1 + length (take count answer.batches) = omega (arith, at, long) in
    let receipt : IsReceiptedAt (answer.start + 1 + length (take count answer.batches)) b call =
    (handheld, number, subst (λ n. IsAsked b (Receipt handheld number n) call) same asked) in
    record {
      within = fits;
      receipted = subst (λ bs. AreReceipted (answer.start + 1) bs (calls ++ call ∷ [])) more.1
          (receipted_more (answer.start + 1) (take count answer.batches) calls b call taken.receipted receipt);
      kept = subst (StandFrom end.state.history answer.start) more.1
          (stand_more end.state.history answer.start (take count answer.batches) b
          (stand_on start.state.history end.state.history answer.start (take count answer.batches) goes taken.kept) here);
    }

-- what was taken stays taken
pub taken_on : (answer : Answer) (count : ℕ) (old new : List Batch) (calls : List Call) → GoesFrom old new → AreTaken answer count old calls
    → AreTaken answer count new calls
taken_on answer count old new calls goes taken = record {
  within = taken.within;
  receipted = taken.receipted;
  kept = stand_on old new answer.start (take count answer.batches) goes taken.kept;
}

-- ---- what a mirror keeps

-- the images of a state are fronts
front_images : (all : List Batch) (state : State) (least : ℕ) (image : List ℕ) → IsMirrorOf all state → least ≤ length state.history → StandsIn state image
    → HoldsFront all least image
front_images all state least image m low (inl opens) =
    let long = ap length m.history.is ∙ length-take-le m.history.count all m.history.within in
    record { count = m.history.count; low = omega (arith, low, long); within = m.history.within; opens = subst (Opens image) m.history.is opens }
front_images all state least image m low (inr opens) =
    let long = ap length m.doubt.is ∙ length-take-le m.doubt.count all m.doubt.within in
    let both = length-append state.history state.doubt in
    record { count = m.doubt.count; low = omega (arith, low, long, both); within = m.doubt.within; opens = subst (Opens image) m.doubt.is opens }

-- what calls keep that ask for batches from a place on
pub record CallsKeep (all : List Batch) (least reach : ℕ) (start : Moment) (calls : List Call) (end : Moment) : Type 0 where
  pub mirror : IsMirrorOf all end.state
  pub grows : length start.state.history ≤ length end.state.history
  pub reaches : reach ≤ length end.state.history
  pub images : (image : List ℕ) → StandsInRun start.state calls image → HoldsFront all least image

module _ (all : List Batch) (ruly : IsTrue (is_ruly all)) (differ : IsTrue (identities_differ all)) where
  -- a call for the batch of a place
  call_keeps : (b : Batch) (reply : Reply) (start : Moment) (call : Call) (place : ℕ) → IsMirrorOf all start.state → place ≤ length start.state.history
      → slice_get all place ≡ Some b → IsAsked b reply call → GroupStep start call.turns call.end
      → TurnKeeps all place reply start.state call.end.state
  call_keeps b reply start call place m low here asked step =
      let it = turn_of b reply call asked in
      subst (λ r. TurnKeeps all place r start.state call.end.state) it.replies
      (turned all (next_accepted all ruly differ) (longer all) (kept_stands all differ) place b start.state it.turn call.end.state it.turn.reply refl m it.asks
      here low (steps_of b reply start call asked step))

  -- one call, and then others
  then_keeps : (least reach : ℕ) (start end : Moment) (call : Call) (calls : List Call) → IsMirrorOf all start.state → least ≤ length start.state.history
      → length start.state.history ≤ length call.end.state.history → CallsKeep all least reach call.end calls end → CallsKeep all least reach start (call ∷ calls) end
  then_keeps least reach start end call calls m low grows rest =
      let more = rest.grows in
      record {
        mirror = rest.mirror;
        grows = omega (arith, grows, more);
        reaches = rest.reaches;
        images = λ image stands. elim stands [ inl here ↦ front_images all start.state least image m low here | inr later ↦ rest.images image later ];
      }

  pub no_calls : (least reach : ℕ) (start end : Moment) → IsMirrorOf all start.state → least ≤ length start.state.history → reach ≤ length start.state.history
      → Runs start [] end → CallsKeep all least reach start [] end
  no_calls least reach start end m low has run = record {
    mirror = subst (IsMirrorOf all) (sym run.0) m;
    grows = rw run.0 (omega arith);
    reaches = rw run.0 has;
    images = λ image stands. front_images all start.state least image m low stands;
  }

  has_receipt : (place : ℕ) (handheld number position n : ℕ)
      → (IsReceiptAt (Receipt handheld number position) (place + 1) × (place + 1 ≤ n))
      ⊎ ((Receipt handheld number position ≡ Fault) ⊎ (Receipt handheld number position ≡ Memory)) → place + 1 ≤ n
  has_receipt place handheld number position n (inl is) = is.1
  has_receipt place handheld number position n (inr (inl is)) = absurd cc
  has_receipt place handheld number position n (inr (inr is)) = absurd cc

  -- batches that were receipted in their places
  pub receipted_keep : (least : ℕ) (batches : List Batch) (calls : List Call) (start end : Moment) (place : ℕ) → IsMirrorOf all start.state
      → least ≤ length start.state.history → place ≤ length start.state.history → StandFrom all place batches → AreReceipted (place + 1) batches calls
      → Runs start calls end → CallsKeep all least (place + length batches) start calls end
  receipted_keep least [] [] start end place m low near stand are run = no_calls least (place + 0) start end m low (omega (arith, near)) run
  receipted_keep least [] (call ∷ calls) start end place m low near stand are run = absurd are
  receipted_keep least (b ∷ batches) [] start end place m low near stand are run = absurd are
  receipted_keep least (b ∷ batches) (call ∷ calls) start end place m low near stand are run =
      let receipt = are.0 in
      let one = call_keeps b (Receipt receipt.0 receipt.1 (place + 1)) start call place m near stand.0 receipt.2 run.0 in
      let grows = one.grows in
      let has = has_receipt place receipt.0 receipt.1 (place + 1) (length call.end.state.history) one.replied in
      let rest = receipted_keep least batches calls call.end end (place + 1) one.mirror (omega (arith, low, grows)) has stand.1 are.1 run.1 in
      let reach : place + 1 + length batches ≡ place + suc (length batches) = omega arith in
      subst (λ n. CallsKeep all least n start (call ∷ calls) end) reach (then_keeps least (place + 1 + length batches) start end call calls m low grows rest)

  -- .. and one more, whatever its reply
  pub ended_keep : (least : ℕ) (batches : List Batch) (before : List Call) (b : Batch) (reply : Reply) (last : Call) (start end : Moment) (place : ℕ)
      → IsMirrorOf all start.state → least ≤ length start.state.history → place ≤ length start.state.history → StandFrom all place (batches ++ b ∷ [])
      → AreReceipted (place + 1) batches before → IsAsked b reply last → Runs start (before ++ last ∷ []) end
      → CallsKeep all least 0 start (before ++ last ∷ []) end × (IsReceiptAt reply (place + length batches + 1) ⊎ ((reply ≡ Fault) ⊎ (reply ≡ Memory)))
  ended_keep least [] [] b reply last start end place m low near stand are asked run =
      let one = call_keeps b reply start last place m near stand.0 asked run.0 in
      let grows = one.grows in
      let none = no_calls least 0 last.end end one.mirror (omega (arith, low, grows)) (omega arith) run.1 in
      let same : place + 1 ≡ place + 0 + 1 = omega arith in
      (then_keeps least 0 start end last [] m low grows none, elim one.replied [ inl is ↦ inl (subst (IsReceiptAt reply) same is.0) | inr other ↦ inr other ])
  ended_keep least [] (call ∷ before) b reply last start end place m low near stand are asked run = absurd are
  ended_keep least (c ∷ batches) [] b reply last start end place m low near stand are asked run = absurd are
  ended_keep least (c ∷ batches) (call ∷ before) b reply last start end place m low near stand are asked run =
      let receipt = are.0 in
      let one = call_keeps c (Receipt receipt.0 receipt.1 (place + 1)) start call place m near stand.0 receipt.2 run.0 in
      let grows = one.grows in
      let has = has_receipt place receipt.0 receipt.1 (place + 1) (length call.end.state.history) one.replied in
      let rest = ended_keep least batches before b reply last call.end end (place + 1) one.mirror (omega (arith, low, grows)) has stand.1 are.1 asked run.1 in
      let same : place + 1 + length batches + 1 ≡ place + suc (length batches) + 1 = omega arith in (
        then_keeps least 0 start end call (before ++ last ∷ []) m low grows rest.0,
        elim rest.1 [ inl is ↦ inl (subst (IsReceiptAt reply) same is) | inr other ↦ inr other ],
      )
