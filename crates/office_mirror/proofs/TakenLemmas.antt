-- The result of an answer: what its calls show, and what a mirror keeps of them.
use Rattle.std.proofs.Common.{◌≡◌, ◌⊎◌, inl, inr, ℕ, zero, suc, ◌+◌, ◌-◌, ◌≤◌, Option, Some, None, List, [], ◌∷◌, ◌++◌, length, take, drop}
use Rattle.std.proofs.Common.{slice_get, refl, sym, ap, subst, ◌∙◌, arith, IsTrue}
use Rattle.std.proofs.lemmas.List.{append-nil, take_all, take-append-drop}
use Rattle.disk_model.specs.Faults.{Rose}
use Rattle.disk_model.specs.Told.{Told}
use Rattle.fact_kinds.specs.declared.batch.Batch.{Batch}
use Rattle.fact_kinds.specs.Identity.{identities_differ}
use Rattle.ldar_journal.specs.Image.{batches_of}
use Rattle.ldar_journal.specs.Shelf.{Shelf}
use Rattle.ldar_law.specs.declared.reply.Reply.{Reply}
use Rattle.ldar_law.specs.declared.reply.Reply.TheVariants.{Receipt, Conflict, Denied, Full, Shown, NoSuch}
use Rattle.ldar_law.specs.declared.reply.Reply.TheVariants as replies
use Rattle.ldar_law.specs.declared.request.What.{What}
use Rattle.ldar_law.specs.Machine.{State, Moment, Call, Runs}
use Rattle.ldar_law.specs.Verdicts.{is_ruly}
use Rattle.office_book.specs.Safe.{IsSafe, Leads, state_of, moment_of}
use Rattle.office_book.specs.SafeLaws.{leads_joins}
use Rattle.office_mirror.specs.declared.answer.Answer.{Answer}
use Rattle.office_mirror.specs.declared.taken.Taken.{Taken}
use Rattle.office_mirror.specs.declared.taken.Taken.TheVariants.{Gap, Held, Stranger, Fault, Memory}
use Rattle.office_mirror.specs.Fronts.{IsMirrorOf, From, StandFrom, IsReceiptAt, Asked}
use Rattle.office_mirror.specs.Taking.{IsAsked, AreReceipted, AreTaken, EndsAfter, AsksOnce, IsStrange, IsTaken, KeepsMirror, MirrorsAs, ended_by}
use Rattle.office_mirror.proofs.OfficeLemmas.{longer}
use Rattle.office_mirror.proofs.WorldLemmas.{stand_behind}
use Rattle.office_mirror.proofs.TakeLemmas.{turn_of, steps_of, runs_go, shows_nothing, names_nothing, fault_rose, taken_more, taken_on}
use Rattle.office_mirror.proofs.TakeLemmas.{CallsKeep, no_calls, receipted_keep, ended_keep}

-- ---- an answer that ends at some batch

-- its result, by the reply to that batch
ended_is : (answer : Answer) (held : ℕ) (history : List Batch) (calls : List Call) (reply : Reply) (count : ℕ) → answer.start ≤ held
    → EndsAfter answer count history calls reply → ¬ (IsReceiptAt reply (answer.start + count + 1)) → ((text : List ℕ) → reply ≡ Shown text → ⊥)
    → ((what : What) → reply ≡ NoSuch what → ⊥) → IsTaken answer held history calls (ended_by reply (count + 1))
ended_is answer held history calls (Receipt handheld number position) count near ends other no_text no_name =
    let back : count + 1 - 1 ≡ count = omega arith in
    let place : answer.start + (count + 1) ≡ answer.start + count + 1 = omega arith in (
      near,
      omega arith,
      subst (λ n. EndsAfter answer n history calls (Receipt handheld number position)) (sym back) ends,
      λ same. other (handheld, number, ap (Receipt handheld number) (same ∙ place)),
    )
ended_is answer held history calls (Conflict position) count near ends other no_text no_name =
    let back : count + 1 - 1 ≡ count = omega arith in
    (near, omega arith, subst (λ n. EndsAfter answer n history calls (Conflict position)) (sym back) ends, tt)
ended_is answer held history calls (Denied fact rule) count near ends other no_text no_name =
    let back : count + 1 - 1 ≡ count = omega arith in
    (near, omega arith, subst (λ n. EndsAfter answer n history calls (Denied fact rule)) (sym back) ends, tt)
ended_is answer held history calls (Full facts) count near ends other no_text no_name =
    let back : count + 1 - 1 ≡ count = omega arith in
    (near, omega arith, subst (λ n. EndsAfter answer n history calls (Full facts)) (sym back) ends, tt)
ended_is answer held history calls (Shown text) count near ends other no_text no_name = absurd (no_text text refl)
ended_is answer held history calls (NoSuch what) count near ends other no_text no_name = absurd (no_name what refl)
ended_is answer held history calls replies.Fault count near ends other no_text no_name = (near, count, ends)
ended_is answer held history calls replies.Memory count near ends other no_text no_name = (near, count, inl ends)

-- a gap is no end at a batch
pub ended_no_gap : (reply : Reply) (index start held : ℕ) → ended_by reply index ≡ Gap start held → ⊥
ended_no_gap (Receipt handheld number position) index start held is = absurd cc
ended_no_gap (Conflict position) index start held is = absurd cc
ended_no_gap (Denied fact rule) index start held is = absurd cc
ended_no_gap (Full facts) index start held is = absurd cc
ended_no_gap (Shown text) index start held is = absurd cc
ended_no_gap (NoSuch what) index start held is = absurd cc
ended_no_gap replies.Fault index start held is = absurd cc
ended_no_gap replies.Memory index start held is = absurd cc

-- before the first batch
pub none_taken : (answer : Answer) (history : List Batch) → AreTaken answer 0 history []
none_taken answer history = record { within = omega arith; receipted = tt; kept = tt }

-- after the last one
pub all_taken : (answer : Answer) (count : ℕ) (history : List Batch) (calls : List Call) → length answer.batches ≤ count → AreTaken answer count history calls
    → AreTaken answer (length answer.batches) history calls
all_taken answer count history calls all taken =
    let within = taken.within in
    let same : count ≡ length answer.batches = omega (arith, all, within) in
    subst (λ n. AreTaken answer n history calls) same taken

-- ---- the loop over the batches

module _ {D : Type 0} (content_of : D → Option (List ℕ)) (left_of : D → ℕ → List ℕ → Type 0) (clock_of name_of faults_of : D → ℕ) where
  -- these calls led from one value to the other
  abbrev Led : Shelf D → List Call → Shelf D → Type 0
  Led old calls new = Leads content_of left_of clock_of name_of faults_of old calls new

  module _ (answer : Answer) (count : ℕ) (b : Batch) (reply : Reply) (old mid new : Shelf D) (calls more : List Call) (led : Led old calls mid)
      (taken : AreTaken answer count (batches_of mid.frames) calls) (next : slice_get answer.batches count ≡ Some b) (leads : Led mid more new) where
    -- both together
    joined : Led old (calls ++ more) new
    joined = leads_joins content_of left_of clock_of name_of faults_of old mid new calls more led leads

    -- the batch was receipted in its place
    pub goes_on : AsksOnce b reply more → IsReceiptAt reply (answer.start + count + 1)
        → (all : List Call) × Led old all new × AreTaken answer (count + 1) (batches_of new.frames) all
    goes_on (inl none) is = absurd (let clash = sym none.1 ∙ is.2 in cc)
    goes_on (inr one) is =
        let call = one.0 in
        let asked = subst (λ r. IsAsked b r call) is.2 one.2 in
        let run = subst (λ (cs : List Call). Runs (moment_of clock_of faults_of mid) cs (moment_of clock_of faults_of new)) one.1 leads.runs in (
          calls ++ more,
          joined,
          subst (λ (cs : List Call). AreTaken answer (count + 1) (batches_of new.frames) (calls ++ cs)) (sym one.1)
              (taken_more answer count (moment_of clock_of faults_of mid) (moment_of clock_of faults_of new) calls b is.0 is.1 (answer.start + count + 1) call
              taken next refl asked run),
        )

    -- it was not
    pub ends_here : AsksOnce b reply more → ¬ (IsReceiptAt reply (answer.start + count + 1)) → answer.start ≤ length (batches_of old.frames)
        → (all : List Call) × Led old all new × IsTaken answer (length (batches_of old.frames)) (batches_of new.frames) all (ended_by reply (count + 1))
    ends_here (inl none) other near =
        let on = taken_on answer count (batches_of mid.frames) (batches_of new.frames) calls
        (runs_go (moment_of clock_of faults_of mid) (moment_of clock_of faults_of new) more leads.runs) taken in
        let same : calls ++ more ≡ calls = ap (λ (cs : List Call). calls ++ cs) none.0 ∙ append-nil calls in (
          calls ++ more,
          joined,
          subst (λ r. IsTaken answer (length (batches_of old.frames)) (batches_of new.frames) (calls ++ more) (ended_by r (count + 1)))
              (sym none.1) (near, count, inr (subst (AreTaken answer count (batches_of new.frames)) (sym same) on)),
        )
    ends_here (inr one) other near =
        let call = one.0 in
        let run = subst (λ (cs : List Call). Runs (moment_of clock_of faults_of mid) cs (moment_of clock_of faults_of new)) one.1 leads.runs in
        let on = taken_on answer count (batches_of mid.frames) (batches_of new.frames) calls
        (runs_go (moment_of clock_of faults_of mid) (moment_of clock_of faults_of new) more leads.runs) taken in
        let ends : EndsAfter answer count (batches_of new.frames) (calls ++ more) reply = record {
          before = calls;
          last = call;
          are = ap (λ (cs : List Call). calls ++ cs) one.1;
          taken = on;
          batch = b;
          next = next;
          asked = one.2;
        } in (
          calls ++ more,
          joined,
          ended_is answer (length (batches_of old.frames)) (batches_of new.frames) (calls ++ more) reply count near ends other
              (λ text is. shows_nothing b text (moment_of clock_of faults_of mid) call (subst (λ r. IsAsked b r call) is one.2) run.0)
              (λ what is. names_nothing b what (moment_of clock_of faults_of mid) call (subst (λ r. IsAsked b r call) is one.2) run.0),
        )

  -- ---- what a mirror keeps

  told_map : {P Q : Type 0} (x : Option (List ℕ)) → (P → Q) → Told x (λ _. P) → Told x (λ _. Q)
  told_map None f p = tt
  told_map (Some now) f p = f p

  module _ (all : List Batch) (ruly : IsTrue (is_ruly all)) (differ : IsTrue (identities_differ all)) (answer : Answer) (from : From all answer)
      (old new : Shelf D) (calls : List Call) (leads : Led old calls new) (mirror : IsMirrorOf all (state_of old)) where
    -- where the old value begins and the new one ends
    abbrev start : Moment
    start = moment_of clock_of faults_of old

    abbrev end : Moment
    end = moment_of clock_of faults_of new

    -- the calls keep the mirror
    abbrev Keep : Type 0
    Keep = CallsKeep all (length (batches_of old.frames)) 0 start calls end

    stand : StandFrom all answer.start answer.batches
    stand = subst (StandFrom all answer.start) from (stand_behind all (length answer.batches) answer.start)

    stand_front : (place n : ℕ) (batches : List Batch) → StandFrom all place batches → StandFrom all place (take n batches)
    stand_front place zero batches h = tt
    stand_front place (suc n) [] h = tt
    stand_front place (suc n) (b ∷ batches) h = (h.0, stand_front (place + 1) n batches h.1)

    -- this many batches were taken
    taken_keep : (count : ℕ) → answer.start ≤ length (batches_of old.frames) → AreTaken answer count (batches_of new.frames) calls
        → CallsKeep all (length (batches_of old.frames)) (answer.start + length (take count answer.batches)) start calls end
    taken_keep count near taken =
        receipted_keep all ruly differ (length (batches_of old.frames)) (take count answer.batches) calls start end answer.start mirror (omega arith) near
        (stand_front answer.start count answer.batches stand) taken.receipted leads.runs

    -- what it keeps but for how far it reaches
    lower : (reach : ℕ) → CallsKeep all (length (batches_of old.frames)) reach start calls end → Keep
    lower reach keep = record { mirror = keep.mirror; grows = keep.grows; reaches = omega arith; images = keep.images }

    -- the call of a batch was the last
    ended_keeps : (count : ℕ) (reply : Reply) → answer.start ≤ length (batches_of old.frames) → EndsAfter answer count (batches_of new.frames) calls reply
        → Keep × (IsReceiptAt reply (answer.start + count + 1) ⊎ ((reply ≡ replies.Fault) ⊎ (reply ≡ replies.Memory)))
    ended_keeps count reply near ends =
        let next = longer answer.batches count ends.batch ends.next in
        let there = subst (StandFrom all answer.start) (sym next.1) (stand_front answer.start (count + 1) answer.batches stand) in
        let run = subst (λ (cs : List Call). Runs start cs end) ends.are leads.runs in
        let keep = ended_keep all ruly differ (length (batches_of old.frames)) (take count answer.batches) ends.before ends.batch reply ends.last start end
        answer.start mirror (omega arith) near there ends.taken.receipted ends.asked run in (
          subst (λ (cs : List Call). CallsKeep all (length (batches_of old.frames)) 0 start cs end) (sym ends.are) keep.0,
          elim keep.1 [ inl is ↦ inl (subst (λ n. IsReceiptAt reply (answer.start + n + 1)) next.2 is) | inr other ↦ inr other ],
        )

    no_stranger : (position : ℕ) (reply : Reply) → IsStrange position reply
        → (IsReceiptAt reply position ⊎ ((reply ≡ replies.Fault) ⊎ (reply ≡ replies.Memory))) → ⊥
    no_stranger position reply strange (inl is) = (subst (IsStrange position) is.2 strange) refl
    no_stranger position reply strange (inr (inl is)) = subst (IsStrange position) is strange
    no_stranger position reply strange (inr (inr is)) = subst (IsStrange position) is strange

    -- in each case
    keeps : (result : Taken) → IsTaken answer (length (batches_of old.frames)) (batches_of new.frames) calls result → Keep × MirrorsAs answer result
    keeps (Gap from_start held) is =
        let run = subst (λ (cs : List Call). Runs start cs end) is.3 leads.runs in (
          subst (λ (cs : List Call). CallsKeep all (length (batches_of old.frames)) 0 start cs end) (sym is.3)
              (no_calls all ruly differ (length (batches_of old.frames)) 0 start end mirror (omega arith) (omega arith) run),
          tt,
        )
    keeps (Held count) is =
        let keep = taken_keep (length answer.batches) is.0 is.1 in
        let reaches : answer.start + length (take (length answer.batches) answer.batches) ≤ length (batches_of new.frames) = keep.reaches in
        let whole = ap length (take_all (length answer.batches) answer.batches (omega arith)) in
        (lower _ keep, omega (arith, reaches, whole, is.2))
    keeps (Stranger index reply) is =
        let keep = ended_keeps (index - 1) reply is.0 is.2 in
        let place : answer.start + (index - 1) + 1 ≡ answer.start + index = omega (arith, is.1) in
        absurd (no_stranger (answer.start + (index - 1) + 1) reply (subst (λ n. IsStrange n reply) (sym place) is.3) keep.1)
    keeps Fault is = ((ended_keeps is.1 replies.Fault is.0 is.2).0, tt)
    keeps Memory is = elim is.2 [
      | inl ends ↦ ((ended_keeps is.1 replies.Memory is.0 ends).0, tt)
      | inr taken ↦ (lower _ (taken_keep is.1 is.0 taken), tt)
    ]

    pub keeps_mirror : (result : Taken) → IsTaken answer (length (batches_of old.frames)) (batches_of new.frames) calls result
        → KeepsMirror content_of left_of clock_of all old new × MirrorsAs answer result
    keeps_mirror result is =
        let keep = keeps result is in (
          record {
            images = told_map (content_of old.disk) (λ (safe : IsSafe clock_of left_of old calls new). record {
              since = λ t image le left. elim (safe.since.since t image le left) [ inl before ↦ inl before | inr stands ↦ inr (keep.0.images image stands) ];
            }) leads.safe;
            mirror = keep.0.mirror;
            grows = keep.0.grows;
          },
          keep.1,
        )

  -- ---- the same as steps of the machine

  asked_none : (state next : State) (position : ℕ) (batches : List Batch) → next ≡ state → Asked state position batches next
  asked_none state next position [] same = same
  asked_none state next position (b ∷ batches) same = inl same

  receipted_asked : (batches more : List Batch) (calls : List Call) (start end : Moment) (position : ℕ) → AreReceipted position batches calls
      → Runs start calls end → Asked start.state position (batches ++ more) end.state
  receipted_asked [] more [] start end position are run = asked_none start.state end.state position more run.0
  receipted_asked [] more (call ∷ calls) start end position are run = absurd are
  receipted_asked (b ∷ batches) more [] start end position are run = absurd are
  receipted_asked (b ∷ batches) more (call ∷ calls) start end position are run =
      let receipt = are.0 in
      let it = turn_of b (Receipt receipt.0 receipt.1 position) call receipt.2 in
      inr (
        it.turn,
        call.end.state,
        it.asks,
        steps_of b (Receipt receipt.0 receipt.1 position) start call receipt.2 run.0,
        inr ((receipt.0, receipt.1, it.replies), receipted_asked batches more calls call.end end (position + 1) are.1 run.1),
      )

  ended_asked : (batches more : List Batch) (before : List Call) (b : Batch) (reply : Reply) (last : Call) (start end : Moment) (position : ℕ)
      → AreReceipted position batches before → IsAsked b reply last → Runs start (before ++ last ∷ []) end
      → Asked start.state position (batches ++ b ∷ more) end.state
  ended_asked [] more [] b reply last start end position are asked run =
      let it = turn_of b reply last asked in
      inr (it.turn, last.end.state, it.asks, steps_of b reply start last asked run.0, inl run.1.0)
  ended_asked [] more (call ∷ before) b reply last start end position are asked run = absurd are
  ended_asked (c ∷ batches) more [] b reply last start end position are asked run = absurd are
  ended_asked (c ∷ batches) more (call ∷ before) b reply last start end position are asked run =
      let receipt = are.0 in
      let it = turn_of c (Receipt receipt.0 receipt.1 position) call receipt.2 in
      inr (
        it.turn,
        call.end.state,
        it.asks,
        steps_of c (Receipt receipt.0 receipt.1 position) start call receipt.2 run.0,
        inr ((receipt.0, receipt.1, it.replies), ended_asked batches more before b reply last call.end end (position + 1) are.1 asked run.1),
      )

  split_at : (xs : List Batch) (n : ℕ) (b : Batch) → slice_get xs n ≡ Some b → take n xs ++ b ∷ drop (suc n) xs ≡ xs
  split_at [] n b here = absurd cc
  split_at (x ∷ xs) zero b here = let same : x ≡ b = cc in ap (λ y. y ∷ xs) (sym same)
  split_at (x ∷ xs) (suc n) b here = ap (λ ys. x ∷ ys) (split_at xs n b here)

  module _ (answer : Answer) (old new : Shelf D) (calls : List Call) (leads : Led old calls new) where
    taken_asked : (count : ℕ) → AreTaken answer count (batches_of new.frames) calls → Asked (state_of old) (answer.start + 1) answer.batches (state_of new)
    taken_asked count taken =
        subst (λ bs. Asked (state_of old) (answer.start + 1) bs (state_of new)) (take-append-drop count answer.batches)
        (receipted_asked (take count answer.batches) (drop count answer.batches) calls (moment_of clock_of faults_of old) (moment_of clock_of faults_of new)
        (answer.start + 1) taken.receipted leads.runs)

    ends_asked : (count : ℕ) (reply : Reply) → EndsAfter answer count (batches_of new.frames) calls reply
        → Asked (state_of old) (answer.start + 1) answer.batches (state_of new)
    ends_asked count reply ends =
        subst (λ bs. Asked (state_of old) (answer.start + 1) bs (state_of new)) (split_at answer.batches count ends.batch ends.next)
        (ended_asked (take count answer.batches) (drop (suc count) answer.batches) ends.before ends.batch reply ends.last (moment_of clock_of faults_of old)
        (moment_of clock_of faults_of new) (answer.start + 1) ends.taken.receipted ends.asked
        (subst (λ (cs : List Call). Runs (moment_of clock_of faults_of old) cs (moment_of clock_of faults_of new)) ends.are leads.runs))

    pub asks : (result : Taken) → IsTaken answer (length (batches_of old.frames)) (batches_of new.frames) calls result
        → Asked (state_of old) (answer.start + 1) answer.batches (state_of new)
    asks (Gap from_start held) is =
        asked_none (state_of old) (state_of new) (answer.start + 1) answer.batches
        (subst (λ (cs : List Call). Runs (moment_of clock_of faults_of old) cs (moment_of clock_of faults_of new)) is.3 leads.runs).0
    asks (Held count) is = taken_asked (length answer.batches) is.1
    asks (Stranger index reply) is = ends_asked (index - 1) reply is.2
    asks Fault is = ends_asked is.1 replies.Fault is.2
    asks Memory is = elim is.2 [ inl ends ↦ ends_asked is.1 replies.Memory ends | inr taken ↦ taken_asked is.1 taken ]

    -- a disk error is returned only if the count rose
    pub fault_caused : (result : Taken) → result ≡ Fault → IsTaken answer (length (batches_of old.frames)) (batches_of new.frames) calls result
        → Rose (faults_of old.disk) (faults_of new.disk)
    fault_caused result told is =
        let fault = subst (IsTaken answer (length (batches_of old.frames)) (batches_of new.frames) calls) told is in
        let ends = fault.2 in
        fault_rose ends.batch (moment_of clock_of faults_of old) (moment_of clock_of faults_of new) ends.before ends.last ends.asked
        (subst (λ (cs : List Call). Runs (moment_of clock_of faults_of old) cs (moment_of clock_of faults_of new)) ends.are leads.runs)
