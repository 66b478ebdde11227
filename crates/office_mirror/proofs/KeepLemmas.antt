-- Asking a mirror for the batches of its first office keeps it a mirror.
use Rattle.std.proofs.Common.{◌≡◌, ◌⊎◌, inl, inr, ℕ, zero, suc, ◌+◌, ◌<◌, ◌≤◌, List, [], ◌∷◌, ◌++◌, length, take, slice_get, Some, None}
use Rattle.std.proofs.Common.{Bool, true, false, IsTrue, refl, sym, ap, subst, ◌∙◌, arith}
use Rattle.fact_kinds.specs.declared.batch.Batch.{Batch}
use Rattle.fact_kinds.specs.Identity.{identity_of, position_of}
use Rattle.ldar_law.specs.declared.reply.Reply.{Reply}
use Rattle.ldar_law.specs.declared.reply.Reply.TheVariants.{Receipt, Conflict, Denied, Full, Shown, NoSuch, Fault, Memory}
use Rattle.ldar_law.specs.Machine.{State, Turn, Steps, AnswersBatch, StandsAt, is_accepted, batch_at}
use Rattle.ldar_law.specs.Verdicts.{verdict_on, is_pass}
use Rattle.ldar_law.specs.declared.request.Request.TheVariants.{Sync}
use Rattle.ldar_law.specs.Machine.{Finding, not_asked, they_stand, they_are_gone, settled, Answers, IsAnswered, IsWanting, Step, BreaksOff}
use Rattle.ldar_law.specs.Machine.{batch_added, batches_added}
use Rattle.std.proofs.lemmas.Bool.{and_parts}
use Rattle.std.proofs.lemmas.List.{append-nil, length-append, length-take-le}
use Rattle.std.specs.Option.{is_none}
use Rattle.std.specs.Prelude.{if◌then◌else◌}
use Rattle.office_mirror.specs.Fronts.{IsFrontOf, IsMirrorOf, IsReceiptAt, Asked, StandFrom}

-- what an answer leaves: a longer front, and a receipt of the place
pub record LeavesFront (all : List Batch) (count place : ℕ) (reply : Reply) (after : List Batch) : Type 0 where
  pub longer : ℕ
  pub grows : count ≤ longer
  pub has : place + 1 ≤ longer
  pub within : longer ≤ length all
  pub is : after ≡ take longer all
  pub receipt : IsReceiptAt reply (place + 1)

-- what a turn leaves that asks the batch of a place
pub record TurnKeeps (all : List Batch) (place : ℕ) (reply : Reply) (state next : State) : Type 0 where
  pub mirror : IsMirrorOf all next
  pub grows : length state.history ≤ length next.history
  pub replied : (IsReceiptAt reply (place + 1) × (place + 1 ≤ length next.history)) ⊎ ((reply ≡ Fault) ⊎ (reply ≡ Memory))

module _ (all : List Batch)
    (next_is_accepted : (k : ℕ) (b : Batch) → slice_get all k ≡ Some b → IsTrue (is_accepted (take k all) b))
    (next_is_longer : (k : ℕ) (b : Batch) → slice_get all k ≡ Some b
    → (k + 1 ≤ length all) × (take k all ++ b ∷ [] ≡ take (k + 1) all) × (length (take k all) ≡ k))
    (kept_stands : (k p : ℕ) (b : Batch) → p < k → k ≤ length all → slice_get all p ≡ Some b → StandsAt (take k all) b (p + 1) b) where
  -- a batch that is kept
  kept_answer : (k p : ℕ) (b : Batch) (reply : Reply) (after : List Batch) → p < k → k ≤ length all → slice_get all p ≡ Some b
      → AnswersBatch (take k all) b reply after
      → LeavesFront all k p reply after
  kept_answer k p b (Receipt handheld number position) after low within is h =
      let stands = kept_stands k p b low within is in
      elim h.2 [
        | inl kept ↦
            let same : position ≡ p + 1 = let e = sym kept.0.0 ∙ stands.0 in cc in
            record {
              longer = k;
              grows = omega arith;
              has = omega (arith, low);
              within = within;
              is = kept.1;
              receipt = (handheld, number, ap (λ n. Receipt handheld number n) same);
            }
        | inr fresh ↦ absurd (let e = rw stands.0 at fresh.0 in cc)
      ]
  kept_answer k p b (Conflict position) after low within is h =
      let stands = kept_stands k p b low within is in
      let same : position ≡ p + 1 = let e = sym h.1.0 ∙ stands.0 in cc in
      absurd (h.2 (let e = sym (subst (λ n. batch_at (take k all) n ≡ Some h.0) same h.1.1) ∙ stands.1 in cc))
  kept_answer k p b (Denied fact rule) after low within is h = absurd (let e = sym h.0 ∙ (kept_stands k p b low within is).0 in cc)
  kept_answer k p b (Full facts) after low within is h = absurd (let e = sym h.0 ∙ (kept_stands k p b low within is).0 in cc)
  kept_answer k p b (Shown text) after low within is h = absurd h
  kept_answer k p b (NoSuch what) after low within is h = absurd h
  kept_answer k p b Fault after low within is h = absurd h
  kept_answer k p b Memory after low within is h = absurd h

  -- a batch that is new
  new_answer : (k : ℕ) (b : Batch) (reply : Reply) (after : List Batch) → slice_get all k ≡ Some b → AnswersBatch (take k all) b reply after
      → LeavesFront all k k reply after
  new_answer k b (Receipt handheld number position) after is h =
      let parts = and_parts (is_none (position_of (identity_of b) (take k all))) (is_pass (verdict_on (take k all) b)) (next_is_accepted k b is) in
      let next = next_is_longer k b is in
      elim h.2 [
        | inl kept ↦ absurd (let e = rw kept.0.0 at parts.0 in cc)
        | inr fresh ↦
            let same : position ≡ k + 1 = fresh.1 ∙ ap (λ n. n + 1) next.2 in
            record {
              longer = k + 1;
              grows = omega arith;
              has = omega arith;
              within = next.0;
              is = fresh.2 ∙ next.1;
              receipt = (handheld, number, ap (λ n. Receipt handheld number n) same);
            }
      ]
  new_answer k b (Conflict position) after is h =
      let parts = and_parts (is_none (position_of (identity_of b) (take k all))) (is_pass (verdict_on (take k all) b)) (next_is_accepted k b is) in
      absurd (let e = rw h.1.0 at parts.0 in cc)
  new_answer k b (Denied fact rule) after is h =
      let parts = and_parts (is_none (position_of (identity_of b) (take k all))) (is_pass (verdict_on (take k all) b)) (next_is_accepted k b is) in
      absurd (let e = rw h.1 at parts.1 in cc)
  new_answer k b (Full facts) after is h =
      let parts = and_parts (is_none (position_of (identity_of b) (take k all))) (is_pass (verdict_on (take k all) b)) (next_is_accepted k b is) in
      absurd (let e = rw h.1 at parts.1 in cc)
  new_answer k b (Shown text) after is h = absurd h
  new_answer k b (NoSuch what) after is h = absurd h
  new_answer k b Fault after is h = absurd h
  new_answer k b Memory after is h = absurd h

  -- a place below a number or at it
  below_or_at : (p k : ℕ) → p ≤ k → (p < k) ⊎ (p ≡ k)
  below_or_at zero zero h = inr refl
  below_or_at zero (suc k) h = inl (omega arith)
  below_or_at (suc p) zero h = absurd (omega arith)
  below_or_at (suc p) (suc k) h = elim (below_or_at p k (omega arith)) [ inl l ↦ inl (omega arith) | inr e ↦ inr (ap suc e) ]

  -- a batch of the front, or the next one
  answered : (k p : ℕ) (b : Batch) (reply : Reply) (after : List Batch) → p ≤ k → k ≤ length all → slice_get all p ≡ Some b
      → AnswersBatch (take k all) b reply after
      → LeavesFront all k p reply after
  answered k p b reply after low within is h = elim (below_or_at p k low) [
    | inl below ↦ kept_answer k p b reply after below within is h
    | inr same ↦
        subst (λ n. LeavesFront all k n reply after) (sym same) (new_answer k b reply after (subst (λ n. slice_get all n ≡ Some b) same is) h)
  ]

  -- ---- states

  -- how long a front is
  front_long : (front : List Batch) (f : IsFrontOf all front) → length front ≡ f.count
  front_long front f = ap length f.is ∙ length-take-le f.count all f.within

  -- what a settling finds is a mirror
  settled_mirror : (found : Finding) (state : State) → IsMirrorOf all state → IsMirrorOf all (settled found state)
  settled_mirror not_asked state m = m
  settled_mirror they_stand state m = record { history = m.doubt; doubt = subst (IsFrontOf all) (sym (append-nil (state.history ++ state.doubt))) m.doubt }
  settled_mirror they_are_gone state m = record { history = m.history; doubt = subst (IsFrontOf all) (sym (append-nil state.history)) m.history }

  -- .. and no shorter
  settled_grows : (found : Finding) (state : State) → length state.history ≤ length (settled found state).history
  settled_grows not_asked state = omega arith
  settled_grows they_stand state = let long = length-append state.history state.doubt in omega arith
  settled_grows they_are_gone state = omega arith

  -- ---- a turn

  -- a front with nothing in doubt
  mirror_of : (front : List Batch) (next : State) → IsFrontOf all front → next.history ≡ front → next.doubt ≡ [] → IsMirrorOf all next
  mirror_of front next f is none = record {
    history = subst (IsFrontOf all) (sym is) f;
    doubt = rw (is, none, append-nil front) f;
  }

  -- a turn that was answered
  goes_on : (place : ℕ) (b : Batch) (state : State) (turn : Turn) (next : State) → IsMirrorOf all state → turn.request ≡ Sync b
      → slice_get all place ≡ Some b → place ≤ length state.history
      → IsAnswered state turn next → TurnKeeps all place turn.reply state next
  goes_on place b state turn next m asks is low h =
      let long = front_long state.history m.history in
      let answers : AnswersBatch state.history b turn.reply next.history = subst (λ r. Answers state.history r turn.reply next.history) asks h.answers in
      let left = answered m.history.count place b turn.reply next.history (omega arith) m.history.within is
      (subst (λ hs. AnswersBatch hs b turn.reply next.history) m.history.is answers) in
      let front : IsFrontOf all (take left.longer all) = record { count = left.longer; within = left.within; is = refl } in
      let more = ap length left.is ∙ length-take-le left.longer all left.within in
      let grows = left.grows in
      let has = left.has in
      record {
        mirror = mirror_of (take left.longer all) next front left.is h.none_left;
        grows = omega arith;
        replied = inl (left.receipt, omega arith);
      }

  -- one step, by its reply
  step_on : (place : ℕ) (b : Batch) (state : State) (turn : Turn) (next : State) (r : Reply) → turn.reply ≡ r → IsMirrorOf all state → turn.request ≡ Sync b
      → slice_get all place ≡ Some b
      → place ≤ length state.history
      → (elim r as (λ _. Type 0) [ Fault ↦ ⊥ | Memory ↦ IsWanting state turn next | _ ↦ IsAnswered state turn next ])
      → TurnKeeps all place turn.reply state next
  step_on place b state turn next (Receipt handheld number position) reply m asks is low h = goes_on place b state turn next m asks is low h
  step_on place b state turn next (Conflict position) reply m asks is low h = goes_on place b state turn next m asks is low h
  step_on place b state turn next (Denied fact rule) reply m asks is low h = goes_on place b state turn next m asks is low h
  step_on place b state turn next (Full facts) reply m asks is low h = goes_on place b state turn next m asks is low h
  step_on place b state turn next (Shown text) reply m asks is low h = goes_on place b state turn next m asks is low h
  step_on place b state turn next (NoSuch what) reply m asks is low h = goes_on place b state turn next m asks is low h
  step_on place b state turn next Fault reply m asks is low h = absurd h
  step_on place b state turn next Memory reply m asks is low h =
      record { mirror = subst (IsMirrorOf all) (sym h.stays) m; grows = rw h.stays (omega arith); replied = inr (inr reply) }

  -- .. after a settling
  stepped : (place : ℕ) (b : Batch) (state : State) (turn : Turn) (between next : State) → IsMirrorOf all state → turn.request ≡ Sync b
      → slice_get all place ≡ Some b
      → place ≤ length state.history → Step state turn between → next ≡ between → TurnKeeps all place turn.reply state next
  stepped place b state turn between next m asks is low step same =
      let start = settled turn.found state in
      let more = settled_grows turn.found state in
      let one = step_on place b start turn between turn.reply refl (settled_mirror turn.found state m) asks is (omega (arith, low, more)) step.goes_on in
      let grows = one.grows in
      subst (TurnKeeps all place turn.reply state) (sym same) (record { mirror = one.mirror; grows = omega (arith, more, grows); replied = one.replied })

  -- a batch that is added is the next one after the front
  added_by : (test : Bool) (b batch : Batch) → (if test then Some b else None) ≡ Some batch → IsTrue test × (b ≡ batch)
  added_by true b batch is = (refl, cc)
  added_by false b batch is = absurd cc

  -- .. so that with it there is a longer front
  added_front : (place : ℕ) (b batch : Batch) (history : List Batch) → IsFrontOf all history → slice_get all place ≡ Some b → place ≤ length history
      → batch_added history (Sync b) ≡ Some batch → IsFrontOf all (history ++ batch ∷ [])
  added_front place b batch history f is low adds =
      let by = added_by (is_accepted history b) b batch adds in
      let long = front_long history f in
      let accepted : IsTrue (is_accepted (take f.count all) b) = subst (λ hs. IsTrue (is_accepted hs b)) f.is by.0 in
      elim (below_or_at place f.count (omega (arith, low, long))) [
        | inl below ↦ absurd (let e = rw (kept_stands f.count place b below f.within is).0 at accepted in cc)
        | inr same ↦
            let here = subst (λ n. slice_get all n ≡ Some b) same is in
            let next = next_is_longer f.count b here in
            record { count = f.count + 1; within = next.0; is = ap (λ hs. hs ++ batch ∷ []) f.is ∙ ap (λ x. take f.count all ++ x ∷ []) (sym by.1) ∙ next.1 }
      ]

  -- one turn leaves one batch in doubt
  doubt_is : (history : List Batch) (turn : Turn) (batch : Batch) → batch_added history turn.request ≡ Some batch
      → batches_added history (turn ∷ []) ≡ batch ∷ []
  doubt_is history turn batch adds = rw (adds, batches_added) refl

  -- a turn with a fault
  broke_off : (place : ℕ) (b : Batch) (state : State) (turn : Turn) (next : State) → IsMirrorOf all state → turn.request ≡ Sync b → slice_get all place ≡ Some b
      → place ≤ length state.history → turn.reply ≡ Fault → BreaksOff state turn [] next → TurnKeeps all place turn.reply state next
  broke_off place b state turn next m asks is low reply h =
      let start = settled turn.found state in
      let sm = settled_mirror turn.found state m in
      let more = settled_grows turn.found state in
      elim h.leaves [
        | inl leaves ↦ record { mirror = subst (IsMirrorOf all) (sym leaves.stays) sm; grows = rw leaves.stays more; replied = inr (inl reply) }
        | inr doubts ↦
            let adds : batch_added start.history (Sync b) ≡ Some doubts.batch = subst (λ r. batch_added start.history r ≡ Some doubts.batch) asks doubts.adds in
            let front = added_front place b doubts.batch start.history sm.history is (omega (arith, low, more)) adds in
            let left : State = record { history = start.history; doubt = batches_added start.history (turn ∷ []) } in
            let both = subst (λ d. IsFrontOf all (start.history ++ d)) (sym (doubt_is start.history turn doubts.batch doubts.adds)) front in
            let mirror : IsMirrorOf all left = record { history = sm.history; doubt = both } in
            record {
              mirror = subst (IsMirrorOf all) (sym doubts.leaves) mirror;
              grows = subst (λ (s : State). length state.history ≤ length s.history) (sym doubts.leaves) more;
              replied = inr (inl reply);
            }
      ]

  -- a turn, by its reply
  pub turned : (place : ℕ) (b : Batch) (state : State) (turn : Turn) (next : State) (r : Reply) → turn.reply ≡ r → IsMirrorOf all state
      → turn.request ≡ Sync b → slice_get all place ≡ Some b
      → place ≤ length state.history
      → (elim r as (λ _. Type 0) [ Fault ↦ BreaksOff state turn [] next | _ ↦ (between : State) × Step state turn between × Steps between [] next ])
      → TurnKeeps all place turn.reply state next
  turned place b state turn next (Receipt handheld number position) reply m asks is low h = stepped place b state turn h.0 next m asks is low h.1 h.2
  turned place b state turn next (Conflict position) reply m asks is low h = stepped place b state turn h.0 next m asks is low h.1 h.2
  turned place b state turn next (Denied fact rule) reply m asks is low h = stepped place b state turn h.0 next m asks is low h.1 h.2
  turned place b state turn next (Full facts) reply m asks is low h = stepped place b state turn h.0 next m asks is low h.1 h.2
  turned place b state turn next (Shown text) reply m asks is low h = stepped place b state turn h.0 next m asks is low h.1 h.2
  turned place b state turn next (NoSuch what) reply m asks is low h = stepped place b state turn h.0 next m asks is low h.1 h.2
  turned place b state turn next Fault reply m asks is low h = broke_off place b state turn next m asks is low reply h
  turned place b state turn next Memory reply m asks is low h = stepped place b state turn h.0 next m asks is low h.1 h.2

  -- ---- an answer

  -- neither a disk error nor lack of memory is a receipt
  fault_is_no_receipt : (reply : Reply) (place : ℕ) → IsReceiptAt reply place → ((reply ≡ Fault) ⊎ (reply ≡ Memory)) → ⊥
  fault_is_no_receipt reply place h (inl e) = absurd (let o = sym h.2 ∙ e in cc)
  fault_is_no_receipt reply place h (inr e) = absurd (let o = sym h.2 ∙ e in cc)

  -- all batches of an answer, as far as they are asked
  pub asked_keeps : (state : State) (place : ℕ) (batches : List Batch) (next : State) → IsMirrorOf all state → place ≤ length state.history
      → StandFrom all place batches
      → Asked state (place + 1) batches next → IsMirrorOf all next × (length state.history ≤ length next.history)
  asked_keeps state place [] next m low stand h = (subst (IsMirrorOf all) (sym h) m, rw h (omega arith))
  asked_keeps state place (b ∷ batches) next m low stand (inl stays) = (subst (IsMirrorOf all) (sym stays) m, rw stays (omega arith))
  asked_keeps state place (b ∷ batches) next m low stand (inr h) =
      let turn = h.0 in
      let between = h.1 in
      let one = turned place b state turn between turn.reply refl m h.2 stand.0 low h.3 in
      let grows = one.grows in
      elim h.4 [
        | inl same ↦ (subst (IsMirrorOf all) (sym same) one.mirror, rw same grows)
        | inr goes ↦ elim one.replied [
          | inl receipt ↦
              let has = receipt.1 in
              let rest = asked_keeps between (place + 1) batches next one.mirror has stand.1 goes.1 in
              let more = rest.1 in
              (rest.0, omega (arith, grows, more))
          | inr fault ↦ absurd (fault_is_no_receipt turn.reply (place + 1) goes.0 fault)
        ]
      ]
