-- Batches that are sent one after the other: what was served of one, and of those after it.
use Rattle.std.proofs.Common.{◌≡◌, ◌⊎◌, inl, inr, ℕ, ◌+◌, ◌<◌, ◌≤◌, List, [], ◌∷◌, ◌++◌, length, map, take, drop, get_or, Option, Some, All}
use Rattle.std.proofs.Common.{refl, sym, ap, subst, ◌∙◌, append_assoc, length-append, arith}
use Rattle.std.specs.List.{flat_map, AllByRecursion}
use Rattle.std.specs.Option.{option_to_list}
use Rattle.std.proofs.lemmas.List.{append-nil, map-append, take_more, take-append-drop}
use Rattle.std.proofs.lemmas.Grind.{flat_map-append}
use Rattle.list_words.proofs.Members.{all_append}
use Rattle.disk_model.specs.Faults.{Rose}
use Rattle.fact_kinds.specs.declared.batch.Batch.{Batch}
use Rattle.ldar_law.specs.declared.reply.Reply.{Reply}
use Rattle.ldar_law.specs.declared.reply.Reply.TheVariants as replies
use Rattle.ldar_law.specs.declared.request.Request.{Request}
use Rattle.ldar_law.specs.declared.request.Request.TheVariants.{Sync}
use Rattle.ldar_law.specs.Machine.{State, Moment, Call, Turn, Answers, AnswersBatch, IsAnswered, Steps, Runs, settled}
use Rattle.ldar_law.specs.Replies.{reply_text}
use Rattle.ldar_ports.specs.Sink.{Piece, Puts, IsStamped, bytes_of}
use Rattle.office_interface.specs.Asking.{requests_of, replies_of}
use Rattle.office_commands.specs.declared.batches.Sent.{Sent}
use Rattle.office_commands.specs.declared.batches.Sent.TheVariants.{Done, Unreceipted, WriteFault, Memory}
use Rattle.office_commands.specs.declared.batches.Unkept.{Unkept}
use Rattle.office_commands.specs.declared.batches.Unkept.TheVariants as unkepts
use Rattle.office_commands.specs.Sending.{IsSent, IsReceipt, IsOfBatch, IsOfLine, AreReceipted, asked_in, AllReceipted, SentUpTo, EndsAsking}
use Rattle.office_commands.specs.Sending.{reply_for, sent_as}
use Rattle.ldar_session.specs.Served.{Served, Talk, texts_of, turns_of}
use Rattle.ldar_session.proofs.TalkLemmas.{talk_call, talk_unsaid}
use Rattle.office_commands.proofs.FaultLemmas.{rose_since}
use Rattle.office_commands.proofs.RulyLemmas.{GoesBy, StepsBy}

-- ---- one call

-- what is served in these turns
pub sent_in : List Turn → List Served
sent_in [] = []
sent_in (turn ∷ turns) = record { item = []; turn = Some turn; text = reply_text turn.reply } ∷ sent_in turns

pub turns_of-sent_in : (turns : List Turn) → turns_of (sent_in turns) ≡ turns
unfolding sent_in
turns_of-sent_in [] = refl
turns_of-sent_in (turn ∷ turns) = ap (λ l. turn ∷ l) (turns_of-sent_in turns)

texts_of-sent_in : (turns : List Turn) → texts_of (sent_in turns) ≡ flat_map reply_text (map (λ (turn : Turn). turn.reply) turns)
unfolding sent_in
texts_of-sent_in [] = refl
texts_of-sent_in (turn ∷ turns) = ap (λ l. reply_text turn.reply ++ l) (texts_of-sent_in turns)

are_sent : (turns : List Turn) → AllByRecursion IsSent (sent_in turns)
unfolding sent_in
are_sent [] = tt
are_sent (turn ∷ turns) = (record { no_item = refl; says = refl }, are_sent turns)

-- a request that was asked by itself, and a prefix of the line of its reply
pub sent_put : {O : Type 0} (led : O → List Call → O → Type 0) (clock_of : O → ℕ) (old new : O) (call : Call) (reply : Reply)
    (pieces pieces' : Option (List Piece)) (put : List Piece) (unsaid : List ℕ) (clock : ℕ) → led old (call ∷ []) new → replies_of call ≡ reply ∷ []
    → Puts pieces put pieces' → reply_text reply ≡ bytes_of put ++ unsaid → All (IsStamped clock) put → call.end.clock ≤ clock → clock ≤ clock_of new
    → Talk IsSent led clock_of old new pieces pieces' (sent_in call.turns) unsaid
sent_put led clock_of old new call reply pieces pieces' put unsaid clock run replied puts said stamped late le =
    talk_call IsSent led clock_of old new call pieces pieces' put (sent_in call.turns) unsaid clock run (turns_of-sent_in call.turns) (are_sent call.turns)
    puts (texts_of-sent_in call.turns ∙ ap (flat_map reply_text) replied ∙ append-nil (reply_text reply) ∙ said) stamped late le

-- .. of which nothing was written
pub sent_unsaid : {O : Type 0} (led : O → List Call → O → Type 0) (clock_of : O → ℕ) (old new : O) (call : Call) (pieces : Option (List Piece))
    → led old (call ∷ []) new → Talk IsSent led clock_of old new pieces pieces (sent_in call.turns) (texts_of (sent_in call.turns))
sent_unsaid led clock_of old new call pieces run =
    talk_unsaid IsSent led clock_of old new call pieces (sent_in call.turns) run (turns_of-sent_in call.turns) (are_sent call.turns)

-- the one turn of such a call
one_turn : (turns : List Turn) (request : Request) (reply : Reply) → map (λ (turn : Turn). turn.request) turns ≡ request ∷ []
    → map (λ (turn : Turn). turn.reply) turns ≡ reply ∷ []
    → (turn : Turn) × (turns ≡ turn ∷ []) × (turn.request ≡ request) × (turn.reply ≡ reply)
one_turn [] request reply asked replied = absurd cc
one_turn (turn ∷ []) request reply asked replied = (turn, refl, cc, cc)
one_turn (turn ∷ other ∷ turns) request reply asked replied = absurd cc

-- it was sent and answered so
pub sent_one : (call : Call) (request : Request) (reply : Reply) → requests_of call ≡ request ∷ [] → replies_of call ≡ reply ∷ []
    → SentUpTo reply (request ∷ []) (sent_in call.turns)
sent_one call request reply asked replied =
    let one = one_turn call.turns request reply asked replied in
    let turns = turns_of-sent_in call.turns in record {
      before = [];
      last = one.0;
      turns = turns ∙ one.1;
      receipts = tt;
      replied = one.3;
      behind = [];
      asked = sym asked ∙ ap asked_in (sym turns) ∙ sym (append-nil (asked_in (turns_of (sent_in call.turns))));
    }

-- .. and receipted, with all of its line
pub receipted_one : (call : Call) (request : Request) (reply : Reply) → requests_of call ≡ request ∷ [] → replies_of call ≡ reply ∷ []
    → IsReceipt reply → AllReceipted (request ∷ []) (sent_in call.turns) []
receipted_one call request reply asked replied receipt =
    let one = one_turn call.turns request reply asked replied in
    let turns = turns_of-sent_in call.turns in record {
      said = refl;
      asked = ap asked_in turns ∙ asked;
      receipts = subst AreReceipted (sym (turns ∙ one.1)) (subst IsReceipt (sym one.3) receipt, tt);
    }

-- how its sending ends if it is not kept
unkept_one : (call : Call) (request : Request) (unkept : Unkept) (unsaid : List ℕ) (old new : ℕ) (receipted ended : Sent)
    → requests_of call ≡ request ∷ [] → replies_of call ≡ reply_for unkept ∷ [] → ended ≡ Unreceipted unkept → IsOfLine (reply_for unkept) unsaid
    → ((receipted ≡ Done) × (unsaid ≡ [])) ⊎ ((receipted ≡ WriteFault) × Rose old new)
    → EndsAsking ended (request ∷ []) (sent_in call.turns) unsaid old new
unkept_one call request unkept unsaid old new receipted ended asked replied is short said =
    subst (λ (s : Sent). EndsAsking s (request ∷ []) (sent_in call.turns) unsaid old new) (sym is) (record {
      sent = sent_one call request (reply_for unkept) asked replied;
      said = elim said [ inl all ↦ inl all.1 | inr part ↦ inr part.1 ];
      of_last = short;
    })

-- how its sending ends
pub ends_one : (call : Call) (request : Request) (reply : Reply) (unsaid : List ℕ) (old new : ℕ) (receipted ended : Sent)
    → requests_of call ≡ request ∷ [] → replies_of call ≡ reply ∷ [] → IsOfBatch reply → ended ≡ sent_as reply receipted → IsOfLine reply unsaid
    → ((receipted ≡ Done) × (unsaid ≡ [])) ⊎ ((receipted ≡ WriteFault) × Rose old new)
    → EndsAsking ended (request ∷ []) (sent_in call.turns) unsaid old new
ends_one call request (replies.Receipt handheld number position) unsaid old new receipted ended asked replied kind is short (inl all) =
    subst (λ (s : Sent). EndsAsking s (request ∷ []) (sent_in call.turns) unsaid old new) (sym (is ∙ all.0))
    (subst (λ (l : List ℕ). AllReceipted (request ∷ []) (sent_in call.turns) l) (sym all.1)
    (receipted_one call request (replies.Receipt handheld number position) asked replied tt))
ends_one call request (replies.Receipt handheld number position) unsaid old new receipted ended asked replied kind is short (inr part) =
    subst (λ (s : Sent). EndsAsking s (request ∷ []) (sent_in call.turns) unsaid old new) (sym (is ∙ part.0)) (
      replies.Receipt handheld number position,
      tt,
      record { sent = sent_one call request (replies.Receipt handheld number position) asked replied; of_last = short },
    )
ends_one call request (replies.Conflict position) unsaid old new receipted ended asked replied kind is short said =
    unkept_one call request (unkepts.Conflict position) unsaid old new receipted ended asked replied is short said
ends_one call request (replies.Denied fact rule) unsaid old new receipted ended asked replied kind is short said =
    unkept_one call request (unkepts.Denied fact rule) unsaid old new receipted ended asked replied is short said
ends_one call request (replies.Full facts) unsaid old new receipted ended asked replied kind is short said =
    unkept_one call request (unkepts.Full facts) unsaid old new receipted ended asked replied is short said
ends_one call request (replies.Shown text) unsaid old new receipted ended asked replied kind is short said = absurd kind
ends_one call request (replies.NoSuch what) unsaid old new receipted ended asked replied kind is short said = absurd kind
ends_one call request replies.Fault unsaid old new receipted ended asked replied kind is short said =
    unkept_one call request unkepts.Fault unsaid old new receipted ended asked replied is short said
ends_one call request replies.Memory unsaid old new receipted ended asked replied kind is short said =
    unkept_one call request unkepts.Memory unsaid old new receipted ended asked replied is short said

-- what is unsaid of a text is no longer than it
pub unsaid_short : (text put unsaid : List ℕ) → text ≡ put ++ unsaid → length unsaid ≤ length text
unsaid_short text put unsaid says = let long = ap length says ∙ length-append put unsaid in omega (arith, long)

-- what is written of one turn is its line
pub text_of_one : (call : Call) (reply : Reply) → replies_of call ≡ reply ∷ [] → texts_of (sent_in call.turns) ≡ reply_text reply
text_of_one call reply replied = texts_of-sent_in call.turns ∙ ap (flat_map reply_text) replied ∙ append-nil (reply_text reply)

-- ---- a batch is answered by no view

-- a turn of a batch that goes on
batch_reply : (reply : Reply) (state : State) (turn : Turn) (batch : Batch) (next : State) → turn.request ≡ Sync batch → turn.reply ≡ reply
    → IsAnswered state turn next → AnswersBatch state.history batch reply next.history
batch_reply reply state turn batch next asked is answered =
    subst (λ (r : Reply). AnswersBatch state.history batch r next.history) is
    (subst (λ (q : Request). Answers state.history q turn.reply next.history) asked answered.answers)

of_batch_by : (reply : Reply) (state : State) (turn : Turn) (batch : Batch) (turns : List Turn) (next : State) → turn.request ≡ Sync batch
    → turn.reply ≡ reply → StepsBy reply state turn turns next → IsOfBatch reply
of_batch_by (replies.Receipt handheld number position) state turn batch turns next asked is steps = tt
of_batch_by (replies.Conflict position) state turn batch turns next asked is steps = tt
of_batch_by (replies.Denied fact rule) state turn batch turns next asked is steps = tt
of_batch_by (replies.Full facts) state turn batch turns next asked is steps = tt
of_batch_by (replies.Shown text) state turn batch turns next asked is steps =
    batch_reply (replies.Shown text) (settled turn.found state) turn batch steps.0 asked is
    (subst (λ (r : Reply). GoesBy r (settled turn.found state) turn steps.0) is steps.1.goes_on)
of_batch_by (replies.NoSuch what) state turn batch turns next asked is steps =
    batch_reply (replies.NoSuch what) (settled turn.found state) turn batch steps.0 asked is
    (subst (λ (r : Reply). GoesBy r (settled turn.found state) turn steps.0) is steps.1.goes_on)
of_batch_by replies.Fault state turn batch turns next asked is steps = tt
of_batch_by replies.Memory state turn batch turns next asked is steps = tt

turn_of_batch : (turns : List Turn) (state next : State) (batch : Batch) (reply : Reply) → map (λ (t : Turn). t.request) turns ≡ Sync batch ∷ []
    → map (λ (t : Turn). t.reply) turns ≡ reply ∷ [] → Steps state turns next → IsOfBatch reply
turn_of_batch [] state next batch reply asked told steps = absurd cc
turn_of_batch (turn ∷ turns) state next batch reply asked told steps =
    let same : turn.request ≡ Sync batch = cc in
    let is : turn.reply ≡ reply = cc in
    of_batch_by reply state turn batch turns next same is (subst (λ (r : Reply). StepsBy r state turn turns next) is steps)

-- the reply to a batch that was asked by itself
pub call_of_batch : (start end : Moment) (call : Call) (batch : Batch) (reply : Reply) → Runs start (call ∷ []) end
    → requests_of call ≡ Sync batch ∷ [] → replies_of call ≡ reply ∷ [] → IsOfBatch reply
call_of_batch start end call batch reply runs asked told = turn_of_batch call.turns start.state call.end.state batch reply asked told runs.0.steps

-- ---- one after others

turns_of-append : (first more : List Served) → turns_of (first ++ more) ≡ turns_of first ++ turns_of more
turns_of-append first more = flat_map-append (λ (s : Served). option_to_list s.turn) first more

-- what was asked of both
asked_in-append : (first more : List Served) → asked_in (turns_of (first ++ more)) ≡ asked_in (turns_of first) ++ asked_in (turns_of more)
asked_in-append first more =
    ap asked_in (turns_of-append first more) ∙ map-append (λ (turn : Turn). turn.request) (turns_of first) (turns_of more)

-- all of both are receipted
pub all_more : (one two : List Request) (first more : List Served) → AllReceipted one first [] → AllReceipted two more []
    → AllReceipted (one ++ two) (first ++ more) []
all_more one two first more all next = record {
  said = refl;
  asked = asked_in-append first more ∙ ap (λ l. l ++ asked_in (turns_of more)) all.asked ∙ ap (λ l. one ++ l) next.asked;
  receipts = subst AreReceipted (sym (turns_of-append first more)) (all_append (λ (turn : Turn). IsReceipt turn.reply) (turns_of first) (turns_of more)
      all.receipts next.receipts);
}

-- one was answered so after others that are receipted, with further requests after it
up_to_more : (reply : Reply) (one two rest : List Request) (first more : List Served) → AllReceipted one first [] → SentUpTo reply two more
    → SentUpTo reply (one ++ (two ++ rest)) (first ++ more)
up_to_more reply one two rest first more all next = record {
  before = turns_of first ++ next.before;
  last = next.last;
  turns = turns_of-append first more ∙ ap (λ l. turns_of first ++ l) next.turns ∙ sym (append_assoc (turns_of first) next.before (next.last ∷ []));
  receipts = all_append (λ (turn : Turn). IsReceipt turn.reply) (turns_of first) next.before all.receipts next.receipts;
  replied = next.replied;
  behind = next.behind ++ rest;
  asked = ap (λ l. one ++ (l ++ rest)) next.asked
      ∙ ap (λ l. l ++ ((asked_in (turns_of more) ++ next.behind) ++ rest)) (sym all.asked)
      ∙ ap (λ l. asked_in (turns_of first) ++ l) (append_assoc (asked_in (turns_of more)) next.behind rest)
      ∙ sym (append_assoc (asked_in (turns_of first)) (asked_in (turns_of more)) (next.behind ++ rest))
      ∙ ap (λ l. l ++ (next.behind ++ rest)) (sym (asked_in-append first more));
}

-- the sending of one after others that are receipted ended, and so does the sending of them all
pub ends_more : (ended : Sent) (one two rest : List Request) (first more : List Served) (unsaid : List ℕ) (start old new : ℕ) → ¬ (ended ≡ Done) → start ≤ old
    → AllReceipted one first [] → EndsAsking ended two more unsaid old new
    → EndsAsking ended (one ++ (two ++ rest)) (first ++ more) unsaid start new
ends_more Done one two rest first more unsaid start old new not later all ends = absurd (not refl)
ends_more (Unreceipted unkept) one two rest first more unsaid start old new not later all ends = record {
  sent = up_to_more (reply_for unkept) one two rest first more all ends.sent;
  said = elim ends.said [ inl whole ↦ inl whole | inr rose ↦ inr (rose_since start old new later rose) ];
  of_last = ends.of_last;
}
ends_more WriteFault one two rest first more unsaid start old new not later all ends =
    (ends.0, ends.1, record { sent = up_to_more ends.0 one two rest first more all ends.2.sent; of_last = ends.2.of_last })
ends_more Memory one two rest first more unsaid start old new not later all ends =
    (ends.0, record { sent = up_to_more ends.0 one two rest first more all ends.1.sent; of_last = ends.1.of_last })

-- the requests up to one more batch of a list that is gone over
taken_more : (batches : List Batch) (i : ℕ) (batch : Batch) → i < length batches → batch ≡ get_or batches i batch
    → map Sync (take (i + 1) batches) ≡ map Sync (take i batches) ++ Sync batch ∷ []
taken_more batches i batch within is =
    ap (map Sync) (take_more batches i batch within ∙ ap (λ x. take i batches ++ x ∷ []) (sym is)) ∙ map-append Sync (take i batches) (batch ∷ [])

-- .. of such a list
pub ends_at : (ended : Sent) (batches : List Batch) (i : ℕ) (batch : Batch) (first more : List Served) (unsaid : List ℕ) (start old new : ℕ)
    → i < length batches → batch ≡ get_or batches i batch → ¬ (ended ≡ Done) → start ≤ old
    → AllReceipted (map Sync (take i batches)) first [] → EndsAsking ended (Sync batch ∷ []) more unsaid old new
    → EndsAsking ended (map Sync batches) (first ++ more) unsaid start new
ends_at ended batches i batch first more unsaid start old new within is not later all ends =
    let before = map Sync (take i batches) in
    let after = map Sync (drop (i + 1) batches) in
    let whole : before ++ (Sync batch ∷ [] ++ after) ≡ map Sync batches =
    sym (append_assoc before (Sync batch ∷ []) after) ∙ ap (λ l. l ++ after) (sym (taken_more batches i batch within is))
    ∙ sym (map-append Sync (take (i + 1) batches) (drop (i + 1) batches)) ∙ ap (map Sync) (take-append-drop (i + 1) batches) in
    subst (λ (l : List Request). EndsAsking ended l (first ++ more) unsaid start new) whole
    (ends_more ended before (Sync batch ∷ []) after first more unsaid start old new not later all ends)

pub all_at : (batches : List Batch) (i : ℕ) (batch : Batch) (first more : List Served)
    → i < length batches → batch ≡ get_or batches i batch → AllReceipted (map Sync (take i batches)) first []
    → AllReceipted (Sync batch ∷ []) more [] → AllReceipted (map Sync (take (i + 1) batches)) (first ++ more) []
all_at batches i batch first more within is all one =
    subst (λ (l : List Request). AllReceipted l (first ++ more) []) (sym (taken_more batches i batch within is))
    (all_more (map Sync (take i batches)) (Sync batch ∷ []) first more all one)
