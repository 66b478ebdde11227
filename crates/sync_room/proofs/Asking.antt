-- One more call of a pass, as an office of its own shows it.
use Rattle.std.proofs.Common.{◌≡◌, ◌≤◌, ◌⊎◌, ℕ, ◌==◌, true, Option, Some, None, List, [], ◌∷◌, ◌++◌, map, refl, ap, sym, ◌∙◌, subst, inl, inr, arith}
use Rattle.std.proofs.Common.{append_assoc}
use Rattle.std.proofs.lemmas.List.{append-nil, map-append}
use Rattle.std.proofs.lemmas.Bool.Decides.{nat_tests}
use Rattle.std.specs.Option.{unwrap_or}
use Rattle.std.specs.List.{AllByRecursion, flat_map}
use Rattle.list_words.proofs.Members.{all_append}
use Rattle.ldar_law.specs.declared.reply.Reply.{Reply}
use Rattle.ldar_law.specs.declared.request.Request.{Request}
use Rattle.ldar_law.specs.Machine.{Call, Turn}
use Rattle.office_interface.specs.Asking.{requests_of, replies_of, HasRule}
use Rattle.sync_room.specs.Calls.{RoomCall, calls_by}
use Rattle.sync_room.specs.OwnCalls.{AskedAll, Grew, calls_of, own_calls, session_turn, timeless}
use Rattle.sync_room.specs.OwnCallsLaws.{grew_joins}
use Rattle.sync_room.specs.Passes.{PassState, Asked}

-- the calls by a call's caller, in the list of this call
one_by : (call : RoomCall) → calls_by call.caller (call ∷ []) ≡ call ∷ []
one_by call = let same : (call.caller == call.caller) ≡ true = grind (arith, nat_tests) in rw same refl

-- what the caller of a call had made before
own_before : (own : Option ℕ) (seen : List RoomCall) (caller : ℕ) → (own ≡ None → calls_by caller seen ≡ []) → ((name : ℕ) → own ≡ Some name → caller ≡ name)
    → calls_by caller seen ≡ calls_of own seen
own_before None seen caller fresh same = fresh refl
own_before (Some name) seen caller fresh same = ap (λ n. calls_by n seen) (same name refl)

-- the caller is the pass's own, if it had one
caller_before : (own : Option ℕ) (caller : ℕ) → ((name : ℕ) → own ≡ Some name → caller ≡ name) → (own ≡ None) ⊎ (own ≡ Some caller)
caller_before None caller same = inl refl
caller_before (Some name) caller same = inr (ap Some (sym (same name refl)))

-- the pass grew by the call that was made
grew_by_call : (old new : PassState) (request : Request) (reply : Reply) (asked : Asked old request reply new)
    → Grew old (timeless (session_turn asked.call ∷ []) ∷ []) new
grew_by_call old new request reply asked =
    let call : RoomCall = asked.call in
    let before : calls_by call.caller old.seen ≡ own_calls old = own_before old.own old.seen call.caller asked.fresh asked.same_own in
    record {
      made = call ∷ [];
      turns = refl;
      room = asked.room;
      begins = (asked.between ++ call ∷ [], asked.seen ∙ append_assoc old.seen asked.between (call ∷ []));
      own =
          ap (λ own. calls_of own new.seen) asked.own
          ∙ (asked.whole call.caller asked.named ∙ (ap (λ l. l ++ calls_by call.caller (call ∷ [])) before ∙ ap (λ l. own_calls old ++ l) (one_by call)));
      how = inr (record { name = call.caller; own = asked.own; named = asked.named; before = caller_before old.own call.caller asked.same_own });
    }

-- an office's call of one request
pub asked_grew : (old new : PassState) (request : Request) (reply : Reply) → Asked old request reply new
    → (call : Call) × Grew old (call ∷ []) new × (requests_of call ≡ request ∷ []) × (replies_of call ≡ reply ∷ []) × (call.end.clock ≤ 0)
asked_grew old new request reply asked = (
  timeless (session_turn asked.call ∷ []),
  grew_by_call old new request reply asked,
  ap (λ r. r ∷ []) asked.asked,
  ap (λ r. r ∷ []) asked.answered,
  omega arith,
)

-- the pass that was taken out is the one that is seen
pub taken_is : (slot taken : Option PassState) (other pass whole : PassState) → taken ≡ slot → taken ≡ Some pass → unwrap_or slot other ≡ whole → pass ≡ whole
taken_is slot taken other pass whole from is seen = ap (λ o. unwrap_or o other) (sym is ∙ from) ∙ seen

-- ---- requests one after the other

-- no request was asked
pub asked_none : (pass : PassState) (replies : List Reply) → AskedAll pass [] replies replies pass
asked_none pass replies = record {
  turns = [];
  grew = record { made = []; turns = refl; room = refl; begins = ([], sym (append-nil pass.seen)); own = sym (append-nil (own_calls pass)); how = inl (refl, refl) };
  asked = refl;
  answered = sym (append-nil replies);
  ruled = tt;
}

-- the same turns in other calls
regrouped : (old new : PassState) (calls calls' : List Call) → flat_map (λ call. call.turns) calls' ≡ flat_map (λ call. call.turns) calls → Grew old calls new
    → Grew old calls' new
regrouped old new calls calls' same grew = record {
  made = grew.made;
  turns = same ∙ grew.turns;
  room = grew.room;
  begins = grew.begins;
  own = grew.own;
  how = grew.how;
}

-- one request more
pub asked_more : (old middle new : PassState) (requests : List Request) (request : Request) (before replies : List Reply) (reply : Reply) (call : Call)
    → AskedAll old requests before replies middle → Grew middle (call ∷ []) new → requests_of call ≡ request ∷ [] → replies_of call ≡ reply ∷ [] → HasRule reply
    → AskedAll old (requests ++ request ∷ []) before (replies ++ reply ∷ []) new
asked_more old middle new requests request before replies reply call all grew asked answered ruled =
    let asks = map-append (λ (turn : Turn). turn.request) all.turns call.turns in
    let answers = map-append (λ (turn : Turn). turn.reply) all.turns call.turns in
    let ends : map (λ (turn : Turn). turn.reply) (all.turns ++ call.turns) ≡ map (λ (turn : Turn). turn.reply) all.turns ++ reply ∷ [] =
    answers ∙ ap (λ l. map (λ (turn : Turn). turn.reply) all.turns ++ l) answered in
    record {
      turns = all.turns ++ call.turns;
      grew =
          regrouped old new (timeless all.turns ∷ call ∷ []) (timeless (all.turns ++ call.turns) ∷ [])
          (append-nil (all.turns ++ call.turns) ∙ ap (λ l. all.turns ++ l) (sym (append-nil call.turns)))
          (grew_joins old middle new (timeless all.turns ∷ []) (call ∷ []) all.grew grew);
      asked = asks ∙ (ap (λ l. l ++ map (λ (turn : Turn). turn.request) call.turns) all.asked ∙ ap (λ l. requests ++ l) asked);
      answered =
          ap (λ l. l ++ reply ∷ []) all.answered
          ∙ (append_assoc before (map (λ (turn : Turn). turn.reply) all.turns) (reply ∷ []) ∙ ap (λ l. before ++ l) (sym ends));
      ruled = subst (AllByRecursion HasRule) (sym ends) (all_append HasRule (map (λ (turn : Turn). turn.reply) all.turns) (reply ∷ []) all.ruled (ruled, tt));
    }

-- an office's call of all requests
pub asked_group : (old new : PassState) (requests : List Request) (before replies : List Reply) → AskedAll old requests before replies new
    → (call : Call) × Grew old (call ∷ []) new × (requests_of call ≡ requests) × (replies ≡ before ++ replies_of call) × AllByRecursion HasRule (replies_of call)
    × (call.end.clock ≤ 0)
asked_group old new requests before replies all = (timeless all.turns, all.grew, all.asked, all.answered, all.ruled, omega arith)

-- the same, of the lists after the step
pub asked_next : (old middle new : PassState) (requests requests' : List Request) (request : Request) (before replies replies' : List Reply) (reply : Reply)
    → requests' ≡ requests ++ request ∷ [] → replies' ≡ replies ++ reply ∷ [] → AskedAll old requests before replies middle
    → (value : (call : Call) × Grew middle (call ∷ []) new × (requests_of call ≡ request ∷ []) × (replies_of call ≡ reply ∷ []) × (call.end.clock ≤ 0))
    → HasRule reply → AskedAll old requests' before replies' new
asked_next old middle new requests requests' request before replies replies' reply asks answers all value ruled =
    let more : AskedAll old (requests ++ request ∷ []) before (replies ++ reply ∷ []) new =
    asked_more old middle new requests request before replies reply value.0 all value.1 value.2 value.3 ruled in
    subst (λ l. AskedAll old l before replies' new) (sym asks) (subst (λ l. AskedAll old (requests ++ request ∷ []) before l new) (sym answers) more)
