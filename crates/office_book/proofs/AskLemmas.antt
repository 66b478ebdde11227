-- A call for a group of requests.
use Rattle.std.proofs.Common.{◌≡◌, ◌≢◌, ℕ, zero, suc, ◌+◌, ◌-◌, ◌<◌, ◌≤◌, Option, List, [], ◌∷◌, ◌++◌, length, take, replicate, refl, sym, ◌∙◌, ap, subst}
use Rattle.std.proofs.Common.{arith, append_assoc, length-append}
use Rattle.std.proofs.lemmas.List.{take_at, length-map}
use Rattle.std.specs.List.{AllByRecursion}
use Rattle.disk_model.specs.Faults.{Rose}
use Rattle.fact_kinds.specs.declared.batch.Batch.{Batch}
use Rattle.ldar_journal.specs.Image.{batches_of}
use Rattle.ldar_journal.specs.Shelf.{Shelf}
use Rattle.ldar_law.specs.declared.reply.Reply.{Reply}
use Rattle.ldar_law.specs.declared.reply.Reply.TheVariants.{Receipt, Conflict, Denied, Full, Shown, NoSuch, Fault, Memory}
use Rattle.ldar_law.specs.declared.request.Request.{Request}
use Rattle.ldar_law.specs.Machine.{State, Call, Finding}
use Rattle.office_interface.specs.Asking.{requests_of, replies_of, HasRule}
use Rattle.office_book.specs.Moves.{Moves}
use Rattle.office_book.specs.Safe.{Leads, state_of}
use Rattle.office_book.specs.Serving.{Serves, IsFound}
use Rattle.office_book.proofs.MoveLemmas.{IsCall, serves_call, faults_call}

-- as many replies as requests
each_more : (faulty : Type 0) (history : List Batch) (request : Request) (requests : List Request) (reply : Reply) (replies : List Reply) (next : State)
    → ((after : List Batch) → Serves faulty after requests replies next → length replies ≡ length requests)
    → Serves faulty history (request ∷ requests) (reply ∷ replies) next → length replies ≡ length requests
each_more faulty history request requests (Receipt handheld number position) replies next rest serves = rest serves.0 serves.2
each_more faulty history request requests (Conflict position) replies next rest serves = rest serves.0 serves.2
each_more faulty history request requests (Denied fact rule) replies next rest serves = rest serves.0 serves.2
each_more faulty history request requests (Full facts) replies next rest serves = rest serves.0 serves.2
each_more faulty history request requests (Shown text) replies next rest serves = rest serves.0 serves.2
each_more faulty history request requests (NoSuch what) replies next rest serves = rest serves.0 serves.2
each_more faulty history request requests Fault replies next rest serves = serves.each
each_more faulty history request requests Memory replies next rest serves = rest history serves.1

-- each request has a reply
pub serves_each : (faulty : Type 0) (history : List Batch) (requests : List Request) (replies : List Reply) (next : State)
    → Serves faulty history requests replies next → length replies ≡ length requests
serves_each faulty history [] [] next serves = refl
serves_each faulty history [] (reply ∷ replies) next serves = absurd serves
serves_each faulty history (request ∷ requests) [] next serves = absurd serves
serves_each faulty history (request ∷ requests) (reply ∷ replies) next serves =
    let rest = each_more faulty history request requests reply replies next (λ after more. serves_each faulty after requests replies next more) serves in
    omega arith

-- disk errors are disk errors, and name no rule
pub faults_are : (n : ℕ) → AllByRecursion (λ (reply : Reply). reply ≡ Fault) (replicate n Fault)
faults_are zero = tt
faults_are (suc n) = (refl, faults_are n)

pub faults_ruled : (n : ℕ) → AllByRecursion HasRule (replicate n Fault)
faults_ruled zero = tt
faults_ruled (suc n) = (tt, faults_ruled n)

pub faults_each : (n : ℕ) → length (replicate n Fault) ≡ n
faults_each zero = refl
faults_each (suc n) = ap suc (faults_each n)

-- a call has as many replies as requests
said_each : (call : Call) (requests : List Request) (said : List Reply) → requests_of call ≡ requests → replies_of call ≡ said
    → length said ≡ length requests
said_each call requests said asked answered =
    ap (λ (l : List Reply). length l) (sym answered) ∙ length-map call.turns (λ turn. turn.reply) ∙ sym (length-map call.turns (λ turn. turn.request))
    ∙ ap (λ (l : List Request). length l) asked

-- the earlier replies are unchanged, and the new ones follow them
tail_said : (count : ℕ) (begins front said post rest : List Reply) → begins ≡ front → count ≡ length front + length said
    → take count ((begins ++ (said ++ post)) ++ rest) ≡ front ++ said
tail_said count begins front said post rest begins_so long =
    ap (λ (l : List Reply). take count ((l ++ (said ++ post)) ++ rest)) begins_so
    ∙ ap (λ (l : List Reply). take count l) (append_assoc front (said ++ post) rest ∙ ap (λ (l : List Reply). front ++ l) (append_assoc said post rest)
    ∙ sym (append_assoc front said (post ++ rest)))
    ∙ take_at (front ++ said) (post ++ rest) count (length-append front said ∙ sym long)

-- the replies of a call follow the earlier ones
pub tail_answered : (call : Call) (requests : List Request) (count start : ℕ) (front reserved items lent said post rest : List Reply)
    → reserved ≡ front → start ≡ length reserved → items ≡ reserved ++ replicate (length requests) Fault → lent ≡ items → count ≡ length items
    → requests_of call ≡ requests → replies_of call ≡ said → take count ((take start lent ++ (said ++ post)) ++ rest) ≡ front ++ said
tail_answered call requests count start front reserved items lent said post rest kept begins put is whole asked answered =
    let faults = replicate (length requests) Fault in
    let each = said_each call requests said asked answered in
    let first : take start lent ≡ front = ap (λ (l : List Reply). take start l) (is ∙ put) ∙ take_at reserved faults start (sym begins) ∙ kept in
    let long : length items ≡ length front + length said =
    ap (λ (l : List Reply). length l) (put ∙ ap (λ (l : List Reply). l ++ faults) kept) ∙ length-append front faults
    ∙ ap (λ (k : ℕ). length front + k) (faults_each (length requests) ∙ sym each) in
    tail_said count (take start lent) front said post rest first (whole ∙ long)

-- disk errors from the first place on are all disk errors
pub all_faults : (new old : List Reply) → new ≡ take 0 old ++ replicate (length old - 0) Fault → new ≡ replicate (length old) Fault
all_faults new old is = let whole : length old - 0 ≡ length old = omega arith in is ∙ ap (λ (n : ℕ). replicate n Fault) whole

module _ {D : Type 0} (content_of : D → Option (List ℕ)) (images_of : D → List ℕ → Type 0) (left_of : D → ℕ → List ℕ → Type 0)
    (clock_of name_of faults_of : D → ℕ) (only_now : (d : D) (image : List ℕ) → left_of d (clock_of d) image → images_of d image) where
  -- a settling that failed
  pub faults_group : (old new : Shelf D) (requests : List Request) (replies : List Reply) → 0 < length requests → length requests ≤ 16
      → Moves content_of images_of left_of clock_of name_of faults_of old new 0 → Rose (faults_of old.disk) (faults_of new.disk)
      → old.doubt ≢ [] → state_of new ≡ state_of old → replies ≡ replicate (length requests) Fault
      → IsCall content_of images_of left_of clock_of name_of faults_of only_now old requests replies new
  faults_group old new [] replies some few moves rose doubt stays all = absurd (omega arith)
  faults_group old new (request ∷ requests) replies some few moves rose doubt stays all =
      subst (λ (l : List Reply). IsCall content_of images_of left_of clock_of name_of faults_of only_now old (request ∷ requests) l new) (sym all)
      (faults_call content_of images_of left_of clock_of name_of faults_of only_now old new request requests (replicate (length requests) Fault) moves rose
      doubt stays (faults_are (length requests)) (faults_each (length requests)) few)

  -- a settling, if it was needed, and the replies after it
  pub serves_group : (old middle new : Shelf D) (found : Finding) (requests : List Request) (replies : List Reply)
      → 0 < length requests → length requests ≤ 16 → IsFound found (state_of old) (state_of middle)
      → Moves content_of images_of left_of clock_of name_of faults_of old middle 0
      → Moves content_of images_of left_of clock_of name_of faults_of middle new 1
      → Serves (Rose (faults_of middle.disk) (faults_of new.disk)) (batches_of middle.frames) requests replies (state_of new)
      → IsCall content_of images_of left_of clock_of name_of faults_of only_now old requests replies new
  serves_group old middle new found [] replies some few is_found one two serves = absurd (omega arith)
  serves_group old middle new found (request ∷ requests) [] some few is_found one two serves = absurd serves
  serves_group old middle new found (request ∷ requests) (reply ∷ replies) some few is_found one two serves =
      let each = serves_each (Rose (faults_of middle.disk) (faults_of new.disk)) (batches_of middle.frames) (request ∷ requests) (reply ∷ replies)
      (state_of new) serves in
      serves_call content_of images_of left_of clock_of name_of faults_of only_now (Rose (faults_of middle.disk) (faults_of new.disk)) old middle new found
      request requests reply replies is_found one two (λ why. why) serves (omega arith) few

  -- a single view
  pub view_group : (old new : Shelf D) (requests : List Request) (replies' : List Reply) (request : Request) (reply : Reply)
      → requests ≡ request ∷ [] → replies' ≡ reply ∷ []
      → IsCall content_of images_of left_of clock_of name_of faults_of only_now old (request ∷ []) (reply ∷ []) new
      → IsCall content_of images_of left_of clock_of name_of faults_of only_now old requests replies' new
  view_group old new requests replies' request reply asked said call =
      subst (λ (l : List Request). IsCall content_of images_of left_of clock_of name_of faults_of only_now old l replies' new) (sym asked)
      (subst (λ (l : List Reply). IsCall content_of images_of left_of clock_of name_of faults_of only_now old (request ∷ []) l new) (sym said) call)
