-- Histories with one call more, and the calls of one caller in them.
use Rattle.std.proofs.Common.{◌≡◌, ℕ, zero, suc, ◌<◌, slice_index_or, ◌+◌, ◌==◌, ◌≢◌, ◌⊎◌, Bool, true, false, List, [], ◌∷◌, ◌++◌, length, refl, ap, sym, ◌∙◌}
use Rattle.std.proofs.Common.{subst, arith, append_assoc, ⊎_elim, inl, inr}
use Rattle.std.proofs.lemmas.List.{append-nil}
use Rattle.std.proofs.lemmas.List.Elements.{filter-append, Contains-append_cases}
use Rattle.std.proofs.lemmas.Bool.Decides.{nat_tests}
use Rattle.std.specs.List.{Contains}
use Rattle.ldar_law.specs.Machine.{Moment}
use Rattle.sync_room.specs.Turns.{IsOneTurn}
use Rattle.sync_room.specs.Calls.{RoomCall, AreTurns, moment_after, calls_by, AreNumberedFrom, IsLegal, BeginsWith}
use Rattle.sync_room.specs.Rule.{KnowsCallers}

-- ---- one call more

-- the moment after one call more
pub moment_after-snoc : (start : Moment) (log : List RoomCall) (call : RoomCall) → moment_after start (log ++ call ∷ []) ≡ call.end
moment_after-snoc start [] call = refl
moment_after-snoc start (c ∷ log) call = moment_after-snoc c.end log call

-- the calls are turns, with one more from the end
AreTurns-snoc : (start : Moment) (log : List RoomCall) (call : RoomCall) → AreTurns start log → IsOneTurn (moment_after start log) call.turn call.end
    → AreTurns start (log ++ call ∷ [])
AreTurns-snoc start [] call turns turn = (turn, tt)
AreTurns-snoc start (c ∷ log) call turns turn = (turns.0, AreTurns-snoc c.end log call turns.1 turn)

-- the numbers follow each other, with the next one at the end
AreNumberedFrom-snoc : (first : ℕ) (calls : List RoomCall) (call : RoomCall) → AreNumberedFrom first calls → call.number ≡ first + length calls
    → AreNumberedFrom first (calls ++ call ∷ [])
AreNumberedFrom-snoc first [] call are is = (omega arith, tt)
AreNumberedFrom-snoc first (c ∷ calls) call are is = (are.0, AreNumberedFrom-snoc (first + 1) calls call are.1 (omega arith))

-- the calls of a caller, after a call of its own and after a call of another
pub calls_by-own : (name : ℕ) (log : List RoomCall) (call : RoomCall) → call.caller ≡ name → calls_by name (log ++ call ∷ []) ≡ calls_by name log ++ call ∷ []
calls_by-own name log call is =
    let same : (call.caller == name) ≡ true = grind (arith, nat_tests) in
    filter-append (λ c. c.caller == name) log (call ∷ []) ∙ rw same refl

-- the calls of a caller, after a call of another
pub calls_by-other : (name : ℕ) (log : List RoomCall) (call : RoomCall) → call.caller ≢ name → calls_by name (log ++ call ∷ []) ≡ calls_by name log
calls_by-other name log call differs =
    let other : (call.caller == name) ≡ false = grind (arith, nat_tests) in
    filter-append (λ c. c.caller == name) log (call ∷ []) ∙ rw other (append-nil (calls_by name log))

-- the calls of each caller are numbered, after one call more
numbered_more : (name : ℕ) (log : List RoomCall) (call : RoomCall) → ((n : ℕ) → AreNumberedFrom 1 (calls_by n log))
    → call.number ≡ length (calls_by call.caller log) + 1
    → (b : Bool) → (call.caller == name) ≡ b → AreNumberedFrom 1 (calls_by name (log ++ call ∷ []))
numbered_more name log call all is true test =
    let same : call.caller ≡ name = grind (arith, nat_tests) in
    let here : call.number ≡ length (calls_by name log) + 1 = subst (λ n. call.number ≡ length (calls_by n log) + 1) same is in
    subst (AreNumberedFrom 1) (sym (calls_by-own name log call same)) (AreNumberedFrom-snoc 1 (calls_by name log) call (all name) (omega arith))
numbered_more name log call all is false test =
    let differs : call.caller ≢ name = grind (arith, nat_tests) in
    subst (AreNumberedFrom 1) (sym (calls_by-other name log call differs)) (all name)

-- a legal history with one call more is legal, if the call is a turn from its end and has the next number of its caller
pub legal_more : (start : Moment) (log : List RoomCall) (call : RoomCall) → IsLegal start log → IsOneTurn (moment_after start log) call.turn call.end
    → call.number ≡ length (calls_by call.caller log) + 1
    → IsLegal start (log ++ call ∷ [])
legal_more start log call legal turn is = record {
  turns = AreTurns-snoc start log call legal.turns turn;
  numbered = λ name. numbered_more name log call legal.numbered is (call.caller == name) refl;
}

-- ---- beginnings

-- a history begins with itself
pub starts_self : (log : List RoomCall) → BeginsWith log log
starts_self log = ([], sym (append-nil log))

-- a history with one call more begins with what the history begins with
pub starts_more : (log seen : List RoomCall) (call : RoomCall) → BeginsWith log seen → BeginsWith (log ++ call ∷ []) seen
starts_more log seen call starts = (starts.0 ++ call ∷ [], ap (λ l. l ++ call ∷ []) starts.1 ∙ append_assoc seen starts.0 (call ∷ []))

-- all of a history was seen
pub knows_all : (log : List RoomCall) (names : List ℕ) → KnowsCallers log names log
knows_all log names = record { begins = starts_self log; whole = λ name named. refl }

-- nothing is known of no callers
pub knows_none : (log seen : List RoomCall) → BeginsWith log seen → KnowsCallers log [] seen
knows_none log seen starts = record { begins = starts; whole = λ name named. absurd (let within = named.1 in omega arith) }

-- what is known of callers, after a call of another
pub knows_more : (log seen : List RoomCall) (names : List ℕ) (call : RoomCall) → KnowsCallers log names seen
    → ((name : ℕ) → Contains names name → call.caller ≢ name) → KnowsCallers (log ++ call ∷ []) names seen
knows_more log seen names call knows other = record {
  begins = starts_more log seen call knows.begins;
  whole = λ name named. calls_by-other name log call (other name named) ∙ knows.whole name named;
}

-- the first of two lists that join to none is empty
nil_left : {A : Type 0} (xs ys : List A) → xs ++ ys ≡ [] → xs ≡ []
nil_left [] ys none = refl
nil_left (x ∷ xs) ys none = absurd (cc none)

-- what is found in a list of one element is that element
one_at : (a x k : ℕ) → k < 1 → slice_index_or (a ∷ []) k x ≡ x → a ≡ x
one_at a x zero lt is = is
one_at a x (suc k) lt is = absurd (omega arith)

-- a name among some and one more is one of these, or the last
pub contains_more : (names : List ℕ) (last name : ℕ) → Contains (names ++ last ∷ []) name → Contains names name ⊎ (last ≡ name)
contains_more names last name among =
    ⊎_elim (λ old. inl old) (λ (new : Contains (last ∷ []) name). inr (one_at last name new.0 new.1 new.2)) (Contains-append_cases names (last ∷ []) name among)

-- a caller without calls in a history has none in a beginning of it
pub none_before : (log seen : List RoomCall) (name : ℕ) → BeginsWith log seen → calls_by name log ≡ [] → calls_by name seen ≡ []
none_before log seen name begins none =
    let book : calls_by name seen ++ calls_by name begins.0 ≡ [] = sym (filter-append (λ c. c.caller == name) seen begins.0) ∙ (ap (calls_by name) (sym begins.1) ∙ none) in
    nil_left (calls_by name seen) (calls_by name begins.0) book

-- what is known of callers, and of one more without calls
pub knows_named : (log seen : List RoomCall) (names : List ℕ) (last : ℕ) → KnowsCallers log names seen → calls_by last log ≡ []
    → KnowsCallers log (names ++ last ∷ []) seen
knows_named log seen names last knows none =
    let none_seen : calls_by last seen ≡ [] = none_before log seen last knows.begins none in
    record {
      begins = knows.begins;
      whole = λ name named. ⊎_elim (λ old. knows.whole name old) (λ is. subst (λ n. calls_by n log ≡ calls_by n seen) is (none ∙ sym none_seen)) (contains_more names last name named);
    }
