-- A run of the machine in which the batches of a drill are asked: what is kept at its end.
use Rattle.std.proofs.Common.{◌≡◌, ◌≢◌, inl, inr, ℕ, ◌+◌, Bool, true, false, not, ◌||◌, IsTrue, Some, None, List, [], ◌∷◌, ◌++◌}
use Rattle.std.proofs.Common.{refl, sym, ◌∙◌, ap, subst, append_assoc}
use Rattle.std.specs.List.{AllByRecursion, list_any, position_from}
use Rattle.std.specs.Option.{is_none}
use Rattle.std.proofs.lemmas.Bool.{and_parts, cases_Bool, false≢true, not-true, or_parts}
use Rattle.std.proofs.lemmas.Cmp.{nat_eq_equiv}
use Rattle.std.proofs.lemmas.List.{append-nil}
use Rattle.fact_kinds.specs.declared.batch.Batch.{Batch}
use Rattle.fact_kinds.specs.Identity.{identity_of, is_of, is_same_identity, identities_differ, position_of}
use Rattle.ldar_law.specs.declared.reply.Reply.{Reply}
use Rattle.ldar_law.specs.declared.reply.Reply.TheVariants.{Receipt, Conflict, Denied, Full, Shown, NoSuch, Fault, Memory}
use Rattle.ldar_law.specs.declared.request.Request.{Request}
use Rattle.ldar_law.specs.declared.request.Request.TheVariants.{Sync}
use Rattle.ldar_law.specs.declared.verdict.Verdict.TheVariants.{Pass, Denied as DeniedBatch, Full as FullOffice}
use Rattle.ldar_law.specs.Machine.{State, Moment, Call, Turn, Finding, not_asked, they_stand, they_are_gone, Answers, AnswersBatch, settled, CanBeFound}
use Rattle.ldar_law.specs.Machine.{IsAnswered, Steps, Runs}
use Rattle.ldar_law.specs.Verdicts.{is_pass, is_ruly, verdict_on}
use Rattle.ldar_law.proofs.VerdictLemmas.{ruly_is_each}
use Rattle.ldar_session.specs.Served.{turns_in}
use Rattle.ldar_session.proofs.StampLemmas.{all_parts}
use Rattle.office_commands.specs.Drills.{drill_view, with_view, requests_for, IsAnswer, AreAnswered}
use Rattle.office_commands.specs.Sending.{asked_in}
use Rattle.office_commands.proofs.RulyLemmas.{GoesBy, StepsBy}

-- ---- turns that are answered

-- the turns lead from one history to another, each answered
abbrev pub Follows : List Batch → List Turn → List Batch → Type 0
Follows history [] after = after ≡ history
Follows history (turn ∷ turns) after =
    (between : List Batch) × Answers history turn.request turn.reply between × Follows between turns after

-- a turn with nothing in doubt that is answered, and the turns after it
pub record OneOn (state : State) (turn : Turn) (turns : List Turn) (next : State) : Type 0 where
  pub between : State
  pub settled : between.doubt ≡ []
  pub answers : Answers state.history turn.request turn.reply between.history
  pub rest : Steps between turns next

-- with nothing in doubt, nothing is found
found_same : (found : Finding) (state : State) → CanBeFound found state → state.doubt ≡ [] → (settled found state).history ≡ state.history
found_same not_asked state can none = refl
found_same they_stand state can none = absurd (can none)
found_same they_are_gone state can none = refl

on_answer : (state : State) (turn : Turn) (turns : List Turn) (next between : State) → state.doubt ≡ [] → CanBeFound turn.found state
    → IsAnswered (settled turn.found state) turn between → Steps between turns next → OneOn state turn turns next
on_answer state turn turns next between none can answered rest = record {
  between = between;
  settled = answered.none_left;
  answers = subst (λ (h : List Batch). Answers h turn.request turn.reply between.history) (found_same turn.found state can none) answered.answers;
  rest = rest;
}

one_on : (reply : Reply) (state : State) (turn : Turn) (turns : List Turn) (next : State) → turn.reply ≡ reply → IsAnswer reply → state.doubt ≡ []
    → StepsBy reply state turn turns next → OneOn state turn turns next
one_on (Receipt handheld number position) state turn turns next is answer none steps =
    on_answer state turn turns next steps.0 none steps.1.can (subst (λ (r : Reply). GoesBy r (settled turn.found state) turn steps.0) is steps.1.goes_on) steps.2
one_on (Conflict position) state turn turns next is answer none steps =
    on_answer state turn turns next steps.0 none steps.1.can (subst (λ (r : Reply). GoesBy r (settled turn.found state) turn steps.0) is steps.1.goes_on) steps.2
one_on (Denied fact rule) state turn turns next is answer none steps =
    on_answer state turn turns next steps.0 none steps.1.can (subst (λ (r : Reply). GoesBy r (settled turn.found state) turn steps.0) is steps.1.goes_on) steps.2
one_on (Full facts) state turn turns next is answer none steps =
    on_answer state turn turns next steps.0 none steps.1.can (subst (λ (r : Reply). GoesBy r (settled turn.found state) turn steps.0) is steps.1.goes_on) steps.2
one_on (Shown text) state turn turns next is answer none steps =
    on_answer state turn turns next steps.0 none steps.1.can (subst (λ (r : Reply). GoesBy r (settled turn.found state) turn steps.0) is steps.1.goes_on) steps.2
one_on (NoSuch what) state turn turns next is answer none steps =
    on_answer state turn turns next steps.0 none steps.1.can (subst (λ (r : Reply). GoesBy r (settled turn.found state) turn steps.0) is steps.1.goes_on) steps.2
one_on Fault state turn turns next is answer none steps = absurd answer
one_on Memory state turn turns next is answer none steps = absurd answer

-- the steps of a group
steps_follow : (turns : List Turn) (state next : State) → Steps state turns next → state.doubt ≡ [] → AreAnswered turns
    → Follows state.history turns next.history × (next.doubt ≡ [])
steps_follow [] state next steps none answered = (ap (λ (s : State). s.history) steps, ap (λ (s : State). s.doubt) steps ∙ none)
steps_follow (turn ∷ turns) state next steps none answered =
    let one = one_on turn.reply state turn turns next refl answered.0 none steps in
    let rest = steps_follow turns one.between next one.rest one.settled answered.1 in
    ((one.between.history, one.answers, rest.0), rest.1)

-- two lists of turns, one after the other
follows_append : (first second : List Turn) (history between after : List Batch) → Follows history first between → Follows between second after
    → Follows history (first ++ second) after
follows_append [] second history between after one two = subst (λ (h : List Batch). Follows h second after) one two
follows_append (turn ∷ first) second history between after one two = (one.0, one.1, follows_append first second one.0 between after one.2 two)

-- a run with nothing in doubt, of which all is answered
pub run_follows : (calls : List Call) (start end : Moment) → Runs start calls end → start.state.doubt ≡ [] → AreAnswered (turns_in calls)
    → Follows start.state.history (turns_in calls) end.state.history × (end.state.doubt ≡ [])
run_follows [] start end run none answered = (ap (λ (s : State). s.history) run.0, ap (λ (s : State). s.doubt) run.0 ∙ none)
run_follows (call ∷ calls) start end run none answered =
    let parts = all_parts (λ (turn : Turn). IsAnswer turn.reply) call.turns (turns_in calls) answered in
    let one = steps_follow call.turns start.state call.end.state run.0.steps none parts.0 in
    let rest = run_follows calls call.end end run.1 one.1 parts.1 in
    (follows_append call.turns (turns_in calls) start.state.history call.end.state.history end.state.history one.0 rest.0, rest.1)

-- ---- identities

no_position : (p : Batch → Bool) (n : ℕ) (xs : List Batch) → list_any p xs ≡ false → position_from p n xs ≡ None
no_position p n [] none = refl
no_position p n (x ∷ xs) none = let parts = or_parts (p x) (list_any p xs) none in rw parts.0 (no_position p (n + 1) xs parts.1)

some_position : (p : Batch → Bool) (n : ℕ) (xs : List Batch) → list_any p xs ≡ true → is_none (position_from p n xs) ≡ false
some_position p n [] some = absurd (false≢true some)
some_position p n (x ∷ xs) some =
    elim (cases_Bool (p x)) [
      | inl here ↦ rw here refl
      | inr gone ↦ rw gone (some_position p (n + 1) xs (rw gone at some))
    ]

flips : (a b : Batch) → is_same_identity a b ≡ is_same_identity b a
flips a b = rw (nat_eq_equiv.symm a.handheld b.handheld, nat_eq_equiv.symm a.number b.number) refl

list_any-append : (p : Batch → Bool) (xs ys : List Batch) → list_any p (xs ++ ys) ≡ (list_any p xs || list_any p ys)
list_any-append p [] ys = refl
list_any-append p (x ∷ xs) ys = elim (cases_Bool (p x)) [ inl here ↦ rw here refl | inr gone ↦ rw gone (list_any-append p xs ys) ]

-- a batch among others with different identities has none of those before it
none_before : (front : List Batch) (b : Batch) (rest : List Batch) → IsTrue (identities_differ (front ++ b ∷ rest)) → list_any (is_same_identity b) front ≡ false
none_before [] b rest differ = refl
none_before (x ∷ front) b rest differ =
    let parts = and_parts (not (list_any (is_same_identity x) (front ++ b ∷ rest))) (identities_differ (front ++ b ∷ rest)) differ in
    let none = not-true (list_any (is_same_identity x) (front ++ b ∷ rest)) parts.0 in
    let both = or_parts (list_any (is_same_identity x) front) (list_any (is_same_identity x) (b ∷ rest))
    (sym (list_any-append (is_same_identity x) front (b ∷ rest)) ∙ none) in
    let here = or_parts (is_same_identity x b) (list_any (is_same_identity x) rest) both.1 in
    rw (flips b x, here.0) (none_before front b rest parts.1)

-- ---- one batch

-- a batch that is new and passes is kept
kept_new : (history : List Batch) (batch : Batch) (reply : Reply) (after : List Batch) → position_of (identity_of batch) history ≡ None
    → verdict_on history batch ≡ Pass → AnswersBatch history batch reply after → after ≡ history ++ batch ∷ []
kept_new history batch (Receipt handheld number position) after new passes answers = elim answers.2 [
  | inl kept ↦ absurd (let never : None ≡ Some position = sym new ∙ kept.0.0 in cc)
  | inr added ↦ added.2
]
kept_new history batch (Conflict position) after new passes answers = absurd (let never : None ≡ Some position = sym new ∙ answers.1.0 in cc)
kept_new history batch (Denied fact rule) after new passes answers = absurd (let never : Pass ≡ DeniedBatch fact rule = sym passes ∙ answers.1 in cc)
kept_new history batch (Full facts) after new passes answers = absurd (let never : Pass ≡ FullOffice facts = sym passes ∙ answers.1 in cc)
kept_new history batch (Shown text) after new passes answers = absurd answers
kept_new history batch (NoSuch what) after new passes answers = absurd answers
kept_new history batch Fault after new passes answers = absurd answers
kept_new history batch Memory after new passes answers = absurd answers

-- a batch with an identity that is kept changes nothing
kept_again : (history : List Batch) (batch : Batch) (reply : Reply) (after : List Batch) → list_any (is_same_identity batch) history ≡ true
    → AnswersBatch history batch reply after → after ≡ history
kept_again history batch (Receipt handheld number position) after found answers = elim answers.2 [
  | inl kept ↦ kept.1
  | inr added ↦
      let parts = and_parts (is_none (position_of (identity_of batch) history)) (is_pass (verdict_on history batch)) added.0 in
      absurd (false≢true (sym (some_position (is_of (identity_of batch)) 1 history found) ∙ parts.0))
]
kept_again history batch (Conflict position) after found answers = answers.3
kept_again history batch (Denied fact rule) after found answers = answers.2
kept_again history batch (Full facts) after found answers = answers.2
kept_again history batch (Shown text) after found answers = absurd answers
kept_again history batch (NoSuch what) after found answers = absurd answers
kept_again history batch Fault after found answers = absurd answers
kept_again history batch Memory after found answers = absurd answers

-- ---- the batches of a drill

-- two turns that ask a batch and the view after it, before others
pub record PairOn (batch : Batch) (requests : List Request) (history : List Batch) (turns : List Turn) (after : List Batch) : Type 0 where
  pub reply : Reply
  pub kept : List Batch
  pub answers : AnswersBatch history batch reply kept
  pub others : List Turn
  pub asked : asked_in others ≡ requests
  pub follows : Follows kept others after

pair_on : (batch : Batch) (requests : List Request) (history : List Batch) (turns : List Turn) (after : List Batch)
    → asked_in turns ≡ with_view batch ++ requests → Follows history turns after → PairOn batch requests history turns after
pair_on batch requests history [] after asked follows = absurd cc
pair_on batch requests history (one ∷ []) after asked follows = absurd cc
pair_on batch requests history (one ∷ two ∷ turns) after asked follows =
    let first : one.request ≡ Sync batch = cc in
    let second : two.request ≡ drill_view = cc in
    let rest : asked_in turns ≡ requests = cc in
    let stays : Answers follows.0 drill_view two.reply follows.2.0 =
    subst (λ (q : Request). Answers follows.0 q two.reply follows.2.0) second follows.2.1 in
    record {
      reply = one.reply;
      kept = follows.0;
      answers = subst (λ (q : Request). Answers history q one.reply follows.0) first follows.1;
      others = turns;
      asked = rest;
      follows = subst (λ (h : List Batch). Follows h turns after) stays.1 follows.2.2;
    }

-- batches that are sent once more change nothing
again_follows : (again history : List Batch) (turns : List Turn) (after : List Batch) → AllByRecursion (λ b. list_any (is_same_identity b) history ≡ true) again
    → asked_in turns ≡ requests_for again → Follows history turns after → after ≡ history
again_follows [] history [] after found asked follows = follows
again_follows [] history (turn ∷ turns) after found asked follows = absurd cc
again_follows (b ∷ again) history turns after found asked follows =
    let pair = pair_on b (requests_for again) history turns after asked follows in
    let same = kept_again history b pair.reply pair.kept found.0 pair.answers in
    again_follows again history pair.others after found.1 pair.asked (subst (λ (h : List Batch). Follows h pair.others after) same pair.follows)

-- the batches of a ruly history with different identities are all kept, and those sent once more change nothing
pub all_follow : (rest front again : List Batch) (turns : List Turn) (after : List Batch) → IsTrue (is_ruly (front ++ rest))
    → IsTrue (identities_differ (front ++ rest)) → AllByRecursion (λ b. list_any (is_same_identity b) (front ++ rest) ≡ true) again
    → asked_in turns ≡ requests_for (rest ++ again) → Follows front turns after → after ≡ front ++ rest
all_follow [] front again turns after ruly differ found asked follows =
    again_follows again front turns after
    (subst (λ (h : List Batch). AllByRecursion (λ b. list_any (is_same_identity b) h ≡ true) again) (append-nil front) found) asked follows
    ∙ sym (append-nil front)
all_follow (b ∷ rest) front again turns after ruly differ found asked follows =
    let pair = pair_on b (requests_for (rest ++ again)) front turns after asked follows in
    let passes = (ruly_is_each (front ++ b ∷ rest)).0 ruly front b rest refl in
    let new = no_position (is_of (identity_of b)) 1 front (none_before front b rest differ) in
    let more = kept_new front b pair.reply pair.kept new passes pair.answers in
    let on : (front ++ b ∷ []) ++ rest ≡ front ++ b ∷ rest = append_assoc front (b ∷ []) rest in
    all_follow rest (front ++ b ∷ []) again pair.others after (subst (λ (h : List Batch). IsTrue (is_ruly h)) (sym on) ruly)
    (subst (λ (h : List Batch). IsTrue (identities_differ h)) (sym on) differ)
    (subst (λ (h : List Batch). AllByRecursion (λ b. list_any (is_same_identity b) h ≡ true) again) (sym on) found) pair.asked
    (subst (λ (h : List Batch). Follows h pair.others after) more pair.follows)
    ∙ on
