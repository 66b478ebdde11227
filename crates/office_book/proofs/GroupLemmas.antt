-- Batches that are sent in one call: the reply to each, after those before it.
use Rattle.std.proofs.Common.{◌≡◌, ◌≢◌, ◌⊎◌, inl, inr, ℕ, zero, suc, ◌+◌, ◌<◌, ◌≤◌, Bool, true, false, ◌&&◌, ◌==◌, Option, Some, None, is_none, List}
use Rattle.std.proofs.Common.{[], ◌∷◌, ◌++◌}
use Rattle.std.proofs.Common.{length, take, drop, get_or, replicate, refl, sym, ◌∙◌, ap, subst, arith, add-one, append_assoc, length-append}
use Rattle.std.specs.Prelude.{IsTrue, if◌then◌else◌, slice_set}
use Rattle.std.specs.List.{AllByRecursion}
use Rattle.std.proofs.lemmas.List.{append-nil, take_more_set}
use Rattle.std.proofs.lemmas.Option.{same_Some}
use Rattle.std.proofs.lemmas.Bool.Decides.{nat_tests}
use Rattle.std.proofs.Math.Seq.{take-suc}
use Rattle.fact_kinds.specs.declared.batch.Batch.{Batch}
use Rattle.fact_kinds.specs.Identity.{identity_of, position_of}
use Rattle.ldar_journal.specs.Image.{IsKept}
use Rattle.ldar_law.specs.declared.reply.Reply.{Reply}
use Rattle.ldar_law.specs.declared.reply.Reply.TheVariants.{Receipt, Conflict, Denied, Full, Shown, NoSuch, Fault, Memory}
use Rattle.ldar_law.specs.declared.request.Request.{Request}
use Rattle.ldar_law.specs.declared.request.Request.TheVariants.{Sync, Due, Tags, Delays, Route, Percent, Report as ReportView}
use Rattle.ldar_law.specs.declared.verdict.Verdict.{Verdict}
use Rattle.ldar_law.specs.declared.verdict.Verdict.TheVariants.{Pass}
use Rattle.ldar_law.specs.Machine.{State, IsNew, Answers, AnswersBatch, batch_added, is_accepted}
use Rattle.ldar_law.specs.Replies.{HasRule}
use Rattle.ldar_law.specs.Verdicts.{is_pass, is_ruly, verdict_on}
use Rattle.ldar_law.proofs.Gifts.{cases_Option}
use Rattle.office_book.specs.Archive.{MayCome}
use Rattle.office_interface.specs.Asking.{IsFromHandheld, IsSync, MayShareFrame}
use Rattle.office_book.specs.Grouped.{IsOfHandheld, IsSaid, IsTold, IsSorted, IsUnwritten, before_adding}
use Rattle.office_book.specs.Room.{AddsNothing, IsNoFault, PutsNoFault}
use Rattle.office_book.specs.Serving.{certain, uncertain, added, Serves}
use Rattle.office_views.specs.Answers.{IsView}
use Rattle.office_book.proofs.HistoryLemmas.{kept_more, ruly_more}
use Rattle.office_book.proofs.KeepLemmas.{adds_it, adds_one, receipted, serves_said}

-- ---- consecutive requests

-- the first of some requests, and those after it
serve_more : (faulty : Type 0) (history between : List Batch) (request : Request) (asked : List Request) (reply : Reply) (said : List Reply)
    (requests : List Request) (replies : List Reply) (next : State)
    → ((after : List Batch) → Serves ⊥ after asked said (certain between) → Serves faulty after (asked ++ requests) (said ++ replies) next)
    → Serves ⊥ history (request ∷ asked) (reply ∷ said) (certain between)
    → Serves faulty history (request ∷ (asked ++ requests)) (reply ∷ (said ++ replies)) next
serve_more faulty history between request asked (Receipt handheld number position) said requests replies next rest one = (one.0, one.1, rest one.0 one.2)
serve_more faulty history between request asked (Conflict position) said requests replies next rest one = (one.0, one.1, rest one.0 one.2)
serve_more faulty history between request asked (Denied fact rule) said requests replies next rest one = (one.0, one.1, rest one.0 one.2)
serve_more faulty history between request asked (Full facts) said requests replies next rest one = (one.0, one.1, rest one.0 one.2)
serve_more faulty history between request asked (Shown text) said requests replies next rest one = (one.0, one.1, rest one.0 one.2)
serve_more faulty history between request asked (NoSuch what) said requests replies next rest one = (one.0, one.1, rest one.0 one.2)
serve_more faulty history between request asked Fault said requests replies next rest one = absurd one.why
serve_more faulty history between request asked Memory said requests replies next rest one = (one.0, rest history one.1)

-- requests without a disk error, followed by others
pub serves_join : (faulty : Type 0) (history between : List Batch) (asked : List Request) (said : List Reply) (requests : List Request)
    (replies : List Reply) (next : State)
    → Serves ⊥ history asked said (certain between) → Serves faulty between requests replies next
    → Serves faulty history (asked ++ requests) (said ++ replies) next
serves_join faulty history between [] [] requests replies next one two =
    subst (λ (l : List Batch). Serves faulty l requests replies next) (ap (λ (s : State). s.history) one) two
serves_join faulty history between [] (reply ∷ said) requests replies next one two = absurd one
serves_join faulty history between (request ∷ asked) [] requests replies next one two = absurd one
serves_join faulty history between (request ∷ asked) (reply ∷ said) requests replies next one two =
    serve_more faulty history between request asked reply said requests replies next
    (λ after rest. serves_join faulty after between asked said requests replies next rest two) one

-- requests without a disk error, followed by none
pub serves_whole : (faulty : Type 0) (history between : List Batch) (asked : List Request) (said : List Reply) (next : State)
    → Serves ⊥ history asked said (certain between) → next ≡ certain between → Serves faulty history asked said next
serves_whole faulty history between asked said next one stays =
    subst (λ (l : List Reply). Serves faulty history asked l next) (append-nil said)
    (subst (λ (l : List Request). Serves faulty history l (said ++ []) next) (append-nil asked)
    (serves_join faulty history between asked said [] [] next one stays))

-- the batches that requests add, and those that later ones add
pub added_join : (history : List Batch) (asked requests : List Request)
    → added history (asked ++ requests) ≡ added history asked ++ added (history ++ added history asked) requests
added_join history [] requests = ap (λ (l : List Batch). added l requests) (sym (append-nil history))
added_join history (request ∷ asked) requests =
    elim (batch_added history request) as (λ one. (elim one as (λ _. List Batch) [
      | None ↦ added history (asked ++ requests)
      | Some batch ↦ batch ∷ added (history ++ batch ∷ []) (asked ++ requests)
    ]) ≡ (elim one as (λ _. List Batch) [
      | None ↦ added history asked
      | Some batch ↦ batch ∷ added (history ++ batch ∷ []) asked
    ]) ++ added (history ++ (elim one as (λ _. List Batch) [
      | None ↦ added history asked
      | Some batch ↦ batch ∷ added (history ++ batch ∷ []) asked
    ])) requests) [
      | None ↦ added_join history asked requests
      | Some batch ↦ ap (λ (l : List Batch). batch ∷ l) (added_join (history ++ batch ∷ []) asked requests
          ∙ ap (λ (l : List Batch). added (history ++ batch ∷ []) asked ++ added l requests)
          (append_assoc history (batch ∷ []) (added (history ++ batch ∷ []) asked)))
    ]

-- the number of requests before the first one that adds a batch, with one more request
pub before_next : (history : List Batch) (asked : List Request) (request : Request)
    → (added history (asked ++ request ∷ []) ≡ [] → before_adding history (asked ++ request ∷ []) ≡ before_adding history asked + 1)
    × (added history (asked ++ request ∷ []) ≢ [] → before_adding history (asked ++ request ∷ []) ≡ before_adding history asked)
before_next history [] request =
    elim (batch_added history request) as (λ one. ((elim one as (λ _. List Batch) [ None ↦ [] | Some batch ↦ batch ∷ [] ]) ≡ []
    → (elim one as (λ _. ℕ) [ None ↦ 0 + 1 | Some batch ↦ 0 ]) ≡ 0 + 1)
    × ((elim one as (λ _. List Batch) [ None ↦ [] | Some batch ↦ batch ∷ [] ]) ≢ []
    → (elim one as (λ _. ℕ) [ None ↦ 0 + 1 | Some batch ↦ 0 ]) ≡ 0)) [
      | None ↦ (λ none. refl, λ some. absurd (some refl))
      | Some batch ↦ (λ none. absurd cc, λ some. refl)
    ]
before_next history (other ∷ asked) request =
    elim (batch_added history other) as (λ one. ((elim one as (λ _. List Batch) [
      | None ↦ added history (asked ++ request ∷ [])
      | Some batch ↦ batch ∷ added (history ++ batch ∷ []) (asked ++ request ∷ [])
    ]) ≡ []
    → (elim one as (λ _. ℕ) [ None ↦ before_adding history (asked ++ request ∷ []) + 1 | Some batch ↦ 0 ])
    ≡ (elim one as (λ _. ℕ) [ None ↦ before_adding history asked + 1 | Some batch ↦ 0 ]) + 1)
    × ((elim one as (λ _. List Batch) [
      | None ↦ added history (asked ++ request ∷ [])
      | Some batch ↦ batch ∷ added (history ++ batch ∷ []) (asked ++ request ∷ [])
    ]) ≢ []
    → (elim one as (λ _. ℕ) [ None ↦ before_adding history (asked ++ request ∷ []) + 1 | Some batch ↦ 0 ])
    ≡ (elim one as (λ _. ℕ) [ None ↦ before_adding history asked + 1 | Some batch ↦ 0 ]))) [
      | None ↦ (
        λ none. ap (λ (n : ℕ). n + 1) ((before_next history asked request).0 none),
        λ some. ap (λ (n : ℕ). n + 1)
            ((before_next history asked request).1 some),
      )
      | Some batch ↦ (λ none. absurd cc, λ some. refl)
    ]

-- ---- a request that adds nothing

-- a batch that adds nothing leaves the history unchanged
batch_same : (history : List Batch) (batch : Batch) (reply : Reply) (after : List Batch) → batch_added history (Sync batch) ≡ None
    → AnswersBatch history batch reply after → after ≡ history
batch_same history batch (Receipt handheld number position) after none answers = elim answers.2 [
  | inl kept ↦ kept.1
  | inr adds ↦ absurd (let clash : Some batch ≡ None = sym (rw adds.0 refl) ∙ none in cc)
]
batch_same history batch (Conflict position) after none answers = answers.3
batch_same history batch (Denied fact rule) after none answers = answers.2
batch_same history batch (Full facts) after none answers = answers.2
batch_same history batch (Shown text) after none answers = absurd answers
batch_same history batch (NoSuch what) after none answers = absurd answers
batch_same history batch Fault after none answers = absurd answers
batch_same history batch Memory after none answers = absurd answers

-- a request that adds nothing leaves the history unchanged
answers_same : (history : List Batch) (request : Request) (reply : Reply) (after : List Batch) → batch_added history request ≡ None
    → Answers history request reply after → after ≡ history
answers_same history (Sync batch) reply after none answers = batch_same history batch reply after none answers
answers_same history (Due unit day) reply after none answers = answers.1
answers_same history (Tags unit day) reply after none answers = answers.1
answers_same history (Delays unit day) reply after none answers = answers.1
answers_same history (Route unit day stops) reply after none answers = answers.1
answers_same history (Percent unit quarter day) reply after none answers = answers.1
answers_same history (ReportView unit half day) reply after none answers = answers.1

-- ---- a frame that was not written

-- the reply before the first disk error
follow_none : (faulty : Type 0) (history : List Batch) (request : Request) (requests : List Request) (reply : Reply) (said : List Reply) (after : List Batch)
    (replies : List Reply) (next : State) → batch_added history request ≡ None → Serves ⊥ history (request ∷ requests) (reply ∷ said) (certain after)
    → (Serves ⊥ history requests said (certain after) → Serves faulty history requests replies next)
    → Serves faulty history (request ∷ requests) (reply ∷ replies) next
follow_none faulty history request requests (Receipt handheld number position) said after replies next none serves rest =
    let same = answers_same history request _ serves.0 none serves.1 in (
      history,
      subst (λ (l : List Batch). Answers history request (Receipt handheld number position) l) same serves.1,
      rest (subst (λ (l : List Batch). Serves ⊥ l requests said (certain after)) same serves.2),
    )
follow_none faulty history request requests (Conflict position) said after replies next none serves rest =
    let same = answers_same history request _ serves.0 none serves.1 in (
      history,
      subst (λ (l : List Batch). Answers history request (Conflict position) l) same serves.1,
      rest (subst (λ (l : List Batch). Serves ⊥ l requests said (certain after)) same serves.2),
    )
follow_none faulty history request requests (Denied fact rule) said after replies next none serves rest =
    let same = answers_same history request _ serves.0 none serves.1 in (
      history,
      subst (λ (l : List Batch). Answers history request (Denied fact rule) l) same serves.1,
      rest (subst (λ (l : List Batch). Serves ⊥ l requests said (certain after)) same serves.2),
    )
follow_none faulty history request requests (Full facts) said after replies next none serves rest =
    let same = answers_same history request _ serves.0 none serves.1 in (
      history,
      subst (λ (l : List Batch). Answers history request (Full facts) l) same serves.1,
      rest (subst (λ (l : List Batch). Serves ⊥ l requests said (certain after)) same serves.2),
    )
follow_none faulty history request requests (Shown text) said after replies next none serves rest =
    let same = answers_same history request _ serves.0 none serves.1 in (
      history,
      subst (λ (l : List Batch). Answers history request (Shown text) l) same serves.1,
      rest (subst (λ (l : List Batch). Serves ⊥ l requests said (certain after)) same serves.2),
    )
follow_none faulty history request requests (NoSuch what) said after replies next none serves rest =
    let same = answers_same history request _ serves.0 none serves.1 in (
      history,
      subst (λ (l : List Batch). Answers history request (NoSuch what) l) same serves.1,
      rest (subst (λ (l : List Batch). Serves ⊥ l requests said (certain after)) same serves.2),
    )
follow_none faulty history request requests Fault said after replies next none serves rest = absurd serves.why
follow_none faulty history request requests Memory said after replies next none serves rest = (serves.0, rest serves.1)

-- the first disk error, and the replies after it
follow_some : (faulty : Type 0) (history : List Batch) (request : Request) (requests : List Request) (faults : List Reply) (next : State) (batch : Batch)
    → batch_added history request ≡ Some batch → faulty
    → (next ≡ certain history) ⊎ (next ≡ uncertain history (added history (request ∷ requests)))
    → AllByRecursion (λ (reply : Reply). reply ≡ Fault) faults → length faults ≡ length (request ∷ requests)
    → Serves faulty history (request ∷ requests) faults next
follow_some faulty history request requests [] next batch adds why leaves each long = absurd (omega arith)
follow_some faulty history request requests (one ∷ faults) next batch adds why leaves each long =
    subst (λ (reply : Reply). Serves faulty history (request ∷ requests) (reply ∷ faults) next) (sym each.0)
    (record { why = why; batch = batch; adds = adds; leaves = leaves; others = each.1; each = omega arith })

take_one_more : (n : ℕ) (reply : Reply) (said : List Reply) → take (n + 1) (reply ∷ said) ≡ reply ∷ take n said
take_one_more n reply said = rw add-one refl

-- the replies before the first request that adds a batch are unchanged, and the others are disk errors
pub faults_follow : (faulty : Type 0) (history : List Batch) (requests : List Request) (said : List Reply) (after : List Batch) (next : State) (first : ℕ)
    (faults : List Reply) → Serves ⊥ history requests said (certain after) → first ≡ before_adding history requests → faulty
    → (next ≡ certain history) ⊎ (next ≡ uncertain history (added history requests)) → added history requests ≢ []
    → AllByRecursion (λ (reply : Reply). reply ≡ Fault) faults → first + length faults ≡ length requests
    → Serves faulty history requests (take first said ++ faults) next
faults_follow faulty history [] said after next first faults serves is why leaves some each long = absurd (some refl)
faults_follow faulty history (request ∷ requests) [] after next first faults serves is why leaves some each long = absurd serves
faults_follow faulty history (request ∷ requests) (reply ∷ said) after next first faults serves is why leaves some each long =
    elim (cases_Option (batch_added history request)) [
      | inl none ↦
          let n = before_adding history requests in
          let more : before_adding history (request ∷ requests) ≡ n + 1 =
          ap (λ (o : Option Batch). elim o as (λ _. ℕ) [ None ↦ before_adding history requests + 1 | Some batch ↦ 0 ]) none in
          let same : added history (request ∷ requests) ≡ added history requests =
          ap (λ (o : Option Batch). elim o as (λ _. List Batch) [
            | None ↦ added history requests
            | Some batch ↦ batch ∷ added (history ++ batch ∷ [])
                requests
          ]) none in
          let count : first ≡ n + 1 = is ∙ more in
          subst (λ (l : List Reply). Serves faulty history (request ∷ requests) (l ++ faults) next)
          (sym (ap (λ (m : ℕ). take m (reply ∷ said)) count ∙ take_one_more n reply said))
          (follow_none faulty history request requests reply said after (take n said ++ faults) next none serves
          (λ rest. faults_follow faulty history requests said after next n faults rest refl why
          (subst (λ (l : List Batch). (next ≡ certain history) ⊎ (next ≡ uncertain history l)) same leaves)
          (λ empty. some (same ∙ empty)) each (omega arith)))
      | inr one ↦
          let none_before : before_adding history (request ∷ requests) ≡ 0 =
          ap (λ (o : Option Batch). elim o as (λ _. ℕ) [ None ↦ before_adding history requests + 1 | Some batch ↦ 0 ]) one.1 in
          let count : first ≡ 0 = is ∙ none_before in
          subst (λ (l : List Reply). Serves faulty history (request ∷ requests) (l ++ faults) next)
          (sym (ap (λ (m : ℕ). take m (reply ∷ said)) count))
          (follow_some faulty history request requests faults next one.0 one.1 why leaves each (omega arith))
    ]

-- ---- one batch after others of its group

not_added : (b : Bool) (batch : Batch) → b ≡ false → (if b then Some batch else None) ≡ None
not_added b batch is = rw is refl

kept_refused : (o : Option ℕ) (v : Verdict) (position : ℕ) → o ≡ Some position → (is_none o && is_pass v) ≡ false
kept_refused o v position kept = rw kept refl

judged_refused : (o : Option ℕ) (v : Verdict) → is_pass v ≡ false → (is_none o && is_pass v) ≡ false
judged_refused None v denied = denied
judged_refused (Some position) v denied = refl

-- a history with one more batch is a different one
not_longer : (history : List Batch) (batch : Batch) → history ≡ history ++ batch ∷ [] → ⊥
not_longer history batch is =
    let long = ap length is in
    let more = length-append history (batch ∷ []) in
    omega arith

-- the reply to a batch that is not added
said_adds : (history : List Batch) (batch : Batch) (reply : Reply) → AnswersBatch history batch reply history → is_accepted history batch ≡ false
said_adds history batch (Receipt handheld number position) answers = elim answers.2 [
  | inl kept ↦ kept_refused (position_of (identity_of batch) history) (verdict_on history batch) position kept.0.0
  | inr adds ↦ absurd (not_longer history batch adds.2)
]
said_adds history batch (Conflict position) answers =
    kept_refused (position_of (identity_of batch) history) (verdict_on history batch) position answers.1.0
said_adds history batch (Denied fact rule) answers =
    judged_refused (position_of (identity_of batch) history) (verdict_on history batch) (ap is_pass answers.1)
said_adds history batch (Full facts) answers =
    judged_refused (position_of (identity_of batch) history) (verdict_on history batch) (ap is_pass answers.1)
said_adds history batch (Shown text) answers = absurd answers
said_adds history batch (NoSuch what) answers = absurd answers
said_adds history batch Fault answers = absurd answers
said_adds history batch Memory answers = absurd answers

-- a batch that is not added adds nothing to a history
adds_none : (history : List Batch) (batch : Batch) (reply : Reply) → IsSaid history batch reply → added history (Sync batch ∷ []) ≡ []
adds_none history batch reply said =
    ap (λ (o : Option Batch). elim o as (λ _. List Batch) [ None ↦ [] | Some more ↦ more ∷ [] ])
    (not_added (is_accepted history batch) batch (said_adds history batch reply said.answers))

-- the reply to a batch that is not added, after others of its group
pub told_said : (history : List Batch) (batch : Batch) (others : List Batch) (reply : Reply) → MayCome history others
    → IsSaid (history ++ others) batch reply → IsTold history batch others others reply
told_said history batch others reply may said = record {
  serves = serves_said ⊥ (history ++ others) batch reply (certain (history ++ others)) said.answers refl;
  adds = sym (append-nil others) ∙ ap (λ (l : List Batch). others ++ l) (sym (adds_none (history ++ others) batch reply said));
  may_come = may;
  ruled = said.ruled;
}

-- a property of each element, with one more
all_push : {X : Type 0} (P : X → Type 0) (xs : List X) (x : X) → AllByRecursion P xs → P x → AllByRecursion P (xs ++ x ∷ [])
all_push P [] x each p = (p, tt)
all_push P (y ∷ xs) x each p = (each.0, all_push P xs x each.1 p)

-- a batch that is new and passes after the others is added to them
pub told_added : (history : List Batch) (batch : Batch) (others : List Batch) (position : ℕ) → MayCome history others
    → IsNew (history ++ others) batch → verdict_on (history ++ others) batch ≡ Pass → position ≡ length (history ++ others) + 1
    → IsTold history batch others (others ++ batch ∷ []) (Receipt batch.handheld batch.number position)
told_added history batch others position may new passes place =
    let whole = append_assoc history others (batch ∷ []) in
    record {
      serves = subst (λ (l : List Batch). Serves ⊥ (history ++ others) (Sync batch ∷ []) (Receipt batch.handheld batch.number position ∷ []) (certain l)) whole
          (receipted ⊥ (history ++ others) batch position (certain ((history ++ others) ++ batch ∷ [])) new passes place refl);
      adds = ap (λ (l : List Batch). others ++ l) (sym (adds_one (history ++ others) batch (adds_it (history ++ others) batch new passes)));
      may_come = record {
        kept = subst (λ (l : List Batch). IsKept l) whole (kept_more (history ++ others) batch may.kept new passes);
        ruly = subst (λ (l : List Batch). IsTrue (is_ruly l)) whole (ruly_more (history ++ others) batch may.ruly passes);
      };
      ruled = tt;
    }

-- ---- a group, one batch after the other

-- the requests so far, and one more
pub sorted_next : (history : List Batch) (asked : List Request) (said : List Reply) (old new : List Batch) (first more : ℕ) (batch : Batch) (reply : Reply)
    → IsSorted history asked said old first → IsTold history batch old new reply
    → (new ≡ [] → more ≡ first + 1) → (new ≢ [] → more ≡ first)
    → IsSorted history (asked ++ Sync batch ∷ []) (said ++ reply ∷ []) new more
sorted_next history asked said old new first more batch reply sorted told none some =
    let adds : added history (asked ++ Sync batch ∷ []) ≡ new =
    added_join history asked (Sync batch ∷ []) ∙ ap (λ (l : List Batch). l ++ added (history ++ l) (Sync batch ∷ [])) sorted.adds ∙ sym told.adds in
    let next = before_next history asked (Sync batch) in
    record {
      serves = serves_join ⊥ history (history ++ old) asked said (Sync batch ∷ []) (reply ∷ []) (certain (history ++ new)) sorted.serves told.serves;
      adds = adds;
      may_come = told.may_come;
      ruled = all_push HasRule said reply sorted.ruled told.ruled;
      before = elim (none_or_some new) [
        | inl empty ↦ none empty ∙ ap (λ (n : ℕ). n + 1) sorted.before ∙ sym (next.0 (adds ∙ empty))
        | inr full ↦ some full ∙ sorted.before ∙ sym (next.1 (λ empty. full (sym adds ∙ empty)))
      ];
    }
  where
    none_or_some : (batches : List Batch) → (batches ≡ []) ⊎ (batches ≢ [])
    none_or_some [] = inl refl
    none_or_some (one ∷ batches) = inr (λ none. cc)

-- no request yet
pub sorted_none : (history : List Batch) → MayCome history [] → IsSorted history [] [] [] 0
sorted_none history may = record {
  serves = ap certain (append-nil history);
  adds = refl;
  may_come = may;
  ruled = tt;
  before = refl;
}

-- the requests so far and one more; no request adds a batch
pub unwritten_next : (history : List Batch) (asked : List Request) (said : List Reply) (batch : Batch) (reply : Reply)
    → IsUnwritten history asked said → Serves ⊥ history (Sync batch ∷ []) (reply ∷ []) (certain history) → HasRule reply
    → IsUnwritten history (asked ++ Sync batch ∷ []) (said ++ reply ∷ [])
unwritten_next history asked said batch reply unwritten serves rule = record {
  serves = serves_join ⊥ history history asked said (Sync batch ∷ []) (reply ∷ []) (certain history) unwritten.serves serves;
  ruled = all_push HasRule said reply unwritten.ruled rule;
}

-- ---- the requests of a group, by place

-- a property of each element, for the one at a place
at_place : {X : Type 0} (P : X → Type 0) (xs : List X) (i : ℕ) (x : X) → AllByRecursion P xs → i < length xs → x ≡ get_or xs i x → P x
at_place P [] i x each within is = absurd (omega arith)
at_place P (y ∷ xs) zero x each within is = subst P (sym is) each.0
at_place P (y ∷ xs) (suc i) x each within is = at_place P xs i x each.1 (omega arith) is

-- a request of a group is a batch
pub asks_batch : (requests : List Request) (i : ℕ) (request : Request) → AllByRecursion IsSync requests → i < length requests
    → request ≡ get_or requests i request → IsSync request
asks_batch requests i request syncs within is = at_place IsSync requests i request syncs within is

-- the requests up to one, including it
next_request : (requests : List Request) (i : ℕ) (request : Request) (batch : Batch) → i < length requests → request ≡ get_or requests i request
    → request ≡ Sync batch → take (i + 1) requests ≡ take i requests ++ Sync batch ∷ []
next_request requests i request batch within is asks =
    rw (add-one, take-suc requests i request within) (ap (λ (r : Request). take i requests ++ r ∷ []) (sym is ∙ asks))

-- replacing an element does not change the length
pub length_set : {X : Type 0} (xs : List X) (i : ℕ) (x : X) → length (slice_set xs i x) ≡ length xs
length_set [] i x = refl
length_set (y ∷ xs) zero x = refl
length_set (y ∷ xs) (suc i) x = ap suc (length_set xs i x)

-- the replies so far, with one more, if no batch is added
pub unwritten_at : (history : List Batch) (requests : List Request) (i : ℕ) (request : Request) (batch : Batch) (replies : List Reply) (reply : Reply)
    → i < length replies → i < length requests → request ≡ get_or requests i request → request ≡ Sync batch → IsUnwritten history (take i requests) (take i replies)
    → Serves ⊥ history (Sync batch ∷ []) (reply ∷ []) (certain history) → HasRule reply
    → IsUnwritten history (take (i + 1) requests) (take (i + 1) (slice_set replies i reply))
unwritten_at history requests i request batch replies reply room within is asks unwritten serves rule =
    subst (λ (l : List Reply). IsUnwritten history (take (i + 1) requests) l) (sym (take_more_set replies i reply room))
    (subst (λ (l : List Request). IsUnwritten history l (take i replies ++ reply ∷ [])) (sym (next_request requests i request batch within is asks))
    (unwritten_next history (take i requests) (take i replies) batch reply unwritten serves rule))

-- no request yet
pub unwritten_none : (history : List Batch) → IsUnwritten history [] []
unwritten_none history = record { serves = refl; ruled = tt }

-- the replies so far, with one more
pub sorted_at : (history : List Batch) (requests : List Request) (i : ℕ) (request : Request) (batch : Batch) (replies : List Reply) (reply : Reply)
    (old new : List Batch) (first more : ℕ) → i < length replies → i < length requests → request ≡ get_or requests i request → request ≡ Sync batch
    → IsSorted history (take i requests) (take i replies) old first → IsTold history batch old new reply
    → (new ≡ [] → more ≡ first + 1) → (new ≢ [] → more ≡ first)
    → IsSorted history (take (i + 1) requests) (take (i + 1) (slice_set replies i reply)) new more
sorted_at history requests i request batch replies reply old new first more room within is asks sorted told none some =
    subst (λ (l : List Reply). IsSorted history (take (i + 1) requests) l new more) (sym (take_more_set replies i reply room))
    (subst (λ (l : List Request). IsSorted history l (take i replies ++ reply ∷ []) new more) (sym (next_request requests i request batch within is asks))
    (sorted_next history (take i requests) (take i replies) old new first more batch reply sorted told none some))

-- a property of each element, for a prefix and for two lists
all_take : {X : Type 0} (P : X → Type 0) (n : ℕ) (xs : List X) → AllByRecursion P xs → AllByRecursion P (take n xs)
all_take P zero xs each = tt
all_take P (suc n) [] each = tt
all_take P (suc n) (x ∷ xs) each = (each.0, all_take P n xs each.1)

all_append : {X : Type 0} (P : X → Type 0) (xs ys : List X) → AllByRecursion P xs → AllByRecursion P ys → AllByRecursion P (xs ++ ys)
all_append P [] ys one two = two
all_append P (x ∷ xs) ys one two = (one.0, all_append P xs ys one.1 two)

-- the batch that a request adds is its own
own_batch : (b : Bool) (one batch : Batch) → (if b then Some one else None) ≡ Some batch → one ≡ batch
own_batch true one batch is = same_Some one batch is
own_batch false one batch is = absurd cc

-- the batch that a request of a handheld adds is of a handheld
added_own : (history : List Batch) (request : Request) (batch : Batch) → IsFromHandheld request → batch_added history request ≡ Some batch → IsOfHandheld batch
added_own history (Sync one) batch from is = subst IsOfHandheld (own_batch (is_accepted history one) one batch is) from
added_own history (Due unit day) batch from is = absurd from
added_own history (Tags unit day) batch from is = absurd from
added_own history (Delays unit day) batch from is = absurd from
added_own history (Route unit day stops) batch from is = absurd from
added_own history (Percent unit quarter day) batch from is = absurd from
added_own history (ReportView unit half day) batch from is = absurd from

-- batches added by requests of handhelds are of handhelds
added_alike : (history : List Batch) (requests : List Request) → AllByRecursion IsFromHandheld requests → AllByRecursion IsOfHandheld (added history requests)
added_alike history [] alike = tt
added_alike history (request ∷ requests) alike =
    by (batch_added history request) (λ batch is. added_own history request batch alike.0 is) (added_alike history requests alike.1)
    (λ batch. added_alike (history ++ batch ∷ []) requests alike.1)
  where
    by : (o : Option Batch) → ((batch : Batch) → o ≡ Some batch → IsOfHandheld batch) → AllByRecursion IsOfHandheld (added history requests)
        → ((batch : Batch) → AllByRecursion IsOfHandheld (added (history ++ batch ∷ []) requests)) → AllByRecursion IsOfHandheld (elim o as (λ _. List Batch) [
          | None ↦ added history requests
          | Some batch ↦ batch ∷ added (history ++ batch ∷ []) requests
        ])
    by None own none some = none
    by (Some batch) own none some = (own batch refl, some batch)

-- the batches before one of a group are of handhelds; there are none before the first
pub alike_before : (history : List Batch) (requests : List Request) (i : ℕ) (batches : List Batch) → MayShareFrame requests → i < length requests
    → added history (take i requests) ≡ batches → AllByRecursion IsOfHandheld batches
alike_before history requests zero batches share within adds = subst (λ (l : List Batch). AllByRecursion IsOfHandheld l) adds tt
alike_before history requests (suc i) batches share within adds =
    subst (λ (l : List Batch). AllByRecursion IsOfHandheld l) adds
    (added_alike history (take (suc i) requests) (all_take IsFromHandheld (suc i) requests (share (omega arith))))

-- a request adds at most one batch
pub one_told : (history : List Batch) (batch : Batch) (old new : List Batch) (reply : Reply) → IsTold history batch old new reply → length new ≤ length old + 1
one_told history batch old new reply told =
    let one = one_added (batch_added (history ++ old) (Sync batch)) in
    let long = ap length told.adds in
    let whole = length-append old (added (history ++ old) (Sync batch ∷ [])) in
    omega arith
  where
    one_added : (o : Option Batch) → length (elim o as (λ _. List Batch) [ None ↦ [] | Some more ↦ more ∷ [] ]) ≤ 1
    one_added None = omega arith
    one_added (Some more) = omega arith

-- the requests before the first one that adds a batch are at most all requests
pub before_within : (history : List Batch) (requests : List Request) → before_adding history requests ≤ length requests
before_within history [] = omega arith
before_within history (request ∷ requests) = by (batch_added history request) (before_within history requests)
  where
    by : (o : Option Batch) → before_adding history requests ≤ length requests
        → (elim o as (λ _. ℕ) [ None ↦ before_adding history requests + 1 | Some batch ↦ 0 ]) ≤ length (request ∷ requests)
    by None rest = omega arith
    by (Some batch) rest = omega arith

-- ---- replies without a disk error

-- replies name a rule if disk errors follow them
pub cut_ruled : (first : ℕ) (said faults : List Reply) → AllByRecursion HasRule said → AllByRecursion HasRule faults
    → AllByRecursion HasRule (take first said ++ faults)
cut_ruled first said faults one two = all_append HasRule (take first said) faults (all_take HasRule first said one) two

-- requests add at most as many batches as there are requests
pub added_within : (history : List Batch) (requests : List Request) → length (added history requests) ≤ length requests
added_within history [] = omega arith
added_within history (request ∷ requests) =
    by (batch_added history request) (added_within history requests) (λ batch. added_within (history ++ batch ∷ []) requests)
  where
    by : (o : Option Batch) → length (added history requests) ≤ length requests
        → ((batch : Batch) → length (added (history ++ batch ∷ []) requests) ≤ length requests) → length (elim o as (λ _. List Batch) [
          | None ↦ added history requests
          | Some batch ↦ batch ∷ added (history ++ batch ∷ []) requests
        ]) ≤ length (request ∷ requests)
    by None none some = omega arith
    by (Some batch) none some = let rest = some batch in omega arith

-- one more batch or none
pub more_within : (batches : List Batch) (first more i : ℕ) → first ≤ i → (batches ≡ [] → more ≡ first + 1) → (batches ≢ [] → more ≡ first) → more ≤ i + 1
more_within [] first more i within none some = let is = none refl in omega arith
more_within (batch ∷ batches) first more i within none some = let is = some (λ empty. cc) in omega arith

-- a test of the length
pub none_held : (batches : List Batch) (n : ℕ) → n ≡ length batches → (n == 0) ≡ true → batches ≡ []
none_held [] n long test = refl
none_held (batch ∷ batches) n long test = absurd (let none : n ≡ 0 = grind (arith, nat_tests) in omega arith)

pub some_held : (batches : List Batch) (n : ℕ) → n ≡ length batches → (n == 0) ≡ false → batches ≢ []
some_held [] n long test empty = let some : n ≢ 0 = grind (arith, nat_tests) in some (omega arith)
some_held (batch ∷ batches) n long test empty = cc

-- ---- disk errors in place of replies

replicate_more : (n : ℕ) → replicate n Fault ++ Fault ∷ [] ≡ Fault ∷ replicate n Fault
replicate_more zero = refl
replicate_more (suc n) = ap (λ (l : List Reply). Fault ∷ l) (replicate_more n)

-- one more disk error after some replies and disk errors
pub faults_more : (front : List Reply) (n m : ℕ) → m ≡ n + 1 → (front ++ replicate n Fault) ++ Fault ∷ [] ≡ front ++ replicate m Fault
faults_more front n m more =
    let next : suc n ≡ m = omega arith in
    append_assoc front (replicate n Fault) (Fault ∷ [])
    ∙ ap (λ (l : List Reply). front ++ l) (replicate_more n ∙ ap (λ (k : ℕ). replicate k Fault) next)

-- no disk errors yet
pub faults_none : (front : List Reply) (n : ℕ) → n ≡ 0 → front ≡ front ++ replicate n Fault
faults_none front n none = sym (append-nil front) ∙ ap (λ (k : ℕ). front ++ replicate k Fault) (sym none)

-- ---- a group that adds nothing

-- the first of some replies, if its request adds nothing
quiet_step : (faulty : Type 0) (history : List Batch) (request : Request) (requests : List Request) (reply : Reply) (replies : List Reply) (next : State)
    (P : Type 0) → batch_added history request ≡ None → (Serves faulty history requests replies next → P)
    → Serves faulty history (request ∷ requests) (reply ∷ replies) next → IsNoFault reply × P
quiet_step faulty history request requests (Receipt handheld number position) replies next P none rest serves =
    (λ is. cc, rest (subst (λ (l : List Batch). Serves faulty l requests replies next) (answers_same history request _ serves.0 none serves.1) serves.2))
quiet_step faulty history request requests (Conflict position) replies next P none rest serves =
    (λ is. cc, rest (subst (λ (l : List Batch). Serves faulty l requests replies next) (answers_same history request _ serves.0 none serves.1) serves.2))
quiet_step faulty history request requests (Denied fact rule) replies next P none rest serves =
    (λ is. cc, rest (subst (λ (l : List Batch). Serves faulty l requests replies next) (answers_same history request _ serves.0 none serves.1) serves.2))
quiet_step faulty history request requests (Full facts) replies next P none rest serves =
    (λ is. cc, rest (subst (λ (l : List Batch). Serves faulty l requests replies next) (answers_same history request _ serves.0 none serves.1) serves.2))
quiet_step faulty history request requests (Shown text) replies next P none rest serves =
    (λ is. cc, rest (subst (λ (l : List Batch). Serves faulty l requests replies next) (answers_same history request _ serves.0 none serves.1) serves.2))
quiet_step faulty history request requests (NoSuch what) replies next P none rest serves =
    (λ is. cc, rest (subst (λ (l : List Batch). Serves faulty l requests replies next) (answers_same history request _ serves.0 none serves.1) serves.2))
quiet_step faulty history request requests Fault replies next P none rest serves =
    absurd (let clash : Some serves.batch ≡ None = sym serves.adds ∙ none in cc)
quiet_step faulty history request requests Memory replies next P none rest serves = (λ is. cc, rest serves.1)

-- requests that add nothing have no disk error, and leave the state unchanged
quiet_added : (faulty : Type 0) (history : List Batch) (requests : List Request) (replies : List Reply) (next : State)
    → Serves faulty history requests replies next → added history requests ≡ [] → AllByRecursion IsNoFault replies × (next ≡ certain history)
quiet_added faulty history [] [] next serves none = (tt, serves)
quiet_added faulty history [] (reply ∷ replies) next serves none = absurd serves
quiet_added faulty history (request ∷ requests) [] next serves none = absurd serves
quiet_added faulty history (request ∷ requests) (reply ∷ replies) next serves none =
    elim (cases_Option (batch_added history request)) [
      | inl missing ↦
          let same : added history (request ∷ requests) ≡ added history requests =
          ap (λ (o : Option Batch). elim o as (λ _. List Batch) [
            | None ↦ added history requests
            | Some batch ↦ batch ∷ added (history ++ batch ∷ []) requests
          ]) missing in
          let both = quiet_step faulty history request requests reply replies next (AllByRecursion IsNoFault replies × (next ≡ certain history)) missing
          (λ rest. quiet_added faulty history requests replies next rest (sym same ∙ none)) serves in
          ((both.0, both.1.0), both.1.1)
      | inr one ↦
          let full : added history (request ∷ requests) ≡ one.0 ∷ added (history ++ one.0 ∷ []) requests =
          ap (λ (o : Option Batch). elim o as (λ _. List Batch) [
            | None ↦ added history requests
            | Some batch ↦ batch ∷ added (history ++ batch ∷ []) requests
          ]) one.1 in
          absurd (let clash : one.0 ∷ added (history ++ one.0 ∷ []) requests ≡ [] = sym full ∙ none in cc)
    ]

-- requests that all ran out of memory leave the state unchanged too
quiet_memory : (faulty : Type 0) (history : List Batch) (requests : List Request) (replies : List Reply) (next : State)
    → Serves faulty history requests replies next → AllByRecursion (λ (reply : Reply). reply ≡ Memory) replies
    → AllByRecursion IsNoFault replies × (next ≡ certain history)
quiet_memory faulty history [] [] next serves all = (tt, serves)
quiet_memory faulty history [] (reply ∷ replies) next serves all = absurd serves
quiet_memory faulty history (request ∷ requests) [] next serves all = absurd serves
quiet_memory faulty history (request ∷ requests) (reply ∷ replies) next serves all =
    let wanting = subst (λ (r : Reply). Serves faulty history (request ∷ requests) (r ∷ replies) next) all.0 serves in
    let rest = quiet_memory faulty history requests replies next wanting.1 all.1 in
    ((λ is. let clash : Fault ≡ Memory = sym is ∙ all.0 in cc, rest.0), rest.1)

-- requests that add nothing, in each of the three ways, have no disk error and leave the history unchanged
pub quiet : (faulty : Type 0) (history : List Batch) (requests : List Request) (replies : List Reply) (next : State)
    → Serves faulty history requests replies next → AddsNothing history next.history requests replies
    → AllByRecursion IsNoFault replies × (next.history ≡ history)
quiet faulty history requests replies next serves (inl none) =
    let both = quiet_added faulty history requests replies next serves none in (both.0, ap (λ (s : State). s.history) both.1)
quiet faulty history requests replies next serves (inr (inl all)) =
    let both = quiet_memory faulty history requests replies next serves all in (both.0, ap (λ (s : State). s.history) both.1)
quiet faulty history requests replies next serves (inr (inr both)) = both

-- a history with some more batches is a different one
pub not_grown : (history batches : List Batch) → batches ≢ [] → history ++ batches ≡ history → ⊥
not_grown history [] some is = some refl
not_grown history (batch ∷ batches) some is =
    let long = ap length is in
    let more = length-append history (batch ∷ batches) in
    omega arith

-- some reply is a disk error
pub fault_among : (front : List Reply) (n : ℕ) → 0 < n → AllByRecursion IsNoFault (front ++ replicate n Fault) → ⊥
fault_among [] zero some each = omega arith
fault_among [] (suc n) some each = each.0 refl
fault_among (reply ∷ front) n some each = fault_among front n some each.1

-- if a group adds a batch, some request is the first to add one
pub before_some : (history : List Batch) (requests : List Request) → added history requests ≢ [] → before_adding history requests < length requests
before_some history [] some = absurd (some refl)
before_some history (request ∷ requests) some =
    by (batch_added history request) some (λ more. before_some history requests more)
  where
    by : (o : Option Batch) → (elim o as (λ _. List Batch) [
      | None ↦ added history requests
      | Some batch ↦ batch ∷ added (history ++ batch ∷ []) requests
    ]) ≢ [] → (added history requests ≢ [] → before_adding history requests < length requests)
        → (elim o as (λ _. ℕ) [ None ↦ before_adding history requests + 1 | Some batch ↦ 0 ]) < length (request ∷ requests)
    by None some rest = let less = rest some in omega arith
    by (Some batch) some rest = omega arith

-- ---- one request, or several batches of handhelds

from_sync : (request : Request) → IsFromHandheld request → IsSync request
from_sync (Sync batch) from = tt
from_sync (Due unit day) from = absurd from
from_sync (Tags unit day) from = absurd from
from_sync (Delays unit day) from = absurd from
from_sync (Route unit day stops) from = absurd from
from_sync (Percent unit quarter day) from = absurd from
from_sync (ReportView unit half day) from = absurd from

from_syncs : (requests : List Request) → AllByRecursion IsFromHandheld requests → AllByRecursion IsSync requests
from_syncs [] each = tt
from_syncs (request ∷ requests) each = (from_sync request each.0, from_syncs requests each.1)

-- a group that begins with a batch consists of batches
pub all_sync : (requests : List Request) (first : Request) → MayShareFrame requests → first ≡ get_or requests 0 first → IsSync first
    → AllByRecursion IsSync requests
all_sync [] first share is sync = tt
all_sync (request ∷ []) first share is sync = (subst IsSync is sync, tt)
all_sync (request ∷ other ∷ requests) first share is sync = from_syncs (request ∷ other ∷ requests) (share (omega arith))

-- a group that begins with another request consists only of it
pub alone : (requests : List Request) (first : Request) → MayShareFrame requests → 0 < length requests → first ≡ get_or requests 0 first
    → (IsFromHandheld first → ⊥) → requests ≡ first ∷ []
alone [] first share some is other = absurd (omega arith)
alone (request ∷ []) first share some is other = ap (λ (r : Request). r ∷ []) (sym is)
alone (request ∷ one ∷ requests) first share some is other = absurd (other (subst IsFromHandheld (sym is) (share (omega arith)).0))

-- a view is not a batch of a handheld
pub view_alone : (request : Request) → IsView request → IsFromHandheld request → ⊥
view_alone (Sync batch) view from = view
view_alone (Due unit day) view from = from
view_alone (Tags unit day) view from = from
view_alone (Delays unit day) view from = from
view_alone (Route unit day stops) view from = from
view_alone (Percent unit quarter day) view from = from
view_alone (ReportView unit half day) view from = from

drop_front : (front said : List Reply) → drop (length front) (front ++ said) ≡ said
drop_front [] said = refl
drop_front (reply ∷ front) said = drop_front front said

-- no added reply is a disk error
pub own_part : (front all said : List Reply) → all ≡ front ++ said → PutsNoFault front all → AllByRecursion IsNoFault said
own_part front all said is puts =
    let same : puts.0 ≡ said =
    sym (drop_front front puts.0) ∙ ap (λ (l : List Reply). drop (length front) l) (sym puts.1 ∙ is) ∙ drop_front front said in
    subst (λ (l : List Reply). AllByRecursion IsNoFault l) same puts.2

-- the only reply
pub one_place : (replies : List Reply) (reply : Reply) → length replies ≡ 1 → slice_set replies 0 reply ≡ reply ∷ []
one_place [] reply one = absurd (omega arith)
one_place (other ∷ []) reply one = refl
one_place (other ∷ another ∷ replies) reply one = absurd (omega arith)
