-- The reply to one batch.
use Rattle.std.proofs.Common.{◌≡◌, inl, inr, ℕ, ◌+◌, Bool, true, false, ◌&&◌, Option, Some, None, List, [], ◌∷◌, ◌++◌, length, refl, sym}
use Rattle.std.proofs.Common.{◌∙◌, ap, subst}
use Rattle.std.specs.Prelude.{IsTrue, is_none, if◌then◌else◌, Result, Ok, Err, is_err, OnErr}
use Rattle.std.proofs.lemmas.Bool.{false≢true}
use Rattle.fact_kinds.specs.declared.batch.Batch.{Batch}
use Rattle.fact_kinds.specs.Identity.{identity_of, position_of}
use Rattle.ldar_law.specs.declared.reply.Reply.{Reply}
use Rattle.ldar_law.specs.declared.reply.Reply.TheVariants.{Receipt, Conflict, Denied, Full, Shown, NoSuch, Fault, Memory}
use Rattle.ldar_law.specs.declared.request.Request.TheVariants.{Sync}
use Rattle.ldar_law.specs.declared.verdict.Verdict.{Verdict}
use Rattle.ldar_law.specs.declared.verdict.Verdict.TheVariants.{Pass, Denied as DeniedBatch, Full as FullOffice}
use Rattle.ldar_law.specs.Machine.{State, IsNew, Answers, batch_added, is_accepted}
use Rattle.ldar_law.specs.Verdicts.{is_pass, verdict_on}
use Rattle.office_book.specs.Archive.{IsKeptAt}
use Rattle.office_book.specs.Grouped.{IsSaid}
use Rattle.office_book.specs.Kept.{kept_reply}
use Rattle.office_book.specs.Serving.{certain, added, Serves}
use Rattle.office_book.proofs.RuleLemmas.{rule_in_range}

-- ---- a batch that is kept, denied, or too large

-- the reply to a batch whose identity is kept
pub said_kept : (history : List Batch) (batch : Batch) (position : ℕ) (same : Bool) (reply : Reply) → IsKeptAt history batch position same
    → reply ≡ kept_reply batch position same → IsSaid history batch reply
said_kept history batch position true reply stands is =
    subst (λ (r : Reply). IsSaid history batch r) (sym is) (record {
      answers = (refl, refl, inl ((stands.1.0, stands.1.1 ∙ ap Some (stands.2 refl)), refl));
      ruled = tt;
    })
said_kept history batch position false reply stands is =
    subst (λ (r : Reply). IsSaid history batch r) (sym is) (record { answers = (stands.0, stands.1, stands.3 refl, refl); ruled = tt })

-- the reply to a batch that is denied
pub said_denied : (history : List Batch) (batch : Batch) (fact rule : ℕ) → IsNew history batch → verdict_on history batch ≡ DeniedBatch fact rule
    → IsSaid history batch (Denied fact rule)
said_denied history batch fact rule new denied = record { answers = (new, denied, refl); ruled = rule_in_range history batch fact rule denied }

-- the reply to a batch that is too large
pub said_full : (history : List Batch) (batch : Batch) (facts : ℕ) → IsNew history batch → verdict_on history batch ≡ FullOffice facts
    → IsSaid history batch (Full facts)
said_full history batch facts new full = record { answers = (new, full, refl); ruled = tt }

-- the state is unchanged
pub serves_said : (faulty : Type 0) (history : List Batch) (batch : Batch) (reply : Reply) (next : State) → Answers history (Sync batch) reply history
    → next ≡ certain history → Serves faulty history (Sync batch ∷ []) (reply ∷ []) next
serves_said faulty history batch (Receipt handheld number position) next answers stays = (history, answers, stays)
serves_said faulty history batch (Conflict position) next answers stays = (history, answers, stays)
serves_said faulty history batch (Denied fact rule) next answers stays = (history, answers, stays)
serves_said faulty history batch (Full facts) next answers stays = (history, answers, stays)
serves_said faulty history batch (Shown text) next answers stays = absurd answers
serves_said faulty history batch (NoSuch what) next answers stays = absurd answers
serves_said faulty history batch Fault next answers stays = absurd answers
serves_said faulty history batch Memory next answers stays = absurd answers

-- ---- a batch that is written

accepted_by : (o : Option ℕ) (v : Verdict) → o ≡ None → v ≡ Pass → (is_none o && is_pass v) ≡ true
accepted_by o v none pass = rw (none, pass) refl

-- a new batch that passes is accepted
pub accepted : (history : List Batch) (batch : Batch) → IsNew history batch → verdict_on history batch ≡ Pass → is_accepted history batch ≡ true
accepted history batch new passes = accepted_by (position_of (identity_of batch) history) (verdict_on history batch) new passes

added_by : (b : Bool) (batch : Batch) → b ≡ true → (if b then Some batch else None) ≡ Some batch
added_by b batch is = rw is refl

-- a new batch that passes is added
pub adds_it : (history : List Batch) (batch : Batch) → IsNew history batch → verdict_on history batch ≡ Pass → batch_added history (Sync batch) ≡ Some batch
adds_it history batch new passes = added_by (is_accepted history batch) batch (accepted history batch new passes)

-- only this batch is added
pub adds_one : (history : List Batch) (batch : Batch) → batch_added history (Sync batch) ≡ Some batch → added history (Sync batch ∷ []) ≡ batch ∷ []
adds_one history batch adds =
    ap (λ (o : Option Batch). elim o as (λ _. List Batch) [ None ↦ [] | Some more ↦ more ∷ [] ]) adds

-- the reply to a batch that is added: its receipt
pub receipted : (faulty : Type 0) (history : List Batch) (batch : Batch) (position : ℕ) (next : State) → IsNew history batch → verdict_on history batch ≡ Pass
    → position ≡ length history + 1 → next ≡ certain (history ++ batch ∷ [])
    → Serves faulty history (Sync batch ∷ []) (Receipt batch.handheld batch.number position ∷ []) next
receipted faulty history batch position next new passes place stands =
    (history ++ batch ∷ [], (refl, refl, inr (accepted history batch new passes, place, refl)), stands)

-- a call that failed
pub from_err : {T E : Type 0} (r : Result T E) {P : Type 0} → is_err r ≡ true → OnErr r P → P
from_err (Ok v) err promised = absurd (false≢true err)
from_err (Err e) err promised = promised
