-- The reply to a view.
use Rattle.std.proofs.Common.{◌≡◌, inr, Some, List, [], ◌∷◌, refl, sym, ap, subst, ◌∙◌}
use Rattle.std.specs.Prelude.{Result, Ok, Err}
use Rattle.std.specs.declared.alloc.AllocError.{AllocError}
use Rattle.fact_kinds.specs.declared.batch.Batch.{Batch}
use Rattle.ldar_law.specs.declared.reply.Reply.{Reply}
use Rattle.ldar_law.specs.declared.reply.Reply.TheVariants.{Shown, NoSuch}
use Rattle.ldar_law.specs.declared.request.Request.{Request}
use Rattle.ldar_law.specs.declared.request.Request.TheVariants.{Sync, Due, Tags, Delays, Route, Percent, Report as ReportView}
use Rattle.ldar_law.specs.Machine.{State, Answers}
use Rattle.ldar_law.specs.Replies.{HasRule}
use Rattle.ldar_law.specs.Shown.{shown}
use Rattle.office_book.specs.Room.{IsNoFault}
use Rattle.office_book.specs.Serving.{certain, Serves}
use Rattle.office_book.specs.Viewed.{reply_shown}
use Rattle.office_views.specs.Answers.{IsShown, IsView}
use Rattle.office_views.specs.declared.shown.Shown.{Shown as View}
use Rattle.office_views.specs.declared.shown.Shown.TheVariants.{Text, NoSuch as NoneOf}

-- what is shown of the history is a reply that leaves it unchanged
answers_view : (history : List Batch) (request : Request) (reply : Reply) → IsView request → shown history request ≡ Some reply
    → Answers history request reply history
answers_view history (Sync batch) reply view is = absurd view
answers_view history (Due unit day) reply view is = (is, refl)
answers_view history (Tags unit day) reply view is = (is, refl)
answers_view history (Delays unit day) reply view is = (is, refl)
answers_view history (Route unit day stops) reply view is = (is, refl)
answers_view history (Percent unit quarter day) reply view is = (is, refl)
answers_view history (ReportView unit half day) reply view is = (is, refl)

-- the reply is what is shown, or that it ran out of memory for a text
pub serves_shown : (faulty : Type 0) (history : List Batch) (request : Request) (next : State) → IsView request → next ≡ certain history
    → (result : Result View AllocError) (reply : Reply) → reply ≡ reply_shown result → IsShown result (shown history request)
    → Serves faulty history (request ∷ []) (reply ∷ []) next
serves_shown faulty history request next view stays (Ok (Text text)) reply is told =
    subst (λ (r : Reply). Serves faulty history (request ∷ []) (r ∷ []) next) (sym is)
    (history, answers_view history request (Shown text) view (told.1 ∙ ap (λ (r : Reply). Some r) (sym told.2)), stays)
serves_shown faulty history request next view stays (Ok (NoneOf what)) reply is told =
    subst (λ (r : Reply). Serves faulty history (request ∷ []) (r ∷ []) next) (sym is)
    (history, answers_view history request (NoSuch what) view (told.1 ∙ ap (λ (r : Reply). Some r) (sym told.2)), stays)
serves_shown faulty history request next view stays (Err e) reply is told =
    subst (λ (r : Reply). Serves faulty history (request ∷ []) (r ∷ []) next) (sym is)
    (inr (told.2.0, told.1 ∙ ap (λ (r : Reply). Some r) told.2.1), stays)

-- the reply to a view names no rule
pub shown_ruled : {E : Type 0} (result : Result View E) (reply : Reply) → reply ≡ reply_shown result → HasRule reply
shown_ruled (Ok (Text text)) reply is = subst HasRule (sym is) tt
shown_ruled (Ok (NoneOf what)) reply is = subst HasRule (sym is) tt
shown_ruled (Err e) reply is = subst HasRule (sym is) tt

-- the reply to a view is no disk error
pub shown_faultless : {E : Type 0} (result : Result View E) (reply : Reply) → reply ≡ reply_shown result → IsNoFault reply
shown_faultless (Ok (Text text)) reply is = subst IsNoFault (sym is) (λ fault. cc)
shown_faultless (Ok (NoneOf what)) reply is = subst IsNoFault (sym is) (λ fault. cc)
shown_faultless (Err e) reply is = subst IsNoFault (sym is) (λ fault. cc)
