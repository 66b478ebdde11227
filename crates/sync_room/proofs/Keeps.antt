-- A call that was made is kept.
use Rattle.std.proofs.Common.{◌≡◌, ℕ, ◌+◌, List, [], ◌∷◌, ◌++◌, length, refl, ap, sym, ◌∙◌, subst, Option, Some}
use Rattle.std.proofs.lemmas.List.{append-nil}
use Rattle.std.proofs.lemmas.List.Elements.{Contains-append_left}
use Rattle.std.specs.List.{Contains}
use Rattle.atomic_table.specs.Table.{Me, Allows}
use Rattle.ldar_law.specs.declared.reply.Reply.{Reply}
use Rattle.ldar_law.specs.declared.request.Request.{Request}
use Rattle.ldar_law.specs.Machine.{Moment}
use Rattle.sync_room.specs.Turns.{Replies}
use Rattle.sync_room.specs.Calls.{RoomCall, IsLegal, calls_by, moment_after}
use Rattle.sync_room.specs.Rule.{SeatView, works, IsRoom, FitsRoom, SeatsDiffer, IsServed, MayFollow, IsCall, HasTicket, tickets_of, IsStage, after_keep}
use Rattle.sync_room.specs.Rule.{KeepsCallServed}
use Rattle.sync_room.proofs.Histories.{knows_none, legal_more}
use Rattle.sync_room.proofs.Views.{named_nowhere}
use Rattle.sync_room.proofs.Looks.{allowed}

-- the view that keeps a call fits
fits_keep : (start : Moment) (log : List RoomCall) (drawn ticket : ℕ) (v : SeatView) (call : RoomCall) → v.stage ≡ works ticket
    → MayFollow v.start v v.seen call → FitsRoom start log drawn v
    → FitsRoom start log drawn (after_keep v ticket call)
fits_keep start log drawn ticket v call is next fits =
    let served : IsServed start log v ticket = subst (IsStage start log v) is fits.stage in
    let legal : IsLegal start (log ++ call ∷ []) =
    subst (λ from. IsLegal from (log ++ call ∷ [])) served.of_room (subst (λ seen. IsLegal v.start (seen ++ call ∷ [])) served.whole next.legal) in
    record {
      knows = fits.knows;
      of_joined = knows_none log [] (log, refl);
      own = fits.own;
      apart = λ name among nowhere. named_nowhere name nowhere;
      below = λ name among. fits.below name (Contains-append_left v.names v.joined_names name (subst (λ ns. Contains ns name) (append-nil v.names) among));
      counted = fits.counted;
      ticket = λ t has. fits.ticket t (subst (λ g. HasTicket g t) (sym is) has);
      stage = (record { of_room = served.of_room; next = served.next; whole = served.whole }, record { own = next.own; legal = legal });
    }

-- the view that keeps a call differs from the others
differ_keep : (ticket : ℕ) (v u : SeatView) (call : RoomCall) → v.stage ≡ works ticket → SeatsDiffer v u → SeatsDiffer (after_keep v ticket call) u
differ_keep ticket v u call is differ = record {
  tickets = λ t mine theirs. differ.tickets t (subst (λ g. HasTicket g t) (sym is) mine) theirs;
  names = λ name mine theirs. differ.names name (Contains-append_left v.names v.joined_names name (subst (λ ns. Contains ns name) (append-nil v.names) mine)) theirs;
}

-- what a book answered is a call of the seat's own caller, which may come next in the history
pub made_call : (request : Request) (reply : Reply) (name : ℕ) (after : Moment) (v : SeatView) → v.own ≡ Some name → IsLegal v.start v.seen
    → Replies (moment_after v.start v.seen) request reply after
    → (call : RoomCall) × IsCall request reply after v call
made_call request reply name after v own legal answers =
    let call : RoomCall = record { caller = name; number = length (calls_by name v.seen) + 1; turn = answers.turn; end = after } in
    (call, record { asked = answers.asked; answered = answers.answered; end = refl; next = record { own = own; legal = legal_more v.start v.seen call legal answers.is refl } })

module _ {B : Type 0} (moment_at : B → Moment) (is_durable : B → Type 0) (start : Moment) where
  -- a step that keeps a call keeps the rule
  pub keeps_call : (slots id ticket : ℕ) (request : Request) (reply : Reply) (after : Moment) (me : Me (Option B) SeatView) (call : RoomCall)
      → me.0.stage ≡ works ticket → IsCall request reply after me.0 call
      → Allows (IsRoom moment_at is_durable start) slots id me 1 (λ n. n) (KeepsCallServed request reply after me)
  keeps_call slots id ticket request reply after me call is made s room count at small =
      allowed moment_at is_durable start s room id me (after_keep me.0 ticket call) (KeepsCallServed request reply after me) at (fits_keep start room.log room.drawn ticket me.0 call is made.next (room.fits id me.0 at))
      (λ j u there apart. differ_keep ticket me.0 u call is (room.differ id j me.0 u at there (λ e. apart (sym e))))
      (λ has. tt) (ap tickets_of (sym is))
      (λ other its. let same : ticket ≡ other = cc (is, its) in record { call = call; is = made; new_is = ap (λ t. (after_keep me.0 t call, me.1)) same })

  -- the same, if the request, the reply and the moment were picked under other names
  pub keeps_answer : (slots id ticket name : ℕ) (request picked_request : Request) (reply picked_reply : Reply) (after picked_after : Moment) (me : Me (Option B) SeatView) → me.0.stage ≡ works ticket → me.0.own ≡ Some name
      → IsLegal me.0.start me.0.seen → Replies (moment_after me.0.start me.0.seen) request reply after → picked_request ≡ request → picked_reply ≡ reply
      → picked_after ≡ after
      → Allows (IsRoom moment_at is_durable start) slots id me 1 (λ n. n) (KeepsCallServed picked_request picked_reply picked_after me)
  keeps_answer slots id ticket name request picked_request reply picked_reply after picked_after me is own legal answers same_request same_reply same_after =
      let made = made_call request reply name after me.0 own legal answers in
      let is_call : IsCall picked_request picked_reply picked_after me.0 made.0 = record {
        asked = made.1.asked ∙ sym same_request;
        answered = made.1.answered ∙ sym same_reply;
        end = made.1.end ∙ sym same_after;
        next = made.1.next;
      } in
      keeps_call slots id ticket picked_request picked_reply picked_after me made.0 is is_call
