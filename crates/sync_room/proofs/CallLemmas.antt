-- What a call that was kept and a look come to: the call of the turn, and the end of a room.
use Rattle.std.proofs.Common.{◌≡◌, ℕ, [], refl, ap, ◌∙◌, subst}
use Rattle.atomic_table.specs.Seated.{TableId}
use Rattle.atomic_table.specs.Table.{Me}
use Rattle.ldar_law.specs.declared.reply.Reply.{Reply}
use Rattle.ldar_law.specs.declared.request.Request.{Request}
use Rattle.ldar_law.specs.Machine.{Moment}
use Rattle.sync_room.specs.Calls.{RoomCall, IsLegal, moment_after}
use Rattle.sync_room.specs.Passes.{PassState, EndsAtMoment, pass_at}
use Rattle.sync_room.specs.Rule.{SeatView, keeps, IsCall, KeepsCall, DrawsLast, MayFollow, after_keep, after_advance}

-- the call that was kept after the book was taken is the last of the history after the advance
pub call_made : {B : Type 0} (request : Request) (reply : Reply) (after : Moment) (ticket : ℕ) (old taken kept back new : Me B SeatView)
    → taken.0 ≡ old.0 → (made : KeepsCall request reply after ticket taken kept) → back.0 ≡ kept.0
    → ((call : RoomCall) → back.0.stage ≡ keeps ticket call → new ≡ (after_advance back.0 call, []))
    → (call : RoomCall) × IsCall request reply call.end old.0 call × (new ≡ (after_advance old.0 call, []))
call_made request reply after ticket old taken kept back new same made put advances =
    let call : RoomCall = made.call in
    let view : back.0 ≡ after_keep taken.0 ticket call = put ∙ ap (λ m. m.0) made.new_is in
    let stage : back.0.stage ≡ keeps ticket call = ap (λ v. v.stage) view in
    let from_back : new ≡ (after_advance back.0 call, []) = advances call stage in
    let from_taken : new ≡ (after_advance taken.0 call, []) = subst (λ (v : SeatView). new ≡ (after_advance v call, [])) view from_back in (
      call,
      record { asked = made.is.asked; answered = made.is.answered; end = refl; next = subst (λ (v : SeatView). MayFollow v.start v v.seen call) same made.is.next },
      subst (λ (v : SeatView). new ≡ (after_advance v call, [])) same from_taken,
    )

-- the moment after what was seen at last ends a legal history that begins with what the pass has seen
pub ends_last : (pass : PassState) (table : TableId) (v p : SeatView) (end : Moment) → pass_at table v ≡ pass → DrawsLast v p
    → end ≡ moment_after p.start p.seen → EndsAtMoment pass end
ends_last pass table v p end is_pass last is =
    let ended : EndsAtMoment (pass_at table v) end = record {
      log = p.seen;
      begins = last.begins;
      legal = subst (λ from. IsLegal from p.seen) last.start last.legal;
      served = last.served;
      is = is ∙ ap (λ (s : Moment). moment_after s p.seen) last.start;
    } in
    subst (λ (o : PassState). EndsAtMoment o end) is_pass ended
