use Rattle.std.proofs.Common.{ap, ◌∙◌, subst}
use Rattle.sync_room.specs.Rule.{SeesMore}
use Rattle.sync_room.proofs.Waits.{asked_pass}
use Rattle.sync_room.proofs.room.Room.ask.Goals as goal

pub returns-clause-asked : goal.returns-clause-asked
returns-clause-asked g c =
    let call = c.work-reply.ensures.call in
    let turn = c.await_turn.ensures.turn in
    let place = c.into_place-place in
    let follows = subst (λ m. SeesMore m.0 c.await_turn.new.seat.me.0) c.next_ticket-ticket.ensures.drawn turn.follows in
    asked_pass _ _ _ _ place.result.me.0 c.await_turn.new.seat.me.0 c.work-reply.new.seat.me.0 _ _ _ call.0 place.ensures.value
    (c.work-reply.ensures.own.0 ∙ (c.await_turn.ensures.own.0 ∙ c.next_ticket-ticket.ensures.own.0)) c.next_ticket-ticket.ensures.fresh turn.named follows
    call.1 (ap (λ m. m.0) call.2) c.of.ensures.value
