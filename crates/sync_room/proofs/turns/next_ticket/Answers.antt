use Rattle.std.proofs.Common.{refl, ◌∙◌}
use Rattle.sync_room.proofs.Lasts.{count_self, count_again}
use Rattle.sync_room.proofs.turns.next_ticket.Goals as goal

pub loop-init : goal.loop-init
loop-init g c = (refl, refl, (c.args.seat.now.me.0.drawn, count_self c.args.seat.now.me c.requires.idle.1))

pub loop-preserved : goal.loop-preserved
loop-preserved g c =
    let so_far = c.loop.invariant in
    let own = c.draw.ensures.own in
    (own.0 ∙ so_far.0, own.1 ∙ so_far.1, (c.draw.result, count_again c.args.seat.now.me.0 c.loop.seat.me c.draw.new.seat.me _ _ _ so_far.2.1 c.draw.ensures.draws c.if-draw-next.false))
