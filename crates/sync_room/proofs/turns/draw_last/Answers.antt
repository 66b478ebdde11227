use Rattle.std.proofs.Common.{◌∙◌}
use Rattle.sync_room.proofs.Lasts.{between_again, out_again}
use Rattle.sync_room.proofs.turns.draw_last.Goals as goal

-- fewer tickets are served than drawn
pub returns-then-served-drawn-clause-out : goal.returns-then-served-drawn-clause-out
returns-then-served-drawn-clause-out g c =
    out_again c.args.seat.now.me.0 c.loop-served.seat.me c.draw-drawn.new.seat.me c.look-served-in-loop-served.new.seat.me _ _ _ c.loop-served.invariant.1
    c.draw-drawn.ensures.draws c.draw-drawn.ensures.counted c.if-drawn-served.false c.look-served-in-loop-served.ensures.looks c.if-served-drawn.true

pub loop-served-preserved : goal.loop-served-preserved
loop-served-preserved g c = (
  c.look-served-in-loop-served.ensures.own.0 ∙ (c.draw-drawn.ensures.own.0 ∙ c.loop-served.invariant.0),
  between_again c.args.seat.now.me.0 c.loop-served.seat.me c.draw-drawn.new.seat.me c.look-served-in-loop-served.new.seat.me _ _ _ c.loop-served.invariant.1
      c.draw-drawn.ensures.draws c.draw-drawn.ensures.counted c.if-drawn-served.false c.look-served-in-loop-served.ensures.looks,
)
