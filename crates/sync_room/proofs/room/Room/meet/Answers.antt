use Rattle.std.proofs.Common.{ap, ◌∙◌}
use Rattle.sync_room.proofs.Waits.{met_passes}
use Rattle.sync_room.proofs.room.Room.meet.Goals as goal

pub returns : goal.returns
returns g c =
    record {
      met = met_passes _ _ _ _ _ _ c.into_place-place.result.me.0 c.into_place.result.me.0 c.join.new.seat.me.0 c.look.new.seat.me.0 _ c.into_place-place.ensures.value c.into_place.ensures.value
          (c.look.ensures.own.0 ∙ c.join.ensures.own) (ap (λ m. m.0) c.join.ensures.joined) c.look.ensures.looks.looks c.of.ensures.value;
    }
