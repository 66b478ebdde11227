use Rattle.std.proofs.Common.{◌<◌, arith}
use Rattle.ldar_law.proofs.ClassLemmas.{entered_in_front, entered_between, day_between, front_entered}
use Rattle.ldar_law.proofs.class_in_force.ClassInForce.after.Goals as goal

pub returns : goal.returns
returns c =
    let a = c.args in
    let classes = a.classes.now in
    let count = a.count in
    record {
      within = λ day in_range entered.
          day_between classes count c.day_before.result c.day_at.result day c.requires.within entered c.day_before.ensures.none
          (c.day_before.ensures.value day in_range) (c.day_at.ensures.value day in_range);
      value = record {
        class = λ day low high.
            let in_range : day < 65_536 = omega (arith, high, c.day_at.ensures.bound) in
            c.class_after.ensures.value day
            (entered_between classes count c.day_before.result c.day_at.result day (entered_in_front day classes c.requires.ordered)
            (c.day_before.ensures.value day in_range) (c.day_at.ensures.value day in_range) low high);
        within = c.requires.within;
        front = λ day late in_range.
            front_entered classes count c.day_at.result day (entered_in_front day classes c.requires.ordered) (c.day_at.ensures.value day in_range) late;
      };
    }
