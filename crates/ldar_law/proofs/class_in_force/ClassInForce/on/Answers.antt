use Rattle.std.proofs.Common.{arith}
use Rattle.ldar_law.proofs.class_in_force.ClassInForce.on.Goals as goal

pub returns : goal.returns
returns c =
    let within = c.after.ensures.within c.args.day (omega arith) c.entered_by.ensures.value in
    record {
      today = c.after.ensures.value.class c.args.day within.0 within.1;
      within = within;
      value = c.after.ensures.value;
    }
