use Rattle.std.proofs.Common.{◌≡◌, ◌+◌, ◌-◌, ◌<◌, length, subst, arith}
use Rattle.method21_reading.specs.Leaps.{LeapsFrom}
use Rattle.method21_reading.proofs.LeapLemmas.{leaps_more}
use Rattle.method21_reading.proofs.leaps.leaps_of.Goals as goal

pub loop-at-preserved : goal.loop-at-preserved
loop-at-preserved c =
    let facts = c.args.facts.now in
    let l = c.loop-at in
    let back : l.at ≡ l.at - 1 + 1 = omega (arith, c.loop-at-test.true) in
    let short : l.at - 1 < length facts = omega (arith, c.loop-at-test.true, l.invariant.within) in
    record {
      within = omega (arith, l.invariant.within);
      sound = leaps_more facts l.leaps.items (l.at - 1) c.leap_at.result short (subst (LeapsFrom facts l.leaps.items) back l.invariant.sound)
          c.leap_at.ensures.value;
    }
