use Rattle.std.proofs.Common.{◌<◌, length, get_or, arith}
use Rattle.std.proofs.lemmas.List.{get_or_default}
use Rattle.fact_store.proofs.ListLemmas.{grows_on, roomy_all, roomy_more}
use Rattle.fact_store.proofs.lists.make_rooms_for.Goals as goal

pub loop-at-preserved : goal.loop-at-preserved
loop-at-preserved g c =
    let old = c.loop-at.lists.items in
    let new = c.make_room.new.lists.items in
    let counts = c.args.counts.now in
    let at = c.loop-at.at in
    let within : at < length counts = omega arith in
    record {
      grows = grows_on c.args.lists.now.items old new c.loop-at.invariant.grows c.make_room.ensures.grows;
      roomy = roomy_more counts at (get_or counts at 0) old new within (get_or_default counts at 0 _ within) c.make_room.ensures.grows
          c.in_ok-make_room.ensures.roomy c.loop-at.invariant.roomy;
    }

pub returns-clause-roomy : goal.returns-clause-roomy
returns-clause-roomy g c =
    roomy_all c.args.counts.now c.loop-at.at c.loop-at.lists.items (omega arith) c.loop-at.invariant.roomy
