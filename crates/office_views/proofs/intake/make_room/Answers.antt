use Rattle.std.proofs.Common.{length, ap, arith, length-append}
use Rattle.fact_store.specs.Coming.{Coming}
use Rattle.office_views.proofs.intake.make_room.Goals as goal

pub keep_room-requires : goal.keep_room-requires
keep_room-requires c =
    let store = c.args.store.now in
    record {
      within = omega (
        arith,
        c.room-before.ensures.value,
        ap (λ (k : Coming). length k.spare) c.in_ok-reserve_more.ensures.ok,
        length-append store.spare c.args.facts.now,
      );
    }

pub keep_room-requires-2 : goal.keep_room-requires-2
keep_room-requires-2 c =
    let store = c.args.store.now in
    record {
      within = omega (
        arith,
        c.room-before.ensures.value,
        ap (λ (k : Coming). length k.spare) c.in_ok-reserve_more.ensures.ok,
        length-append store.spare c.args.facts.now,
      );
    }
