use Rattle.std.proofs.Common.{◌≡◌, ◌≢◌, ◌+◌, ◌-◌, ◌<◌, false, nat_eq, length, sym, ap, subst, ◌∙◌, arith}
use Rattle.std.proofs.lemmas.Bool.{eqb-true, eqb-false}
use Rattle.ldar_days.specs.Calendar.{month_of}
use Rattle.leak_tags.specs.declared.clean_months.CleanMonths.{CleanMonths}
use Rattle.leak_tags.specs.CleanPairs.{TellsLast, is_pair}
use Rattle.leak_tags.proofs.CleanLemmas.{tells_last, tells_more, moved, moves, pair_found, pair_in_front, pair_nowhere, pair_of_no_events}
use Rattle.leak_tags.proofs.clean_months.last_clean_pair.Goals.{else-more-months-via-then-more-months+else-is_pair, else-more-months-via-else-more-months}
use Rattle.leak_tags.proofs.clean_months.last_clean_pair.Goals as goal

pub returns-then-is_empty : goal.returns-then-is_empty
returns-then-is_empty c =
    let events = c.args.events.now in
    record { value = pair_of_no_events events (eqb-true (length events) 0 (sym c.is_empty.ensures ∙ c.if-is_empty.true)) }

pub loop-place-init : goal.loop-place-init
loop-place-init c =
    let events = c.args.events.now in
    let place = length events - 1 in
    let some : length events ≢ 0 = eqb-false (length events) 0 (sym c.is_empty.ensures ∙ c.if-is_empty.false) in
    subst (λ (m : CleanMonths). TellsLast m events place) (sym c.of-months.ensures.value)
    (tells_last events place c.index-events-place.result (omega (arith, some)) c.index-events-place.is c.requires.rising (omega (arith, some)))

pub loop-place-preserved : goal.loop-place-preserved
loop-place-preserved c =
    let events = c.args.events.now in
    let place = c.loop-place.place - 1 in
    let e = c.index-events-place-in-loop-place.result in
    let months = c.loop-place.months in
    let next : place + 1 ≡ c.loop-place.place = omega (arith, c.loop-place-test.true) in
    let told : TellsLast months events (place + 1) = subst (TellsLast months events) (sym next) c.loop-place.invariant in
    let within : place < length events = omega (arith, next, c.loop-place.invariant.within) in
    let no_pair : nat_eq months.month (month_of e.key.day) ≡ false → is_pair months ≡ false =
    elim c.else-more-months.branch [
      | else-more-months-via-then-more-months+else-is_pair w ↦ λ past. sym w.is_pair.ensures.value ∙ w.if-is_pair.false
      | else-more-months-via-else-more-months w ↦ λ past.
          absurd (moved months e past (sym (ap (λ (m : CleanMonths). m.month) c.with-more.ensures.value) ∙ omega (arith, w.if-more-months.false)))
    ] in
    subst (λ (m : CleanMonths). TellsLast m events place) (sym c.with-more.ensures.value)
    (tells_more events place e within c.index-events-place-in-loop-place.is c.requires.rising months told no_pair)

pub returns-then-is_pair : goal.returns-then-is_pair
returns-then-is_pair c =
    let events = c.args.events.now in
    let place = c.loop-place.place - 1 in
    let e = c.index-events-place-in-loop-place.result in
    let months = c.loop-place.months in
    let next : place + 1 ≡ c.loop-place.place = omega (arith, c.loop-place-test.true) in
    let told : TellsLast months events (place + 1) = subst (TellsLast months events) (sym next) c.loop-place.invariant in
    let within : place < length events = omega (arith, next, c.loop-place.invariant.within) in
    let before : month_of e.key.day < months.month =
    moves events place e within c.index-events-place-in-loop-place.is c.requires.rising months told
    (λ same. absurd (omega (arith, c.if-more-months.true, ap (λ (m : CleanMonths). m.month) c.with-more.ensures.value, same))) in
    record {
      value = pair_found events place e within c.index-events-place-in-loop-place.is c.requires.rising months told before
          (sym c.is_pair.ensures.value ∙ c.if-is_pair.true);
    }

pub returns-then-is_pair-2 : goal.returns-then-is_pair-2
returns-then-is_pair-2 c =
    let events = c.args.events.now in
    let months = c.loop-place.months in
    let told : TellsLast months events 0 = subst (TellsLast months events) (omega (arith, c.loop-place-test.false)) c.loop-place.invariant in
    record { value = pair_in_front events months told (sym c.is_pair-2.ensures.value ∙ c.if-is_pair-2.true) }

pub returns-else-is_pair-2 : goal.returns-else-is_pair-2
returns-else-is_pair-2 c =
    let events = c.args.events.now in
    let months = c.loop-place.months in
    let told : TellsLast months events 0 = subst (TellsLast months events) (omega (arith, c.loop-place-test.false)) c.loop-place.invariant in
    record { value = pair_nowhere events months told (sym c.is_pair-2.ensures.value ∙ c.if-is_pair-2.false) }
