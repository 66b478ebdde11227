use Rattle.std.proofs.Common.{◌≡◌, ◌+◌, ◌++◌, ap, ◌∙◌, arith}
use Rattle.std.specs.List.{filter_map}
use Rattle.std.specs.Option.{option_to_list}
use Rattle.list_words.specs.Ranges.{until}
use Rattle.list_words.proofs.RangeLemmas.{filter_map_until, filter_map_done}
use Rattle.ldar_days.specs.Calendar.{week_of}
use Rattle.pump_seals.specs.Seals as spec
use Rattle.pump_seals.proofs.duties.put_weekly.Goals as goal

pub loop-week-init : goal.loop-week-init
loop-week-init c =
    let f = spec.weekly c.args.item.now c.args.switches.now c.args.looks.now c.args.day in
    let end : c.week_of-end.result + 1 ≡ week_of c.args.day + 1 = omega (arith, c.week_of-end.ensures.value) in
    ap (λ e. c.args.duties.now.items ++ filter_map f (until 1_983 e)) end

pub loop-week-preserved : goal.loop-week-preserved
loop-week-preserved c =
    let l = c.loop-week in
    let f = spec.weekly c.args.item.now c.args.switches.now c.args.looks.now c.args.day in
    ap (λ ds. ds ++ filter_map f (until (l.week + 1) (c.week_of-end.result + 1))) (c.in_ok-put.ensures.pushed
    ∙ ap (λ o. l.duties.items ++ option_to_list o) (c.weekly.ensures.value))
    ∙ filter_map_until f l.duties.items l.week (c.week_of-end.result + 1) c.loop-week-test.true ∙ l.invariant

pub returns : goal.returns
returns c =
    let l = c.loop-week in
    let f = spec.weekly c.args.item.now c.args.switches.now c.args.looks.now c.args.day in
    record { put = filter_map_done f l.duties.items _ l.week (c.week_of-end.result + 1) (omega (arith, c.loop-week-test.false)) l.invariant }
