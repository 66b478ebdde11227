use Rattle.std.proofs.Common.{◌+◌, ◌++◌, ap, ◌∙◌, arith}
use Rattle.std.specs.List.{filter_map}
use Rattle.std.specs.Option.{option_to_list}
use Rattle.list_words.specs.Ranges.{until}
use Rattle.list_words.proofs.RangeLemmas.{filter_map_until, filter_map_done}
use Rattle.monitor_calendar.specs.Causes as causes
use Rattle.monitor_calendar.proofs.Ranges.{listed_in}
use Rattle.monitor_calendar.proofs.asked.Asked.put_monthly.Goals as goal

pub loop-number-init : goal.loop-number-init
loop-number-init c =
    let asked = c.args.self.now in
    let covered = c.requires.covered in
    record {
      near = (omega arith, omega arith);
      stands = c.standing_in-under.ensures.value;
      done = listed_in (causes.monthly asked) c.args.duties.now.items c.args.months.now.low _ _ _ covered.end covered.first.monthly;
    }

pub loop-number-preserved : goal.loop-number-preserved
loop-number-preserved c =
    let l = c.loop-number in
    let f = causes.monthly c.args.self.now in
    let end = c.args.months.now.end in
    record {
      near = (omega arith, omega arith);
      stands = c.standing_moved_to-under.ensures.value;
      done =
          ap (λ ds. ds ++ filter_map f (until (l.number + 1) end)) (c.in_ok-put.ensures.put
          ∙ ap (λ o. l.duties.items ++ option_to_list o) (c.monthly_of_other.ensures.value ∙ ap f c.moved_to-days.ensures.value))
          ∙ filter_map_until f l.duties.items l.number end c.loop-number-test.true ∙ l.invariant.done;
    }

pub returns : goal.returns
returns c =
    let l = c.loop-number in
    record {
      put = filter_map_done (causes.monthly c.args.self.now) l.duties.items _ l.number c.args.months.now.end (omega
          (arith, c.loop-number-test.false)) l.invariant.done;
    }

pub returns-then-months : goal.returns-then-months
returns-then-months c =
    let covered = c.requires.covered in
    let low = c.args.months.now.low in
    let end = c.args.months.now.end in
    let f = causes.monthly c.args.self.now in
    let done = c.args.duties.now.items in
    record { put = filter_map_done f done _ low end c.if-months.true (listed_in f done low end _ _ covered.end covered.first.monthly) }
