use Rattle.std.proofs.Common.{◌+◌, ◌++◌, sym, subst, ap, ◌∙◌, arith}
use Rattle.std.specs.List.{filter_map}
use Rattle.std.specs.Option.{option_to_list}
use Rattle.list_words.specs.Ranges.{until}
use Rattle.list_words.proofs.RangeLemmas.{filter_map_until, filter_map_done}
use Rattle.monitor_calendar.specs.Causes as causes
use Rattle.monitor_calendar.specs.Walks.{IsOn, IsAt}
use Rattle.monitor_calendar.proofs.Ranges.{listed_in}
use Rattle.monitor_calendar.proofs.WalkLemmas.{on_to}
use Rattle.monitor_calendar.proofs.asked.Asked.put_walked.Goals as goal

pub loop-number-init : goal.loop-number-init
loop-number-init c =
    let asked = c.args.self.now in
    let covered = c.requires.covered in
    let walk = c.begun-walk.result in
    record {
      near = (omega arith, omega arith);
      stands = c.standing_in-under.ensures.value;
      walk = subst (IsOn walk.past asked.events.now walk.place) c.of-days.ensures.value c.begun-walk.ensures.value;
      monthly = listed_in (causes.monthly asked) c.args.duties.now.items c.args.months.now.low _ _ _ covered.end covered.first.monthly;
      quarterly = listed_in (causes.quarterly asked) c.args.quarterlies.now.items c.args.months.now.low _ _ _ covered.end covered.first.quarterly;
    }

pub walked_to-walk-requires-clause-on : goal.walked_to-walk-requires-clause-on
walked_to-walk-requires-clause-on c =
    let l = c.loop-number in
    subst (IsOn l.walk.past c.args.self.now.events.now l.walk.place) (sym c.moved_to-days.ensures.value) l.invariant.walk

pub loop-number-preserved : goal.loop-number-preserved
loop-number-preserved c =
    let l = c.loop-number in
    let asked = c.args.self.now in
    let monthly = causes.monthly asked in
    let quarterly = causes.quarterly asked in
    let end = c.args.months.now.end in
    let month = c.moved_to-days.ensures.value in
    let walk = c.walked_to-walk.result in
    let at : IsAt walk.past asked.events.now walk.place l.number =
    subst (IsAt walk.past asked.events.now walk.place) month c.walked_to-walk.ensures.value in
    record {
      near = (omega arith, omega arith);
      stands = c.standing_moved_to-under.ensures.value;
      walk = on_to walk.past asked.events.now walk.place l.number (l.number + 1) at.on (omega arith);
      monthly =
          ap (λ ds. ds ++ filter_map monthly (until (l.number + 1) end)) (c.in_ok-put.ensures.put
          ∙ ap (λ o. l.duties.items ++ option_to_list o) (c.monthly_of_valve.ensures.value ∙ ap monthly month))
          ∙ filter_map_until monthly l.duties.items l.number end c.loop-number-test.true ∙ l.invariant.monthly;
      quarterly =
          ap (λ ds. ds ++ filter_map quarterly (until (l.number + 1) end)) (c.in_ok-put-2.ensures.put
          ∙ ap (λ o. l.quarterlies.items ++ option_to_list o) (c.quarterly.ensures.value ∙ ap quarterly month))
          ∙ filter_map_until quarterly l.quarterlies.items l.number end c.loop-number-test.true ∙ l.invariant.quarterly;
    }

pub returns : goal.returns
returns c =
    let l = c.loop-number in
    let asked = c.args.self.now in
    let end = c.args.months.now.end in
    record {
      monthly = filter_map_done (causes.monthly asked) l.duties.items _ l.number end (omega (arith, c.loop-number-test.false)) l.invariant.monthly;
      quarterly = filter_map_done (causes.quarterly asked) l.quarterlies.items _ l.number end (omega (arith, c.loop-number-test.false)) l.invariant.quarterly;
    }

pub returns-then-months-clause-monthly : goal.returns-then-months-clause-monthly
returns-then-months-clause-monthly c =
    let covered = c.requires.covered in
    let low = c.args.months.now.low in
    let end = c.args.months.now.end in
    let f = causes.monthly c.args.self.now in
    let done = c.args.duties.now.items in
    filter_map_done f done _ low end c.if-months.true (listed_in f done low end _ _ covered.end covered.first.monthly)

pub returns-then-months-clause-quarterly : goal.returns-then-months-clause-quarterly
returns-then-months-clause-quarterly c =
    let covered = c.requires.covered in
    let low = c.args.months.now.low in
    let end = c.args.months.now.end in
    let f = causes.quarterly c.args.self.now in
    let done = c.args.quarterlies.now.items in
    filter_map_done f done _ low end c.if-months.true (listed_in f done low end _ _ covered.end covered.first.quarterly)
