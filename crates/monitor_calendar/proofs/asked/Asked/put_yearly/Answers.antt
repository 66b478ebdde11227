use Rattle.std.proofs.Common.{◌≡◌, ◌+◌, ◌/◌, ◌++◌, sym, ap, ◌∙◌, arith}
use Rattle.std.specs.List.{filter_map}
use Rattle.std.specs.Option.{option_to_list}
use Rattle.list_words.specs.Ranges.{until}
use Rattle.list_words.proofs.RangeLemmas.{filter_map_until, filter_map_done}
use Rattle.ldar_days.specs.Calendar.{month_of}
use Rattle.monitor_calendar.specs.Causes as causes
use Rattle.monitor_calendar.proofs.Concerning.{left_so, never_yearly}
use Rattle.monitor_calendar.proofs.asked.Asked.put_yearly.Goals as goal

pub loop-year-init : goal.loop-year-init
loop-year-init c =
    let asked = c.args.self.now in
    let before = c.args.duties.now.items in
    let at : c.year-end.result ≡ month_of asked.day / 12 = cc in
    let end : c.year-end.result + 1 ≡ month_of asked.day / 12 + 1 = omega (arith, at) in
    ap (λ e. before ++ filter_map (causes.yearly asked) (until c.first_year-year.result e)) end ∙ ap (λ ds. before ++ ds) c.first_year-year.ensures.value

pub loop-year-preserved : goal.loop-year-preserved
loop-year-preserved c =
    let l = c.loop-year in
    let f = causes.yearly c.args.self.now in
    ap (λ ds. ds ++ filter_map f (until (l.year + 1) (c.year-end.result + 1))) (c.in_ok-put.ensures.put
    ∙ ap (λ o. l.duties.items ++ option_to_list o) (c.yearly.ensures.value))
    ∙ filter_map_until f l.duties.items l.year (c.year-end.result + 1) c.loop-year-test.true ∙ l.invariant

pub returns : goal.returns
returns c =
    let l = c.loop-year in
    record {
      put = filter_map_done (causes.yearly c.args.self.now) l.duties.items _ l.year (c.year-end.result + 1) (omega
          (arith, c.loop-year-test.false)) l.invariant;
    }

pub returns-then-not-has_yearly_class : goal.returns-then-not-has_yearly_class
returns-then-not-has_yearly_class c =
    let asked = c.args.self.now in
    record {
      put = sym (left_so (causes.yearly asked) (causes.years_after asked) c.args.duties.now.items
          (never_yearly asked (sym c.has_yearly_class.ensures.value ∙ c.if-not-has_yearly_class.true)));
    }
