use Rattle.std.proofs.Common.{◌≤◌, nat_le, List}
use Rattle.std.specs.List.{AllByRecursion}
use Rattle.fact_kinds.specs.Facts.{Entry, facts_of}
use Rattle.history_laws.specs.RulyLaws.{IsEachOnce, GivesRegister, RulyGivesRegister}
use Rattle.history_laws.proofs.MemberLemmas.{members_ascend}
use Rattle.history_laws.proofs.OnceLemmas.{each_is_entered_once, part_has_each_once}
use Rattle.history_laws.proofs.Origins.{days_are_in_bound, startups_are_in_bound, beginnings_are_in_bound}
use Rattle.history_laws.proofs.UpTo.{all_of_part}

-- laws for facts whose days have a bound, and in which each number is entered only once
register_of : (facts : List Entry) → AllByRecursion (λ e. e.0.day ≤ 46_751) facts → IsEachOnce facts → GivesRegister facts
register_of facts in_bound once = record {
  startups = λ number unit e. startups_are_in_bound facts number 46_751 unit in_bound e;
  beginnings = λ number item e. beginnings_are_in_bound facts number 46_751 item in_bound e;
  once = once;
  members = λ unit. members_ascend facts unit once;
}

pub ruly_gives_register : RulyGivesRegister
ruly_gives_register history ruly =
    let in_bound = days_are_in_bound history ruly in
    let once = each_is_entered_once history ruly in (
      register_of (facts_of history) in_bound once,
      λ t. register_of _ (all_of_part (λ e. e.0.day ≤ 46_751) (λ e. nat_le e.0.day t) (facts_of history) in_bound)
          (part_has_each_once (facts_of history) (λ e. nat_le e.0.day t) once),
    )
