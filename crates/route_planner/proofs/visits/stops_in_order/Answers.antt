use Rattle.std.proofs.Common.{None, map, get_or, sym, ap, subst, ◌∙◌}
use Rattle.route_planner.specs.Visits.{Visit, visits_asked, visits_from}
use Rattle.route_planner.specs.Chains.{AreChained, Leads, Rises, on_day}
use Rattle.route_planner.specs.declared.chains.TheConstants.{DAYS}
use Rattle.route_planner.proofs.CoverLemmas.{least_stops}
use Rattle.route_planner.proofs.DayLemmas.{by_days}
use Rattle.route_planner.proofs.VisitLemmas.{stops_are}
use Rattle.route_planner.proofs.visits.stops_in_order.Goals as goal

pub stops_along-requires : goal.stops_along-requires
stops_along-requires c = record { rises = subst Rises (sym c.deref-3.ensures.value) c.in_ok-chains.ensures.value.rises }

pub returns : goal.returns
returns c =
    let days = c.in_ok-days.days.items in
    let chains = c.in_ok-chains.chains in
    let visits = visits_from 0 days in
    let chained : AreChained chains.first.items chains.next.items visits = subst
    (λ ds. AreChained chains.first.items chains.next.items (visits_from 0 ds)) c.deref.ensures.value c.in_ok-chains.ensures.value in
    record {
      value = c.in_ok-stops.ensures.value visits
          (λ day. subst (λ n. Leads n (get_or c.deref-2.result.now day None) (on_day day visits)) (sym c.deref-3.ensures.value)
          (subst (λ f. Leads chains.next.items (get_or f day None) (on_day day visits)) (sym c.deref-2.ensures.value) (chained.leads day)))
          ∙ ap (map (λ (v : Visit). v.component)) (sym (by_days DAYS 0 days chained.within))
          ∙ least_stops days (visits_asked c.args.duties.now) c.in_ok-days.ensures.value
          ∙ stops_are c.args.duties.now;
    }
