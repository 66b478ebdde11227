use Rattle.std.proofs.Common.{rules, ◌++◌, ◌∷◌, [], ap, ◌∙◌}
use Rattle.route_planner.specs.Visits.{route_through}
use Rattle.route_planner.proofs.RouteLemmas.{next_route}
use Rattle.route_planner.proofs.planner.routes_through.Goals as goal

pub loop-rest-preserved : goal.loop-rest-preserved
loop-rest-preserved c =
    let routes = c.loop-rest.routes.items in
    let through = c.new.ensures.value ∙ c.in_ok-from_slice.ensures.items in
    c.loop-rest.invariant
    ∙ next_route c.args.stops c.min.result c.loop-rest.rest.now c.split_at.result.0.now c.split_at.result.1.now routes c.push.new.self.items
    c.requires (search rules) c.min.ensures c.split_at.ensures.front c.split_at.ensures.back
    (c.in_ok-push.ensures.items ∙ ap (λ part. routes ++ route_through part ∷ []) through)
