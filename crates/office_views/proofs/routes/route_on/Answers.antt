use Rattle.std.proofs.Common.{◌≡◌, IfOk, ◌∙◌, subst}
use Rattle.ldar_law.specs.Texts.{route_text}
use Rattle.office_views.proofs.routes.route_on.Goals as goal

pub returns : goal.returns
returns c = record {
  value = subst (λ found. IfOk c.routes_text.result (λ text. text ≡ route_text c.args.unit c.args.source.now.day c.args.stops found))
      (c.deref.ensures.value ∙ c.in_ok-found.ensures.value) c.routes_text.ensures.value;
}
