use Rattle.std.proofs.Common.{◌≡◌, codes, Some, refl, sym, ◌∙◌, subst}
use Rattle.std.specs.Cmp.Lexicographic.{bytes_decides}
use Rattle.matchit.proofs.OnLiterals.{matchit_on_literals}
use Rattle.handheld_http.specs.declared.routes.Resource.TheVariants.{Sync}
use Rattle.handheld_http.specs.Routes.{resource_of, with_route}
use Rattle.handheld_http.proofs.routes.resource_of.Goals as goal

sync_is_routed : Some Sync ≡ resource_of (codes "/sync")
unfolding matchit_on_literals with_route
sync_is_routed = refl

pub returns-then-eq : goal.returns-then-eq
returns-then-eq c =
    let is : c.args.path.now ≡ codes "/sync" = (bytes_decides c.args.path.now (codes "/sync")).0 (sym c.eq.ensures ∙ c.if-eq.true) in
    subst (λ path. Some Sync ≡ resource_of path) (sym is) sync_is_routed
