-- What a path names: the office's routes, found as `matchit` finds them.
use Rattle.std.specs.Prelude.{ℕ, List, [], codes, Option, option_map, Result, Ok, Err}
use Rattle.matchit.specs.Route.{Scan, parse_route}
use Rattle.matchit.specs.Rows.{RowsOf}
use Rattle.matchit.specs.Router.{RouteOf, route_from}
use Rattle.matchit.specs.Order.{placed}
use Rattle.matchit.specs.Seek.{first}
use Rattle.matchit.specs.declared.error.InsertError.{InsertError}
use Rattle.handheld_http.specs.declared.routes.Page.TheVariants.{Due, Tags, Delays, Route, Percent, Report}
use Rattle.handheld_http.specs.declared.routes.Resource.{Resource}
use Rattle.handheld_http.specs.declared.routes.Resource.TheVariants.{Sync, View}

abbrev pub Routes : Type 0
Routes = RowsOf (RouteOf Resource)

-- the routes with one more, if its text is a route
abbrev pub with_read : Result Scan InsertError → Resource → Routes → Routes
with_read (Ok read) resource routes = placed (read.pattern, route_from read resource) routes
with_read (Err e) resource routes = routes

unfoldable pub with_route : List ℕ → Resource → Routes → Routes
with_route text resource routes = with_read (parse_route text) resource routes

-- the path for batches, and the six views
abbrev pub office_routes : Routes
office_routes =
    with_route (codes "/report/{unit}/{half}/{day}") (View Report)
    (with_route (codes "/percent/{unit}/{quarter}/{day}") (View Percent)
    (with_route (codes "/route/{unit}/{day}/{stops}") (View Route)
    (with_route (codes "/delays/{unit}/{day}") (View Delays)
    (with_route (codes "/tags/{unit}/{day}") (View Tags)
    (with_route (codes "/due/{unit}/{day}") (View Due)
    (with_route (codes "/sync") Sync []))))))

-- what a path names
abbrev pub resource_of : List ℕ → Option Resource
resource_of path = option_map (λ route. route.value) (first office_routes path)
