-- The parts of a view's path are the values of its route's parameters.
use Rattle.std.specs.Prelude.{◌≡◌, ℕ, List, [], ◌∷◌, codes, Some}
use Rattle.matchit.specs.Router.{RouteOf}
use Rattle.matchit.specs.Seek.{first}
use Rattle.matchit.specs.Params.{walk}
use Rattle.handheld_http.specs.declared.routes.Page.{Page}
use Rattle.handheld_http.specs.declared.routes.Page.TheVariants.{Due, Tags, Delays, Route, Percent, Report}
use Rattle.handheld_http.specs.declared.routes.Resource.{Resource}
use Rattle.handheld_http.specs.declared.routes.Resource.TheVariants.{View}
use Rattle.handheld_http.specs.Requests.{part, second_part, third_part, parts_of}
use Rattle.handheld_http.specs.Routes.{office_routes}

-- the parts of a view, each with its name in the route
abbrev pub named_parts : Page → List ℕ → List (List ℕ × List ℕ)
named_parts Due parts = (codes "unit", part parts) ∷ (codes "day", second_part parts) ∷ []
named_parts Tags parts = (codes "unit", part parts) ∷ (codes "day", second_part parts) ∷ []
named_parts Delays parts = (codes "unit", part parts) ∷ (codes "day", second_part parts) ∷ []
named_parts Route parts = (codes "unit", part parts) ∷ (codes "day", second_part parts) ∷ (codes "stops", third_part parts) ∷ []
named_parts Percent parts = (codes "unit", part parts) ∷ (codes "quarter", second_part parts) ∷ (codes "day", third_part parts) ∷ []
named_parts Report parts = (codes "unit", part parts) ∷ (codes "half", second_part parts) ∷ (codes "day", third_part parts) ∷ []

-- the parameters of a route have the parts of the path as values
abbrev pub HasParts : List ℕ → RouteOf Resource → Type 0
HasParts path route =
    (page : Page) → route.value ≡ View page → walk route.pattern route.text path route.names 0 0 ≡ named_parts page (parts_of path)

-- this holds for each route that is found
abbrev pub PartsAreParameters : Type 0
PartsAreParameters = (path : List ℕ) (route : RouteOf Resource) → first office_routes path ≡ Some route → HasParts path route
