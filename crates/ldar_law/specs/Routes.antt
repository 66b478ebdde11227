-- Routes to the components at which something must be done.
use Rattle.std.specs.Prelude.{ℕ, Bool, ◌&&◌, ◌||◌, nat_eq, nat_lt, is_none, if◌then◌else◌, List, [], ◌∷◌, ◌++◌, filter, map}
use Rattle.std.specs.List.{list_any, fold}
use Rattle.list_words.specs.Order.{in_order}
use Rattle.list_words.specs.Parts.{cut}
use Rattle.ldar_law.specs.declared.duty.Duty.{Duty}
use Rattle.ldar_law.specs.declared.route.Route.{Route}

-- the duty has the earlier due day, or the same due day and the lower component number
abbrev pub is_more_urgent : Duty → Duty → Bool
is_more_urgent a b = nat_lt a.due b.due || (nat_eq a.due b.due && nat_lt a.component b.component)

-- the stops with this component at the end, unless it is among them already
abbrev pub with_stop : List ℕ → Duty → List ℕ
with_stop stops duty = if list_any (λ stop. nat_eq stop duty.component) stops then stops else stops ++ duty.component ∷ []

-- the components with a duty that is not done, each once, ordered by their earliest due day and then by number
abbrev pub stops_in_order : List Duty → List ℕ
stops_in_order duties = fold with_stop [] (in_order is_more_urgent (filter (λ d. is_none d.met) duties))

-- the components with a duty that is not done, in that order, in routes of `stops` stops each, the last one possibly shorter
unfoldable pub routes_of : List Duty → ℕ → List Route
routes_of duties stops = map (λ part. record { stops = part }) (cut stops (stops_in_order duties))
