-- The parts of a view's path are the values of its route's parameters.
use Rattle.std.proofs.Common.{◌≡◌, ℕ, ◌<◌, ◌⊎◌, inl, inr, true, List, [], ◌∷◌, ◌++◌, length, codes, sym, ap, subst, ◌∙◌, refl, arith}
use Rattle.matchit.proofs.OnLiterals.{matchit_on_literals}
use Rattle.matchit.specs.Router.{RouteOf}
use Rattle.matchit.specs.Params.{walk, part_of}
use Rattle.handheld_http.specs.declared.routes.Page.{Page}
use Rattle.handheld_http.specs.declared.routes.Page.TheVariants.{Due, Tags, Delays, Route, Percent, Report}
use Rattle.handheld_http.specs.declared.routes.Resource.{Resource}
use Rattle.handheld_http.specs.declared.routes.Resource.TheVariants.{Sync, View}
use Rattle.handheld_http.specs.Requests.{part, second_part, third_part, parts_of}
use Rattle.handheld_http.specs.RouteLaws as spec
use Rattle.handheld_http.specs.RouteLaws.{HasParts, named_parts}
use Rattle.handheld_http.specs.Routes.{office_routes, with_route}
use Rattle.handheld_http.proofs.FoundRoutes.{Takes, Stands, IsFound, found_route}
use Rattle.handheld_http.proofs.WalkLemmas.{are_bytes, two_parts, three_parts}

-- a view has only one page
same_page : (page other : Page) → View page ≡ View other → page ≡ other
same_page page other same = cc

-- a row with a word and two parameters
view_two : (w text : List ℕ) (one two : ℕ × ℕ) (page : Page) → are_bytes w ≡ true → length w < 90
    → ((q : List ℕ) → parts_of (w ++ q) ≡ q)
    → ((q : List ℕ) → named_parts page q ≡ (part_of text one.0 one.1, part q) ∷ (part_of text two.0 two.1, second_part q) ∷ [])
    → (path tokens : List ℕ) (route : RouteOf Resource) → w ++ (256 ∷ 47 ∷ 256 ∷ []) ≡ tokens
    → record { pattern = w ++ (256 ∷ 47 ∷ 256 ∷ []); text = text; names = one ∷ two ∷ []; value = View page } ≡ route
    → Takes tokens path → HasParts path route
view_two w text one two page bytes short parts named path tokens route row is takes =
    let taken = two_parts w text path one two bytes short (subst (λ (t : List ℕ). Takes t path) (sym row) takes) in
    let parts_are : parts_of path ≡ taken.q = ap parts_of taken.is ∙ parts taken.q in
    let walked : walk (w ++ (256 ∷ 47 ∷ 256 ∷ [])) text path (one ∷ two ∷ []) 0 0 ≡ named_parts page (parts_of path) =
    taken.walked ∙ sym (named taken.q) ∙ ap (named_parts page) (sym parts_are) in
    subst (λ (r : RouteOf Resource). HasParts path r) is
    (λ other same. walked ∙ ap (λ (p : Page). named_parts p (parts_of path)) (same_page page other same))

-- a row with a word and three parameters
view_three : (w text : List ℕ) (one two three : ℕ × ℕ) (page : Page) → are_bytes w ≡ true → length w < 90
    → ((q : List ℕ) → parts_of (w ++ q) ≡ q)
    → ((q : List ℕ) → named_parts page q
    ≡ (part_of text one.0 one.1, part q) ∷ (part_of text two.0 two.1, second_part q) ∷ (part_of text three.0 three.1, third_part q) ∷ [])
    → (path tokens : List ℕ) (route : RouteOf Resource) → w ++ (256 ∷ 47 ∷ 256 ∷ 47 ∷ 256 ∷ []) ≡ tokens
    → record { pattern = w ++ (256 ∷ 47 ∷ 256 ∷ 47 ∷ 256 ∷ []); text = text; names = one ∷ two ∷ three ∷ []; value = View page } ≡ route
    → Takes tokens path → HasParts path route
view_three w text one two three page bytes short parts named path tokens route row is takes =
    let taken = three_parts w text path one two three bytes short (subst (λ (t : List ℕ). Takes t path) (sym row) takes) in
    let parts_are : parts_of path ≡ taken.q = ap parts_of taken.is ∙ parts taken.q in
    let walked : walk (w ++ (256 ∷ 47 ∷ 256 ∷ 47 ∷ 256 ∷ [])) text path (one ∷ two ∷ three ∷ []) 0 0 ≡ named_parts page (parts_of path) =
    taken.walked ∙ sym (named taken.q) ∙ ap (named_parts page) (sym parts_are) in
    subst (λ (r : RouteOf Resource). HasParts path r) is
    (λ other same. walked ∙ ap (λ (p : Page). named_parts p (parts_of path)) (same_page page other same))

-- the row of the path for batches is no view
no_view : (path : List ℕ) (row route : RouteOf Resource) → row.value ≡ Sync → row ≡ route → HasParts path route
no_view path row route sync is = subst (λ (r : RouteOf Resource). HasParts path r) is (λ page same. absurd cc)

-- each row of the office has the parts of its paths as values
by_row : (path tokens : List ℕ) (route : RouteOf Resource) → Stands tokens route office_routes → Takes tokens path → HasParts path route
unfolding matchit_on_literals with_route
by_row path tokens route (inl row) takes =
    view_two (codes "/delays/") (codes "/delays/{unit}/{day}") (9, 13) (16, 19) Delays
    refl (omega arith) (λ q. refl) (λ q. refl) path tokens route row.0 row.1 takes
by_row path tokens route (inr (inl row)) takes =
    view_two (codes "/due/") (codes "/due/{unit}/{day}") (6, 10) (13, 16) Due
    refl (omega arith) (λ q. refl) (λ q. refl) path tokens route row.0 row.1 takes
by_row path tokens route (inr (inr (inl row))) takes =
    view_three (codes "/percent/") (codes "/percent/{unit}/{quarter}/{day}") (10, 14) (17, 24) (27, 30) Percent
    refl (omega arith) (λ q. refl) (λ q. refl) path tokens route row.0 row.1 takes
by_row path tokens route (inr (inr (inr (inl row)))) takes =
    view_three (codes "/report/") (codes "/report/{unit}/{half}/{day}") (9, 13) (16, 20) (23, 26) Report
    refl (omega arith) (λ q. refl) (λ q. refl) path tokens route row.0 row.1 takes
by_row path tokens route (inr (inr (inr (inr (inl row))))) takes =
    view_three (codes "/route/") (codes "/route/{unit}/{day}/{stops}") (8, 12) (15, 18) (21, 26) Route
    refl (omega arith) (λ q. refl) (λ q. refl) path tokens route row.0 row.1 takes
by_row path tokens route (inr (inr (inr (inr (inr (inl row)))))) takes = no_view path _ route refl row.1
by_row path tokens route (inr (inr (inr (inr (inr (inr (inl row))))))) takes =
    view_two (codes "/tags/") (codes "/tags/{unit}/{day}") (7, 11) (14, 17) Tags
    refl (omega arith) (λ q. refl) (λ q. refl) path tokens route row.0 row.1 takes
by_row path tokens route (inr (inr (inr (inr (inr (inr (inr none))))))) takes = absurd none

pub parts_are_parameters_with : spec.PartsAreParameters
parts_are_parameters_with path route found =
    let is = found_route 0 office_routes path route found in
    by_row path is.tokens route is.stands is.takes
