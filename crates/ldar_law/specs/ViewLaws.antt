-- Laws about views: the statements of `laws::views`.
use Rattle.std.specs.Prelude.{◌≡◌, ◌<◌, List, [], ◌∷◌, ◌++◌, IsTrue, IsPermutation}
use Rattle.std.specs.List.{AllByRecursion}
use Rattle.fact_kinds.specs.declared.batch.Batch.{Batch}
use Rattle.fact_kinds.specs.Identity.{identities_differ}
use Rattle.ldar_law.specs.declared.request.Request.{Request}
use Rattle.ldar_law.specs.Shown.{view_day, shown}

-- the order in which batches arrived does not change what views show
abbrev pub ViewsForgetOrder : Type 0
ViewsForgetOrder =
    (history other : List Batch) (request : Request) → IsPermutation history other → IsTrue (identities_differ history)
    → shown other request ≡ shown history request

-- facts of days after the view day do not change what views show
abbrev pub ViewsForgetLaterDays : Type 0
ViewsForgetLaterDays =
    (history : List Batch) (batch : Batch) (request : Request) → IsTrue (identities_differ (history ++ batch ∷ []))
    → AllByRecursion (λ fact. view_day request < fact.day) batch.facts
    → shown (history ++ batch ∷ []) request ≡ shown history request
