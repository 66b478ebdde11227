use Rattle.std.proofs.Common.{◌≡◌, ◌++◌, drop}
use Rattle.std.specs.Option.{option_map}
use Rattle.serde_json.specs.View.{items_view}
use Rattle.handheld_http.specs.BatchJson as spec
use Rattle.handheld_http.proofs.batch_json.facts_of.Given as goal

abbrev pub invariant-loop-item : goal.invariant-loop-item
invariant-loop-item l =
    option_map (λ rest. l.facts.items ++ rest) (spec.facts_of (items_view (drop l.item-index l.item-items)))
    ≡ spec.facts_of (items_view l.item-items)
