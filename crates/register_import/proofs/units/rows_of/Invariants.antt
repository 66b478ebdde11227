use Rattle.std.proofs.Common.{◌≡◌, ◌+◌, drop, length}
use Rattle.toml.specs.View.{items_view}
use Rattle.register_import.specs.Rows.{behind}
use Rattle.register_import.specs.Units as files
use Rattle.register_import.proofs.units.rows_of.Given as goal

abbrev pub invariant-loop-element : goal.invariant-loop-element
invariant-loop-element l =
    (behind l.facts.items (files.rows_from l.at (items_view (drop l.element-index l.element-items))) ≡ files.rows_from 1 (items_view l.element-items))
    × (l.at ≡ l.element-index + 1) × (length l.facts.items ≡ l.element-index)
