use Rattle.std.proofs.Common.{◌≡◌, ◌==◌, true, not, sym, ap, ◌∙◌, ℕ}
use Rattle.toml.specs.View.{items_view}
use Rattle.register_import.specs.Units.{has_element}
use Rattle.register_import.proofs.MemberLemmas.{are_tables-items_view, has_element-items_view}
use Rattle.register_import.proofs.units.are_some_tables.Goals as goal

pub returns-then-not-is_empty : goal.returns-then-not-is_empty
returns-then-not-is_empty c =
    let elements = c.args.elements.now in
    let some : has_element (items_view elements.items) ≡ true =
    has_element-items_view elements.items ∙ ap (λ (n : ℕ). not (n == 0)) (sym elements.ok.0) ∙ ap not (sym c.is_empty.ensures ∙ c.if-not-is_empty.true) in
    rw (some, are_tables-items_view elements.items) c.all_tables.ensures
