use Rattle.std.proofs.Common.{◌≡◌, sym, ap, ◌∙◌}
use Rattle.toml.specs.View.{items_view, table_view}
use Rattle.register_import.specs.Units.{rows_from, rows_of_elements, unit_rows}
use Rattle.register_import.proofs.UnitLemmas.{no_document, of_document}
use Rattle.register_import.proofs.units.unit_facts.Goals as goal

pub returns-in-Err-2-clause-bad : goal.returns-in-Err-2-clause-bad
returns-in-Err-2-clause-bad c =
    no_document c.args.text.now (c.in-Err.ensures.refused (λ memory. let is = c.is_memory.ensures.1 memory in cc))

pub returns-in_default-clause-bad : goal.returns-in_default-clause-bad
returns-in_default-clause-bad c =
    of_document c.args.text.now (table_view c.in-Ok.document) c.in-Ok.ensures.ok.0 c.in-Ok.ensures.ok.1
    ∙ ap rows_of_elements (sym c.in_default.ensures.value)

pub returns-clause-value : goal.returns-clause-value
returns-clause-value c =
    let said : unit_rows c.args.text.now ≡ rows_from 1 (items_view c.in-Some.elements.now.items) =
    of_document c.args.text.now (table_view c.in-Ok.document) c.in-Ok.ensures.ok.0 c.in-Ok.ensures.ok.1
    ∙ ap rows_of_elements (sym c.in-Some.ensures.value) in
    rw said c.rows_of.ensures.value

pub returns-clause-bad : goal.returns-clause-bad
returns-clause-bad c =
    let said : unit_rows c.args.text.now ≡ rows_from 1 (items_view c.in-Some.elements.now.items) =
    of_document c.args.text.now (table_view c.in-Ok.document) c.in-Ok.ensures.ok.0 c.in-Ok.ensures.ok.1
    ∙ ap rows_of_elements (sym c.in-Some.ensures.value) in
    rw said c.rows_of.ensures.bad
