use Rattle.std.proofs.Common.{◌≡◌, Ok, rules, sym, ap, ◌∙◌}
use Rattle.std.specs.Map.{values_of}
use Rattle.list_words.specs.Order.{in_order}
use Rattle.dual_seals.specs.RowOrder.{comes_first}
use Rattle.dual_seals.specs.Rows.{in_turn}
use Rattle.dual_seals.proofs.MapLemmas.{values_are}
use Rattle.dual_seals.proofs.rows.in_order.Goals as goal

pub returns-in-Ok-clause-value : goal.returns-in-Ok-clause-value
returns-in-Ok-clause-value c said has =
    let (rows, is, kept) = has in
    let items : c.in-Ok.list.items ≡ values_of c.args.rows.entries = search rules in
    ap in_turn is ∙ ap Ok (sym (items ∙ ap values_of kept ∙ values_are (in_order comes_first rows)))
