use Rattle.std.proofs.Common.{◌≡◌, refl, sym, ap, ◌∙◌}
use Rattle.std.specs.BTreeMap.{is_at}
use Rattle.std.specs.Map.{lookup}
use Rattle.dual_seals.specs.RowKeys.{row_key_cmp}
use Rattle.dual_seals.specs.RowOrder.{key_of}
use Rattle.std.specs.BTreeMap.{insert_entry}
use Rattle.dual_seals.proofs.MapLemmas.{put_added, put_bad}
use Rattle.dual_seals.proofs.rows.put.Goals as goal

pub returns-then-is_some-clause-bad : goal.returns-then-is_some-clause-bad
returns-then-is_some-clause-bad c earlier has =
    let entries = c.args.rows.now.entries in (
      refl,
      put_bad c.args.row earlier entries c.in-Ok.old has
          (c.in-Ok.ensures.old ∙ ap (λ k. lookup (is_at (row_key_cmp k)) entries) c.key_of.ensures.value)
          (sym c.is_some.ensures ∙ c.if-is_some.true),
    )

pub returns-clause-added : goal.returns-clause-added
returns-clause-added c earlier has =
    let entries = c.args.rows.now.entries in
    put_added c.args.row earlier entries c.insert.new.self.entries c.in-Ok.old has
    (c.in-Ok.ensures.old ∙ ap (λ k. lookup (is_at (row_key_cmp k)) entries) c.key_of.ensures.value)
    (c.in-Ok.ensures.entries ∙ ap (λ k. insert_entry row_key_cmp entries k c.args.row) c.key_of.ensures.value)
    (sym c.is_some.ensures ∙ c.if-is_some.false)
