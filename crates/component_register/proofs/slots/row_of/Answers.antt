use Rattle.std.proofs.Common.{◌≡◌, sym, arith}
use Rattle.fact_store.proofs.ListLemmas.{value_at-read, value_at-past}
use Rattle.component_register.proofs.slots.row_of.Goals as goal

pub returns-then-at-rows : goal.returns-then-at-rows
returns-then-at-rows g c =
    let number : c.from-at.result ≡ c.args.number = cc in
    record {
      value = sym (value_at-read (λ row. row) c.args.empty c.args.rows.now c.args.number c.index-rows-at.result (omega arith)
          (rw number at c.index-rows-at.is));
    }

pub returns-else-at-rows : goal.returns-else-at-rows
returns-else-at-rows g c =
    record { value = sym (value_at-past (λ row. row) c.args.empty c.args.rows.now c.args.number (omega arith)) }
