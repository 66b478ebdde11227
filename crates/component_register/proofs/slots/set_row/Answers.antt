use Rattle.component_register.proofs.RowLemmas.{sets_row}
use Rattle.component_register.proofs.slots.set_row.Goals as goal

pub returns : goal.returns
returns g c = record { value = rw c.from.ensures (sets_row c.args.number c.args.row c.args.rows.now.items c.requires) }
