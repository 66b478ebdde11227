use Rattle.fact_kinds.specs.Fields.{modes}
use Rattle.ldar_facts.specs.FieldForms.{mode}
use Rattle.ldar_facts.proofs.Places.{number_to}
use Rattle.ldar_facts.proofs.field_at.mode_at.Goals as goal

pub returns : goal.returns
unfolding mode
returns c = number_to 1 c.args.at modes c.args.bytes.now c.in_ok-mode.mode c.in_ok-mode.field-0-1.now (rw c.bytes_from.ensures at c.in_ok-mode.ensures)
