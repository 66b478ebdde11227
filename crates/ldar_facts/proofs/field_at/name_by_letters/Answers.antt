use Rattle.std.proofs.Common.{subst, arith}
use Rattle.ldar_facts.specs.Form.{Takes}
use Rattle.ldar_facts.specs.Letters.{name_form}
use Rattle.ldar_facts.proofs.Places.{name_to}
use Rattle.ldar_facts.proofs.field_at.name_by_letters.Goals as goal

pub returns : goal.returns
returns c =
    name_to 0 c.args.bytes.now c.name.new.self c.name.result (λ i. omega (arith, c.type_inv.bytes i))
    (subst (λ l. Takes name_form.read c.name.result l c.name.new.self) c.new.ensures c.name.ensures)
