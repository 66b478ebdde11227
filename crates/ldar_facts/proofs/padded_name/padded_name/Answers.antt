use Rattle.std.proofs.Common.{sym, arith}
use Rattle.ldar_facts.proofs.PaddedName.{front_is_name}
use Rattle.ldar_facts.proofs.padded_name.padded_name.Goals as goal

pub returns-then-are_zeros : goal.returns-then-are_zeros
returns-then-are_zeros c =
    front_is_name c.front_len-len.result c.args.padded c.new.result (omega arith) (omega arith) (sym c.if-are_zeros.ensures) c.new.ensures.value
