use Rattle.std.proofs.Common.{true, cond, nat_eq, ap, ◌∙◌, arith}
use Rattle.touched_readings.specs.Flags.{flag_of}
use Rattle.unit_summaries.proofs.RowLemmas.{flag_set}
use Rattle.unit_summaries.proofs.flags.set_flag.Goals as goal

pub returns : goal.returns
returns c = record {
  value = λ n.
      flag_set c.args.flags.now c.from.result n (omega (arith, c.from.ensures, c.requires.within))
      ∙ ap (λ k. cond (nat_eq n k) true (flag_of c.args.flags.now n)) c.from.ensures;
}
