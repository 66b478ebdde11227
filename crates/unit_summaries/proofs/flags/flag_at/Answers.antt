use Rattle.std.proofs.Common.{◌≡◌, ◌≤◌, false, nat_lt, length, sym, ap, ◌∙◌, arith}
use Rattle.std.proofs.lemmas.Bool.Decides.{nat_tests}
use Rattle.touched_readings.specs.Flags.{flag_of}
use Rattle.unit_summaries.proofs.RowLemmas.{flag_get, flag_past}
use Rattle.unit_summaries.proofs.flags.flag_at.Goals as goal

pub returns-then-at-flags : goal.returns-then-at-flags
returns-then-at-flags c = record {
  value = flag_get c.args.flags.now c.from-at.result c.args.number c.from-at.ensures (grind (arith, nat_tests, c.if-at-flags.true));
}

pub returns-else-at-flags : goal.returns-else-at-flags
returns-else-at-flags c =
    let past : length c.args.flags.now ≤ c.from-at.result = omega (arith, c.if-at-flags.false) in
    let not_there : nat_lt c.from-at.result (length c.args.flags.now) ≡ false = grind (arith, nat_tests, past) in
    record {
      value = not_there ∙ sym (flag_past c.args.flags.now c.from-at.result past) ∙ ap (flag_of c.args.flags.now) c.from-at.ensures;
    }
