use Rattle.std.proofs.Common.{◌≡◌, ◌+◌, false, subst, nat_lt}
use Rattle.pump_seals.specs.Signs as spec
use Rattle.pump_seals.proofs.MomentLemmas.{none_above}
use Rattle.pump_seals.proofs.RisingLists.{given_front}
use Rattle.pump_seals.proofs.marks.rows_to.Goals as goal

pub returns : goal.returns
returns c =
    let rows = c.args.rows.now in
    let component = c.args.component in
    record {
      value = λ day. given_front (spec.mark_if component day) (λ r. nat_lt r.component (c.from.result + 1))
          (λ r e. none_above component day r (subst (λ n. nat_lt r.component (n + 1) ≡ false) c.from.ensures e)) rows c.count_below.result
          c.count_below.ensures.value c.count_below.ensures.within;
    }
