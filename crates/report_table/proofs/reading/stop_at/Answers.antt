use Rattle.std.proofs.Common.{◌+◌, ap, Some, arith}
use Rattle.fact_kinds.specs.Fields.{big_endian}
use Rattle.report_table.proofs.CellLemmas.{joined}
use Rattle.report_table.proofs.ReadBack.{stop_parts, same_item, same_stop, no_item}
use Rattle.report_table.proofs.reading.stop_at.Goals as goal

pub returns-in_err-day_at-2-clause-reads_back : goal.returns-in_err-day_at-2-clause-reads_back
returns-in_err-day_at-2-clause-reads_back c =
    λ given fits is. no_item given.last (c.in_err-day_at-2.ensures.reads_back given.last fits.last (stop_parts c.args.bytes.now c.args.at given is).1)

pub returns : goal.returns
returns c =
    let bytes = c.args.bytes.now in
    let at = c.args.at in
    let last = c.in_ok-day_at-2.ensures.value in
    record {
      value = joined bytes (big_endian 2 c.in_ok-day_at.field-0) _ at 2 2 (at + 2) (omega arith) c.in_ok-day_at.ensures.value last;
      reads_back = λ given fits is.
          let parts = stop_parts bytes at given is in
          ap Some (same_stop _ given
          (same_item _ _ (c.in_ok-day_at.ensures.reads_back given.first fits.first parts.0))
          (same_item _ _ (c.in_ok-day_at-2.ensures.reads_back given.last fits.last parts.1)));
    }
