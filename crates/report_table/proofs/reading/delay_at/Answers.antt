use Rattle.std.proofs.Common.{◌+◌, ap, Some, arith}
use Rattle.fact_kinds.specs.Fields.{big_endian}
use Rattle.report_table.specs.CellBytes.{key_bytes}
use Rattle.report_table.proofs.CellLemmas.{joined}
use Rattle.report_table.proofs.ReadBack.{delay_parts, same_item, same_delay, no_item}
use Rattle.report_table.proofs.reading.delay_at.Goals as goal

pub returns-in_err-day_or_none_at-clause-reads_back : goal.returns-in_err-day_or_none_at-clause-reads_back
returns-in_err-day_or_none_at-clause-reads_back c =
    λ given fits is.
    no_item given.expected (c.in_err-day_or_none_at.ensures.reads_back given.expected fits.expected (delay_parts c.args.bytes.now c.args.at given is).expected)

pub returns : goal.returns
returns c =
    let bytes = c.args.bytes.now in
    let at = c.args.at in
    let expected = c.in_ok-day_or_none_at.ensures.value in
    let signer = joined bytes (big_endian 2 c.two_at.result) _ (at + 13) 2 2 (at + 15) (omega arith) c.two_at.ensures.value expected in
    let ground = joined bytes (big_endian 1 c.one_at.result) _ (at + 12) 1 4 (at + 13) (omega arith) c.one_at.ensures.value signer in
    record {
      value = joined bytes (key_bytes c.in_ok-key_at.field-0) _ at 12 5 (at + 12) (omega arith) c.in_ok-key_at.ensures.value ground;
      reads_back = λ given fits is.
          let parts = delay_parts bytes at given is in
          ap Some (same_delay _ given
          (same_item _ _ (c.in_ok-key_at.ensures.reads_back given.key fits.key parts.key))
          (c.one_at.ensures.reads_back given.ground fits.ground parts.ground)
          (c.two_at.ensures.reads_back given.signer fits.signer parts.signer)
          (same_item _ _ (c.in_ok-day_or_none_at.ensures.reads_back given.expected fits.expected parts.expected)));
    }
