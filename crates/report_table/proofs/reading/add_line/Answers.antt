use Rattle.std.proofs.Common.{rules, ◌+◌, ◌++◌, ◌∷◌, [], refl, sym, ap, ◌∙◌, arith}
use Rattle.std.specs.List.{flat_map}
use Rattle.fact_kinds.specs.Fields.{big_endian}
use Rattle.report_table.specs.CellBytes.{line_bytes, delay_bytes, until_bytes}
use Rattle.report_table.proofs.CellLemmas.{one_more, joined}
use Rattle.report_table.proofs.ReadBack.{line_parts, same_item, same_line}
use Rattle.report_table.proofs.reading.add_line.Goals as goal

pub returns-in_default-clause-reads_back : goal.returns-in_default-clause-reads_back
returns-in_default-clause-reads_back c =
    λ line fits is.
    let parts = line_parts c.args.bytes.now c.args.at line is in
    let found = c.day_at.ensures.reads_back line.detected fits.detected parts.detected in
    absurd cc

pub returns-in_default-delay_at-clause-reads_back : goal.returns-in_default-delay_at-clause-reads_back
returns-in_default-delay_at-clause-reads_back c =
    λ line fits is.
    let parts = line_parts c.args.bytes.now c.args.at line is in
    let found = c.delay_at.ensures.reads_back line.delay fits.delay parts.delay in
    absurd cc

pub returns-in_default-until_at-clause-reads_back : goal.returns-in_default-until_at-clause-reads_back
returns-in_default-until_at-clause-reads_back c =
    λ line fits is.
    let parts = line_parts c.args.bytes.now c.args.at line is in
    let found = c.until_at.ensures.reads_back line.until fits.until parts.until in
    absurd cc

pub returns-in_default-day_or_none_at-clause-reads_back : goal.returns-in_default-day_or_none_at-clause-reads_back
returns-in_default-day_or_none_at-clause-reads_back c =
    λ line fits is.
    let parts = line_parts c.args.bytes.now c.args.at line is in
    let found = c.day_or_none_at.ensures.reads_back line.closed fits.closed parts.closed in
    absurd cc

pub returns : goal.returns
returns c =
    let bytes = c.args.bytes.now in
    let at = c.args.at in
    let closed = (rw c.in-Some-day_or_none_at.is at c.day_or_none_at.ensures.value) in
    let until = joined bytes (until_bytes c.in-Some-until_at.until) _ (at + 21) 3 2 (at + 24) (omega arith)
    (rw c.in-Some-until_at.is at c.until_at.ensures.value) closed in
    let delay = joined bytes (delay_bytes c.in-Some-delay_at.delay) _ (at + 4) 17 5 (at + 21) (omega arith)
    (rw c.in-Some-delay_at.is at c.delay_at.ensures.value) until in
    let detected = joined bytes (big_endian 2 c.in-Some.detected) _ (at + 2) 2 22 (at + 4) (omega arith) (rw c.in-Some.is at c.day_at.ensures.value) delay in
    let whole = joined bytes (big_endian 2 c.two_at.result) _ at 2 24 (at + 2) (omega arith) c.two_at.ensures.value detected in
    record {
      more = λ stands.
          one_more line_bytes c.args.lines.now.items bytes 26 at (at + 26) refl c.requires.so_far
          (record {
            component = c.two_at.result;
            detected = c.in-Some.detected;
            delay = c.in-Some-delay_at.delay;
            until = c.in-Some-until_at.until;
            closed = c.in-Some-day_or_none_at.closed;
          }) whole
          ∙ ap (flat_map line_bytes) (sym c.in_ok-push.ensures.items);
      reads_back = λ line fits is.
          let parts = line_parts bytes at line is in (
            search rules,
            c.in_ok-push.ensures.items
                ∙ ap (λ item. c.args.lines.now.items ++ item ∷ []) (same_line _ line
                (c.two_at.ensures.reads_back line.component fits.component parts.component)
                (same_item _ _ (sym c.in-Some.is ∙ c.day_at.ensures.reads_back line.detected fits.detected parts.detected))
                (same_item _ _ (sym c.in-Some-delay_at.is ∙ c.delay_at.ensures.reads_back line.delay fits.delay parts.delay))
                (same_item _ _ (sym c.in-Some-until_at.is ∙ c.until_at.ensures.reads_back line.until fits.until parts.until))
                (same_item _ _ (sym c.in-Some-day_or_none_at.is ∙ c.day_or_none_at.ensures.reads_back line.closed fits.closed parts.closed))),
          );
    }
