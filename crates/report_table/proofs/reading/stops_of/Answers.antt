use Rattle.std.proofs.Common.{rules, ◌+◌, ◌*◌, ◌++◌, Some, sym, ap, ap₂, ◌∙◌, arith, take_all}
use Rattle.std.specs.List.{flat_map}
use Rattle.std.specs.Option.{option_to_list}
use Rattle.report_table.specs.CellBytes.{stop_bytes}
use Rattle.report_table.proofs.CellLemmas.{one_given}
use Rattle.report_table.proofs.ReadBack.{next_stop, stops_long, given_is_given}
use Rattle.report_table.proofs.reading.stops_of.Goals as goal

pub loop-at-preserved : goal.loop-at-preserved
loop-at-preserved c =
    let at = c.loop-at.at in
    let bytes = c.args.bytes.now in (
      one_given stop_bytes c.loop-at.stops.items bytes 4 (4 * at) (4 * (at + 1)) (omega arith) c.loop-at.invariant.0
          c.stop_at-stop.result (search rules) c.stop_at-stop.ensures.value
          ∙ ap (flat_map stop_bytes) (sym c.in_ok-put.ensures.put),
      λ given all is.
          let next = next_stop given bytes at all is (omega arith) in
          c.in_ok-put.ensures.put
          ∙ ap₂ (λ front item. front ++ option_to_list item) (c.loop-at.invariant.1 given all is)
          (c.stop_at-stop.ensures.reads_back next.item next.fits next.stands)
          ∙ sym next.follows,
    )

pub returns-then-bytes-ne0-clause-reads_back : goal.returns-then-bytes-ne0-clause-reads_back
returns-then-bytes-ne0-clause-reads_back c = λ given all is. absurd (omega (arith, stops_long given c.args.bytes.now is))

pub returns-then-is_none-clause-reads_back : goal.returns-then-is_none-clause-reads_back
returns-then-is_none-clause-reads_back c =
    λ given all is.
    let next = next_stop given c.args.bytes.now c.loop-at.at all is (omega arith) in
    let found = c.stop_at-stop.ensures.reads_back next.item next.fits next.stands in
    given_is_given c.stop_at-stop.result next.item found (search rules)

pub returns-clause-reads_back : goal.returns-clause-reads_back
returns-clause-reads_back c =
    λ given all is.
    ap Some (c.loop-at.invariant.1 given all is ∙ take_all c.loop-at.at given (omega (arith, stops_long given c.args.bytes.now is)))
