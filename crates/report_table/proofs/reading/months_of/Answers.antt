use Rattle.std.proofs.Common.{rules, ◌+◌, ◌*◌, ◌++◌, ◌∷◌, [], take, sym, ap, ap₂, ◌∙◌, arith}
use Rattle.std.specs.List.{flat_map}
use Rattle.std.proofs.lemmas.List.{take_more_set}
use Rattle.fact_kinds.specs.Fields.{big_endian}
use Rattle.report_table.proofs.CellLemmas.{one_more}
use Rattle.report_table.proofs.ReadBack.{next_number, months_long}
use Rattle.report_table.proofs.reading.months_of.Goals as goal

pub returns-then-bytes-clause-reads_back : goal.returns-then-bytes-clause-reads_back
returns-then-bytes-clause-reads_back c = λ given are is. let long = months_long given c.args.bytes.now are is in absurd (omega (arith, long))

pub loop-place-preserved : goal.loop-place-preserved
loop-place-preserved c =
    let place = c.loop-place.place in
    let numbers = c.loop-place.numbers in
    let more = one_more (big_endian 4) (take place numbers) c.args.bytes.now 4 (4 * place) (4 * (place + 1)) (omega arith) c.loop-place.invariant.1
    c.four_at.result c.four_at.ensures.value in (
      search rules,
      more ∙ ap (flat_map (big_endian 4)) (sym (take_more_set numbers place c.four_at.result (omega arith))),
      λ given are is.
          let next = next_number given c.args.bytes.now place are is (omega arith) in
          let same = c.four_at.ensures.reads_back next.item next.fits next.stands in
          take_more_set numbers place c.four_at.result (omega arith)
          ∙ ap₂ (λ front n. front ++ n ∷ []) (c.loop-place.invariant.2 given are is) same ∙ sym next.follows,
    )
