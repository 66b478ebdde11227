use Rattle.std.proofs.Common.{rules, ◌++◌, ◌∷◌, [], Some, sym, ap, ◌∙◌, arith, take_all}
use Rattle.report_table.proofs.ReadBack.{next_line, lines_long}
use Rattle.report_table.proofs.reading.delays_of.Goals as goal

pub returns-then-bytes-ne0-clause-reads_back : goal.returns-then-bytes-ne0-clause-reads_back
returns-then-bytes-ne0-clause-reads_back c = λ given all is. absurd (omega (arith, lines_long given c.args.bytes.now is))

pub returns-then-not-branch-clause-reads_back : goal.returns-then-not-branch-clause-reads_back
returns-then-not-branch-clause-reads_back c =
    λ given all is.
    let next = next_line given c.args.bytes.now c.loop-at.at all is (omega arith) in
    let added = c.in_ok-add_line.ensures.reads_back next.item next.fits next.stands in
    let stands = added.0 in
    absurd cc

pub loop-at-preserved : goal.loop-at-preserved
loop-at-preserved c = (
  search rules,
  λ given all is.
      let next = next_line given c.args.bytes.now c.loop-at.at all is (omega arith) in
      let added = c.in_ok-add_line.ensures.reads_back next.item next.fits next.stands in
      added.1 ∙ ap (λ front. front ++ next.item ∷ []) (c.loop-at.invariant.1 given all is) ∙ sym next.follows,
)

pub returns-clause-reads_back : goal.returns-clause-reads_back
returns-clause-reads_back c =
    λ given all is.
    ap Some (c.loop-at.invariant.1 given all is ∙ take_all c.loop-at.at given (omega (arith, lines_long given c.args.bytes.now is)))
