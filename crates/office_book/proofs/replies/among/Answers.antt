use Rattle.std.proofs.Common.{sym, ◌∙◌, arith}
use Rattle.office_book.proofs.AmongLemmas.{among_here, none_next}
use Rattle.office_book.proofs.replies.among.Goals as goal

pub returns-then-has_identity_of-clause-found : goal.returns-then-has_identity_of-clause-found
returns-then-has_identity_of-clause-found c =
    let was = c.loop-other.invariant in
    among_here c.args.first c.args.others.now c.args.batch.now c.loop-other.other-index c.other-item.result c.loop-other.position c.same_content.result
    c.loop-other-test.true c.other-item.is was.place was.none (sym c.has_identity_of.ensures.value ∙ c.if-has_identity_of.true) c.same_content.ensures.value

pub loop-other-preserved : goal.loop-other-preserved
loop-other-preserved c =
    let was = c.loop-other.invariant in
    record {
      place = omega arith;
      none = none_next c.args.first c.args.others.now c.args.batch.now c.loop-other.other-index c.other-item.result c.loop-other-test.true c.other-item.is
          was.none
          (sym c.has_identity_of.ensures.value ∙ c.if-has_identity_of.false);
    }
