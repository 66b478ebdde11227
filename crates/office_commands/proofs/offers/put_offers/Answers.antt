use Rattle.std.proofs.Common.{◌≡◌, ◌<◌, ◌≤◌, Option, Some, Ok, IfSome, [], length, subst, arith}
use Rattle.ldar_journal.specs.Image.{batches_of}
use Rattle.office_commands.specs.Offering.{PutsOffer}
use Rattle.office_commands.proofs.OfferLemmas.{offer_stops, puts_one_more}
use Rattle.office_commands.proofs.offers.put_offers.Goals as goal

-- one more answer was written
pub offers-preserved : goal.offers-preserved
offers-preserved g c =
    let history = batches_of c.args.book.now.frames in
    let pieces = g.K.Sink.pieces in
    let now = pieces c.offers.output in
    let new = pieces c.put_offer.new.output in
    let puts : PutsOffer history c.offers.start (Ok (Some c.in-Ok-Some.next)) now new =
    subst (λ o. PutsOffer history c.offers.start (Ok o) now new) c.in-Ok-Some.field-0-is c.in-Ok-Some.ensures.puts in
    let later : (c.offers.start < c.in-Ok-Some.next) × (c.in-Ok-Some.next ≤ length history) =
    subst (λ o. IfSome o (λ next. (c.offers.start < next) × (next ≤ length history))) c.in-Ok-Some.field-0-is c.in-Ok-Some.ensures.later in (
      puts_one_more history c.args.from c.offers.start c.in-Ok-Some.next puts.0 (pieces c.args.output.now) now new [] c.offers.invariant.0 puts.1 puts.2 puts.3,
      later.1,
      omega (arith, c.offers.invariant.2, c.put_offer.ensures.count),
    )

-- .. or it stops here
pub returns-in-Err-clause-ends : goal.returns-in-Err-clause-ends
returns-in-Err-clause-ends g c =
    let history = batches_of c.args.book.now.frames in
    let pieces = g.K.Sink.pieces in
    let near : c.args.from ≤ length history = omega (arith, c.if-from-held.false, c.counts-held.ensures.batches) in
    offer_stops history c.args.from c.offers.start c.in-Err.status (pieces c.args.output.now) (pieces c.offers.output) (pieces c.put_offer.new.output) near
    c.offers.invariant.0 c.in-Err.ensures.puts
