use Rattle.std.proofs.Common.{◌≡◌, ◌+◌, Option, Some, length, sym, ap, ◌∙◌, arith}
use Rattle.ldar_journal.specs.Image.{batches_of}
use Rattle.office_mirror.specs.Offers.{offered}
use Rattle.office_commands.proofs.OfferLemmas.{offered_within}
use Rattle.office_commands.proofs.offers.put_offer.Goals as goal

pub overflow_add-result : goal.overflow_add-result
overflow_add-result g c =
    let history = batches_of c.args.book.now.frames in
    let told : c.in-Ok-Some.field-0 ≡ offered history c.args.start = c.in-Ok-Some.ensures.value in
    let within = offered_within history c.args.start c.in-Ok-Some.answer (sym told ∙ c.in-Ok-Some.field-0-is) in
    omega (arith, within.1, ap length c.as_slice.ensures.value, c.requires.held, c.ranges.held.fits)

pub returns-in-Ok-put_all-clause-later : goal.returns-in-Ok-put_all-clause-later
returns-in-Ok-put_all-clause-later g c =
    let history = batches_of c.args.book.now.frames in
    let told : c.in-Ok-Some.field-0 ≡ offered history c.args.start = c.in-Ok-Some.ensures.value in
    let within = offered_within history c.args.start c.in-Ok-Some.answer (sym told ∙ c.in-Ok-Some.field-0-is) in
    let long = ap length c.as_slice.ensures.value in
    (omega (arith, within.0, long), omega (arith, within.1, long))
