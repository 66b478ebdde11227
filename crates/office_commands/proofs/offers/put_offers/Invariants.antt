use Rattle.std.proofs.Common.{◌≤◌, ◌-◌, [], length}
use Rattle.ldar_journal.specs.Image.{batches_of}
use Rattle.office_commands.specs.Offering.{PutsOffers}
use Rattle.office_commands.proofs.offers.put_offers.Given as goal

-- the answers up to this start were written
abbrev pub invariant-offers : goal.invariant-offers
invariant-offers g l =
    PutsOffers (batches_of l.book.frames) l.from (g.K.Sink.pieces l.fn.output) (g.K.Sink.pieces l.output) l.start []
    × (l.start ≤ length (batches_of l.book.frames))
    × (g.K.Sink.faults l.fn.output ≤ g.K.Sink.faults l.output)

-- the number of batches that are left
abbrev pub decreases-offers : goal.decreases-offers
decreases-offers g l = length (batches_of l.book.frames) - l.start
