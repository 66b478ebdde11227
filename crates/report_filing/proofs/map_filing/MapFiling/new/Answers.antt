use Rattle.std.proofs.Common.{sym, subst}
use Rattle.report_filing.specs.Revisions.{AreNumbered}
use Rattle.report_filing.proofs.map_filing.MapFiling.new.Goals as goal

pub invariant_of-result : goal.invariant_of-result
invariant_of-result c = subst AreNumbered (sym c.new.ensures.items) (λ unit half. tt)
