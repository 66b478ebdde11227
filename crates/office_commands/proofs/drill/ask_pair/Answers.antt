use Rattle.std.proofs.Common.{List, [], ◌∷◌, ◌++◌, subst, ap}
use Rattle.ldar_law.specs.declared.request.Request.{Request}
use Rattle.ldar_law.specs.declared.request.Request.TheVariants.{Sync}
use Rattle.office_book.specs.SafeLaws.{leads_joins}
use Rattle.office_commands.specs.declared.drill.Asked.TheVariants as asks
use Rattle.office_commands.specs.Drills.{drill_view, EndsAsks}
use Rattle.office_commands.proofs.DrillLemmas.{none_asked, pair_asked, more_asked}
use Rattle.office_commands.proofs.drill.ask_pair.Goals as goal

-- the batch was answered, and the view was asked
pub returns-in-Done : goal.returns-in-Done
returns-in-Done g c =
    let d = g.D.Disk in
    let first = c.in-Done.ensures.ends in
    let second = c.ask_one-in-Done.ensures.ends in
    record {
      ends = (
        first.0 ++ second.0,
        leads_joins d.content d.left d.clock d.name d.faults c.args.book.now c.ask_one.new.book c.ask_one-in-Done.new.book first.0 second.0 first.1 second.1,
        pair_asked c.ask_one-in-Done.result c.args.batch first.0 second.0 first.2
            (subst (λ (q : Request). EndsAsks c.ask_one-in-Done.result (q ∷ []) second.0) c.quarter_view.ensures.value second.2),
      );
    }

-- the batch was not
pub returns : goal.returns
returns g c =
    let ends = c.ask_one.ensures.ends in
    record {
      ends = (
        ends.0,
        ends.1,
        more_asked c.ask_one.result [] (Sync c.args.batch ∷ []) (drill_view ∷ []) [] ends.0 c.in_default.not-Done none_asked ends.2,
      );
    }
