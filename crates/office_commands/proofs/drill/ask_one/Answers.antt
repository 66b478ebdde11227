use Rattle.std.proofs.Common.{[], ◌∷◌}
use Rattle.office_commands.proofs.DrillLemmas.{one_asked}
use Rattle.office_commands.proofs.drill.ask_one.Goals as goal

pub returns : goal.returns
returns g c =
    let asked = c.ask.ensures.value in
    record {
      ends = (
        asked.0 ∷ [],
        asked.1,
        one_asked asked.0 c.args.request.now c.ask.result c.asked_by.result asked.2 asked.3 c.asked_by.ensures.value,
      );
    }
