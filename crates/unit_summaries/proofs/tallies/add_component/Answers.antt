use Rattle.std.proofs.Common.{length, sym, ap, ◌∙◌, arith}
use Rattle.ldar_law.specs.Units.{mark_in}
use Rattle.unit_summaries.specs.Known.{in_law}
use Rattle.unit_summaries.proofs.ListLemmas.{numbers_long}
use Rattle.unit_summaries.proofs.TallyLemmas.{one_counted}
use Rattle.unit_summaries.proofs.tallies.add_component.Goals as goal

pub add_marks-requires-clause-same : goal.add_marks-requires-clause-same
add_marks-requires-clause-same c =
    let a = c.args in
    ap length (c.deref.ensures.value ∙ c.in_ok-marks.ensures.value)
    ∙ numbers_long (λ q. mark_in a.startup a.day q (in_law a.stops.now a.component.now)) a.quarter ∙ sym c.requires.count

pub returns : goal.returns
returns c =
    let a = c.args in
    let old = a.tallies.now.items in
    record {
      put = one_counted a.startup a.day a.quarter (in_law a.stops.now a.component.now) c.deref.result.now old c.add_marks.new.tallies.items
          (c.deref.ensures.value ∙ c.in_ok-marks.ensures.value) (omega (arith, c.requires.count, a.tallies.now.ok)) c.add_marks.ensures.value;
    }
