use Rattle.std.proofs.Common.{◌≡◌, ap, ◌∙◌}
use Rattle.std.proofs.lemmas.Result.{IfOk-weaker}
use Rattle.ldar_law.specs.Equipment.{elections_of}
use Rattle.ldar_law.specs.Skips.{skipped_to}
use Rattle.ldar_law.specs.Units.{components_of, due_list, duties_of_unit, quarter_at, skipped_on}
use Rattle.unit_summaries.specs.Known.{all_in_law}
use Rattle.office_views.specs.Sources.{facts_by}
use Rattle.office_views.proofs.due.duties_of_unit.Goals as goal

pub returns : goal.returns
returns c =
    let unit = c.args.unit.now in
    let source = c.args.source.now in
    let facts = facts_by source in
    let known = c.in_ok-known.known in
    let is = c.in_ok-known.ensures.value in
    let skipped = c.deref.ensures.value ∙ c.in_ok-skipped.ensures.value
    ∙ ap (λ es. skipped_to c.args.tallies.now es unit.startup (quarter_at unit.startup source.day)) is.elections ∙ c.requires.tallies in
    let same = ap (λ sk. due_list unit.startup source.day sk (all_in_law known.stops.now c.deref-2.result.now)) skipped
    ∙ ap (λ cs. due_list unit.startup source.day (skipped_on unit.startup source.day (components_of unit.unit facts) (elections_of unit.unit facts)) cs)
    (ap (all_in_law known.stops.now) c.deref-2.ensures.value ∙ is.components) in
    record {
      value = IfOk-weaker c.duties_at.result
          (λ all. all.items ≡ due_list unit.startup source.day c.deref.result.now (all_in_law known.stops.now c.deref-2.result.now))
          (λ all. all.items ≡ duties_of_unit unit source.day facts) (λ all listed. listed ∙ same) (c.duties_at.ensures.value known.stops.now);
    }
