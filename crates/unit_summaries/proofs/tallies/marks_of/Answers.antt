use Rattle.std.proofs.Common.{◌≡◌, map, sym, ◌∙◌, subst}
use Rattle.std.proofs.lemmas.Result.{IfOk-weaker}
use Rattle.list_words.specs.Ranges.{from_to}
use Rattle.ldar_law.specs.Units.{mark_in}
use Rattle.skip_periods.specs.Seen.{mark_for}
use Rattle.unit_summaries.specs.Known.{in_law}
use Rattle.unit_summaries.specs.Tallied.{TellDelays}
use Rattle.unit_summaries.proofs.TallyLemmas.{marks_are}
use Rattle.unit_summaries.proofs.tallies.marks_of.Goals as goal

pub marks_to-requires-clause-ordered : goal.marks_to-requires-clause-ordered
marks_to-requires-clause-ordered c = c.requires.ordered.classes

pub returns : goal.returns
returns c =
    let a = c.args in
    let known = in_law a.stops.now a.component.now in
    let numbers = from_to 1 a.quarter in
    let delayed = c.deref-2.result.now in
    let told : TellDelays a.startup a.quarter a.day known.tags delayed =
    subst (λ ds. TellDelays a.startup a.quarter a.day known.tags ds) (sym c.deref-2.ensures.value)
    (subst (λ tags. TellDelays a.startup a.quarter a.day tags c.in_ok-delayed.delayed.items) (c.deref.ensures.value ∙ c.in_ok-tags.ensures.value)
    c.in_ok-delayed.ensures.value) in
    record {
      value = IfOk-weaker c.marks_to.result
          (λ marks. marks.items ≡ map (mark_for known.item known.classes a.startup known.events delayed a.day) numbers)
          (λ marks. marks.items ≡ map (λ q. mark_in a.startup a.day q known) numbers)
          (λ marks is. is ∙ marks_are a.startup a.day a.quarter known delayed told) c.marks_to.ensures.value;
    }
