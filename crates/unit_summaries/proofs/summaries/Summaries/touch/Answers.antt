use Rattle.std.proofs.Common.{◌≡◌, ℕ, ◌&&◌, not, take, refl, sym, ap, ◌∙◌, subst}
use Rattle.std.specs.List.{list_any}
use Rattle.fact_kinds.specs.Facts.{entries_of, facts_of}
use Rattle.fact_kinds.specs.Named.{component_of, unit_of, is_numbered}
use Rattle.touched_readings.specs.Windows.{is_judged_anew}
use Rattle.unit_summaries.specs.Rows.{is_fresh}
use Rattle.unit_summaries.specs.Sound.{Are, Sums}
use Rattle.unit_summaries.proofs.BatchLemmas.{are_more, is_of_component, is_of_unit, named_in_batch}
use Rattle.unit_summaries.proofs.summaries.Summaries.touch.Goals as goal

pub returns-clause-sound : goal.returns-clause-sound
returns-clause-sound g c = λ history came differ are.
    let batch = c.args.batch.now in
    let arrived = c.args.store.now.arrived in
    let listed = c.args.store.now.listed in
    let inside = c.self.inside in
    let names = c.make_stale_by_names.ensures in
    let read = c.make_stale_by_readings.ensures.value in
    let old : Sums = record { components = inside.components; units = inside.units; answered = inside.answered.items; kept = inside.kept.items } in
    let new : Sums = record {
      components = c.make_stale_by_names.new.components;
      units = c.make_stale_by_names.new.units;
      answered = inside.answered.items;
      kept = inside.kept.items;
    } in
    let component_named : (n : ℕ) → list_any (λ fact. is_numbered (component_of fact.body) n) c.as_slice.result.now
    ≡ list_any (is_of_component n) (entries_of batch) =
    λ n. ap (list_any (λ fact. is_numbered (component_of fact.body) n)) c.as_slice.ensures.value
    ∙ sym (named_in_batch (λ body. is_numbered (component_of body) n) batch 0 batch.facts) in
    let unit_named : (u : ℕ) → list_any (λ fact. is_numbered (unit_of fact.body) u) c.as_slice.result.now
    ≡ list_any (is_of_unit u) (entries_of batch) =
    λ u. ap (list_any (λ fact. is_numbered (unit_of fact.body) u)) c.as_slice.ensures.value
    ∙ sym (named_in_batch (λ body. is_numbered (unit_of body) u) batch 0 batch.facts) in
    are_more history batch arrived came differ listed old new (subst (Are (facts_of history) arrived listed) (sym c.self.view_is) are)
    (λ n. names.components.row n ∙ read.row n)
    (λ n. names.components.fresh n
    ∙ ap (λ b. b && not (list_any (λ fact. is_numbered (component_of fact.body) n) c.as_slice.result.now)) (read.fresh n)
    ∙ ap (λ b. (is_fresh inside.components n && not (is_judged_anew (take listed arrived) (entries_of batch) n)) && not b) (component_named n))
    (λ u. names.units.row u)
    (λ u. names.units.fresh u ∙ ap (λ b. is_fresh inside.units u && not b) (unit_named u))
    (λ u. refl) refl
