use Rattle.std.proofs.Common.{◌≡◌, Some, length, slice_get, refl, ap, ◌∙◌, subst, arith}
use Rattle.std.proofs.lemmas.Option.{slice_get_read}
use Rattle.fact_kinds.specs.Facts.{key_of}
use Rattle.fact_kinds.specs.Fields.{IsFact}
use Rattle.fact_store.specs.Coming.{stored}
use Rattle.fact_store.specs.Kept.{is_held}
use Rattle.office_views.proofs.TakingLemmas.{new_key, stored_more, stored_all, all_next}
use Rattle.office_views.proofs.intake.put_facts.Goals as goal

pub insert-requires-clause-new_key : goal.insert-requires-clause-new_key
insert-requires-clause-new_key c =
    let batch = c.args.batch.now in
    let item = c.index-facts-index.result in
    let read = slice_get_read c.as_slice-facts.result.now (length c.as_slice-facts.result.now) c.loop-index.index item refl c.loop-index-test.true
    c.index-facts-index.is in
    let here = subst (λ fs. slice_get fs c.loop-index.index ≡ Some item) c.as_slice-facts.ensures.value read in
    ap (λ key. is_held key c.loop-index.store.arrived) c.key_at.ensures.value
    ∙ ap (λ k. is_held (key_of batch c.loop-index.index item) k.arrived) c.loop-index.invariant.stored
    ∙ new_key batch c.loop-index.index item here c.args.store.now.arrived c.requires.own_keys

pub loop-index-preserved : goal.loop-index-preserved
loop-index-preserved c =
    let batch = c.args.batch.now in
    let item = c.index-facts-index.result in
    let read = slice_get_read c.as_slice-facts.result.now (length c.as_slice-facts.result.now) c.loop-index.index item refl c.loop-index-test.true
    c.index-facts-index.is in
    let here = subst (λ fs. slice_get fs c.loop-index.index ≡ Some item) c.as_slice-facts.ensures.value read in
    record {
      stored = ap stored c.insert.ensures.value
          ∙ stored_more (stored c.args.store.now) (stored c.loop-index.store) batch c.loop-index.index c.key_at.result item c.loop-index.invariant.stored c.key_at.ensures.value
          here;
      listed = ap (λ k. k.listed) c.insert.ensures.value ∙ c.loop-index.invariant.listed;
      in_range = all_next IsFact batch.facts c.loop-index.index item here c.loop-index.invariant.in_range c.key_at.ensures.in_range;
    }

pub returns-clause-value : goal.returns-clause-value
returns-clause-value c =
    let all : c.loop-index.index ≡ length c.args.batch.now.facts =
    omega (arith, ap length c.as_slice-facts.ensures.value, c.loop-index-test.false, c.loop-index.auto.index-end) in
    c.loop-index.invariant.stored ∙ stored_all (stored c.args.store.now) c.args.batch.now c.loop-index.index all
