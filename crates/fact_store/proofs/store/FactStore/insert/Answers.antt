use Rattle.std.proofs.Common.{◌≡◌, false, Some, slice_get, sym, ap, subst}
use Rattle.fact_store.specs.declared.naming.Naming.TheVariants.{Component, Unit as OfUnit, Tested, Reading}
use Rattle.fact_store.specs.Kept.{is_held}
use Rattle.fact_store.proofs.KeepLemmas.{can_come, has_come}
use Rattle.fact_store.proofs.store.FactStore.insert.Goals as goal

pub put-requires-clause-takes : goal.put-requires-clause-takes
put-requires-clause-takes c =
    let kept = c.self.inside.arrivals in
    let first = subst (λ s. slice_get s.spare 0 ≡ Some c.args.fact) (sym c.self.view_is) c.requires.roomy in
    rw c.entries-arrived.ensures.value
    (can_come Component kept.arrived kept.spare c.args.fact c.fact.inside.body (ap (λ s. s.body) c.fact.view_is) first
    c.entries-arrived.ensures.apart c.self.inside.indexes.components c.self.invariant.by_component)

pub put-requires-2-clause-takes : goal.put-requires-2-clause-takes
put-requires-2-clause-takes c =
    let kept = c.self.inside.arrivals in
    let first = subst (λ s. slice_get s.spare 0 ≡ Some c.args.fact) (sym c.self.view_is) c.requires.roomy in
    rw c.entries-arrived.ensures.value
    (can_come OfUnit kept.arrived kept.spare c.args.fact c.fact.inside.body (ap (λ s. s.body) c.fact.view_is) first
    c.entries-arrived.ensures.apart c.self.inside.indexes.units c.self.invariant.by_unit)

pub put-requires-3-clause-takes : goal.put-requires-3-clause-takes
put-requires-3-clause-takes c =
    let kept = c.self.inside.arrivals in
    let first = subst (λ s. slice_get s.spare 0 ≡ Some c.args.fact) (sym c.self.view_is) c.requires.roomy in
    rw c.entries-arrived.ensures.value
    (can_come Tested kept.arrived kept.spare c.args.fact c.fact.inside.body (ap (λ s. s.body) c.fact.view_is) first
    c.entries-arrived.ensures.apart c.self.inside.indexes.instruments c.self.invariant.by_instrument)

pub put-requires-4-clause-takes : goal.put-requires-4-clause-takes
put-requires-4-clause-takes c =
    let kept = c.self.inside.arrivals in
    let first = subst (λ s. slice_get s.spare 0 ≡ Some c.args.fact) (sym c.self.view_is) c.requires.roomy in
    rw c.entries-arrived.ensures.value
    (can_come Reading kept.arrived kept.spare c.args.fact c.fact.inside.body (ap (λ s. s.body) c.fact.view_is) first
    c.entries-arrived.ensures.apart c.self.inside.indexes.readings c.self.invariant.by_reading)

pub invariant_of-self : goal.invariant_of-self
invariant_of-self c =
    let inside = c.self.inside in
    let kept = inside.arrivals in
    let key = c.args.key in
    let fact = c.args.fact in
    let body = c.fact.inside.body in
    let stated = ap (λ s. s.body) c.fact.view_is in
    let first = subst (λ s. slice_get s.spare 0 ≡ Some fact) (sym c.self.view_is) c.requires.roomy in
    let new_key = subst (λ s. is_held key s.arrived ≡ false) (sym c.self.view_is) c.requires.new_key in
    let apart = c.entries-arrived.ensures.apart in
    let same = c.entries-arrived.ensures.value in
    rw c.insert.ensures.value
    (record {
      by_component = has_come Component kept.arrived kept.spare fact body stated first apart key inside.indexes.components c.put.new.self new_key
          c.self.invariant.by_component c.put.ensures.naming (rw same at c.put.ensures.listed) (rw same at c.put.ensures.value);
      by_unit = has_come OfUnit kept.arrived kept.spare fact body stated first apart key inside.indexes.units c.put-2.new.self new_key
          c.self.invariant.by_unit c.put-2.ensures.naming (rw same at c.put-2.ensures.listed) (rw same at c.put-2.ensures.value);
      by_instrument = has_come Tested kept.arrived kept.spare fact body stated first apart key inside.indexes.instruments c.put-3.new.self new_key
          c.self.invariant.by_instrument c.put-3.ensures.naming (rw same at c.put-3.ensures.listed) (rw same at c.put-3.ensures.value);
      by_reading = has_come Reading kept.arrived kept.spare fact body stated first apart key inside.indexes.readings c.put-4.new.self new_key
          c.self.invariant.by_reading c.put-4.ensures.naming (rw same at c.put-4.ensures.listed) (rw same at c.put-4.ensures.value);
    })
