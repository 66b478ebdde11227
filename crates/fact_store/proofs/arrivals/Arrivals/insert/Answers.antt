use Rattle.std.proofs.Common.{◌≡◌, ◌+◌, ◌<◌, false, Some, [], ◌∷◌, ◌++◌, length, drop, slice_get, refl, sym, ap, subst, arith}
use Rattle.std.proofs.lemmas.List.{drop-drop, length-drop}
use Rattle.fact_store.specs.Kept.{is_held}
use Rattle.fact_store.proofs.KeepLemmas.{apart_more, spare_first}
use Rattle.fact_store.proofs.arrivals.Arrivals.insert.Goals as goal

pub invariant_of-self : goal.invariant_of-self
invariant_of-self c =
    let inside = c.self.inside in
    let was = c.self.invariant in
    let fact = c.args.fact in
    let first = subst (λ s. slice_get s.spare 0 ≡ Some fact) (sym c.self.view_is) c.requires.roomy in
    let new_key = subst (λ s. is_held c.args.key s.arrived ≡ false) (sym c.self.view_is) c.requires.new_key in
    let few = subst (λ s. length s.arrived < 8_000_000) (sym c.self.view_is) c.requires.few in
    let spare = spare_first inside.reserved.items inside.used fact first in
    record {
      apart = rw c.push_reserved.ensures.items (apart_more inside.arrived.items c.args.key fact was.apart new_key);
      few = omega (arith, few, inside.arrived.ok.0, c.push_reserved.ensures.len);
      come = omega (arith, was.come, ap length spare, length-drop inside.used inside.reserved.items, inside.reserved.ok.0);
      room = omega (arith, was.room, ap length spare, c.push_reserved.ensures.len, c.push_reserved.ensures.capacity);
    }

pub returns : goal.returns
returns c =
    let inside = c.self.inside in
    let rest : drop 1 (drop inside.used inside.reserved.items) ≡ drop (inside.used + 1) inside.reserved.items = drop-drop 1 inside.used inside.reserved.items in
    rw c.push_reserved.ensures.items
    (record {
      value = subst (λ s. record { arrived = inside.arrived.items ++ (c.args.key, c.args.fact) ∷ []; spare = drop (inside.used + 1) inside.reserved.items }
          ≡ record { arrived = s.arrived ++ (c.args.key, c.args.fact) ∷ []; spare = drop 1 s.spare }) c.self.view_is (rw rest refl);
    })
