use Rattle.std.proofs.Common.{◌≡◌, ◌<◌, ◌≤◌, true, is_ok, get_or, set, length, sym, ap, ◌∙◌, subst, inl, inr, arith, refl}
use Rattle.std.specs.List.{insert}
use Rattle.std.proofs.lemmas.Bool.{cases_eq, eqb-true, ltb-false, eq-eqb, false≢true}
use Rattle.std.proofs.lemmas.List.{get_or_default, set-get_or}
use Rattle.fact_kinds.specs.declared.class.Class.{Class}
use Rattle.fact_kinds.specs.declared.key.Key.{Key}
use Rattle.component_register.specs.Classes.{later_class, put_by_day}
use Rattle.component_register.proofs.DayLemmas.{put_over, put_between}
use Rattle.component_register.proofs.classes.put_day.Goals as goal
use Rattle.component_register.proofs.classes.put_day.Goals.{then-not-precedes, else-not-precedes, else-index-len-via-then-index-len+else-eq, else-index-len-via-else-index-len}

pub returns-then-eq-clause-value : goal.returns-then-eq-clause-value
returns-then-eq-clause-value c =
    let new : Key × Class = (c.args.key, c.args.class) in
    let classes = c.args.classes.now in
    let index = c.index_for-index.result in
    let x = c.index-then-eq.result.now in
    let within : index < length classes.items = omega (arith, c.if-index-len.true, c.len.ensures, classes.ok.0) in
    let front = (rw c.deref.ensures.value at c.index_for-index.ensures.value).0 in
    let read : x ≡ get_or classes.items index x = c.index-then-eq.ensures in
    let first : c.index.result.now ≡ x = c.index.ensures ∙ get_or_default classes.items index c.index.result.now x within ∙ sym read in
    let same : x.0.day ≡ c.args.key.day = ap (λ e. e.0.day) (sym first) ∙ eqb-true _ _ (sym c.eq.ensures ∙ c.if-eq.true) in
    let put : put_by_day new classes.items ≡ set classes.items index (later_class new x) = put_over new classes.items index x within front read same in
    elim c.if-not-precedes.branch [
      | then-not-precedes w ↦
          ap (λ v. v.items) w.classes-is ∙ sym (put ∙ rw (sym c.precedes.ensures.value ∙ w.if-not-precedes.true) refl)
      | else-not-precedes w ↦
          ap (λ v. v.items) w.classes-is
          ∙ sym (put ∙ rw (sym c.precedes.ensures.value ∙ w.if-not-precedes.false) (ap (set classes.items index) read ∙ set-get_or classes.items index x))
    ]

pub returns-clause-value : goal.returns-clause-value
returns-clause-value c =
    let new : Key × Class = (c.args.key, c.args.class) in
    let classes = c.args.classes.now in
    let index = c.index_for-index.result in
    let parts = rw c.deref.ensures.value at c.index_for-index.ensures.value in
    let bound : index ≤ length classes.items = rw c.deref.ensures.value at c.index_for-index.ensures.within in
    let ok : is_ok c.insert.result ≡ true = c.insert.ensures.succeeds (omega (arith, c.requires.roomy)) in
    let put : c.insert.new.self.items ≡ insert classes.items index new = rw ok at c.insert.ensures.items in
    elim c.else-index-len.branch [
      | else-index-len-via-then-index-len+else-eq w ↦
          put ∙ sym (put_between new classes.items index bound parts.0 (λ x inside is.
          let first : w.index.result.now ≡ x = w.index.ensures ∙ get_or_default classes.items index w.index.result.now x inside ∙ sym is in
          let not_less = ltb-false _ _ (parts.1 index x (omega arith) inside) in
          let not_less_here : c.args.key.day ≤ x.0.day = subst (λ (e : Key × Class). c.args.key.day ≤ e.0.day) (sym is) not_less in
          elim (cases_eq x.0.day c.args.key.day) [
            | inl same ↦ absurd (false≢true (sym (sym w.eq.ensures ∙ w.if-eq.false) ∙ eq-eqb _ _ (ap (λ e. e.0.day) first ∙ same)))
            | inr differ ↦ omega (arith, not_less_here, differ)
          ]))
      | else-index-len-via-else-index-len w ↦
          put ∙ sym (put_between new classes.items index bound parts.0 (λ x inside is.
          absurd (omega (arith, inside, w.if-index-len.false, c.len.ensures, classes.ok.0))))
    ]
