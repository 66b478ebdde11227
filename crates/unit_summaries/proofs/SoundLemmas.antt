-- What is true of summaries stays true when some are renewed and when a view is answered.
use Rattle.std.proofs.Common.{◌≡◌, ℕ, ◌≤◌, true, false, cond, nat_eq, Some, None, List, [], length, drop, sym, ap, ◌∙◌, subst, inl, inr, arith}
use Rattle.std.specs.Prelude.{Contains}
use Rattle.std.specs.List.{AllByRecursion}
use Rattle.std.proofs.lemmas.Bool.{cases_Bool, eqb-true, false≢true}
use Rattle.std.proofs.lemmas.List.{drop_all}
use Rattle.list_words.proofs.Members.{all_at, among_from_Contains}
use Rattle.fact_kinds.specs.Facts.{Entry}
use Rattle.fact_kinds.specs.Named.{component_of, is_numbered}
use Rattle.ldar_law.specs.Equipment.{members_of}
use Rattle.ldar_law.specs.Stirred.{is_touched}
use Rattle.unit_summaries.specs.declared.kept.DayTallies.{DayTallies}
use Rattle.unit_summaries.specs.declared.summary.Summary.{Summary}
use Rattle.unit_summaries.specs.declared.summary.UnitSummary.{UnitSummary}
use Rattle.unit_summaries.specs.Kept.{AreCounted}
use Rattle.unit_summaries.specs.Rows.{Rows, RenewsRows, is_fresh}
use Rattle.unit_summaries.specs.Says.{IsSaid, IsUnitSaid, Says, SaysUnit}
use Rattle.unit_summaries.specs.Sound.{Are, IsRenewed, Sums, answered_at, is_known}

-- without facts there is nothing to keep
pub are_none : (components : Rows Summary) (units : Rows UnitSummary) → components.fresh ≡ [] → units.fresh ≡ []
    → components.slots ≡ [] → Are [] [] 0 (record { components = components; units = units; answered = []; kept = [] })
are_none components units none no_units empty = record {
  fresh = λ n is. absurd (let never : false ≡ true = rw none at is in cc);
  stale = λ u n held old. absurd (omega (arith, held.1));
  tail = tt;
  lists = λ u is. absurd (let never : false ≡ true = rw no_units at is in cc);
  unread = λ u known old. absurd cc;
  asked = λ u. omega arith;
  counted = record { orderly = λ n x is. absurd (let never : None ≡ Some x = rw empty at is in cc); kept = tt };
}

module _ (facts arrived : List Entry) (s : Sums) (are : Are facts arrived (length arrived) s) where
  none_left : (P : Entry → Type 0) → AllByRecursion P (drop (length arrived) arrived)
  none_left P = subst (AllByRecursion P) (sym (drop_all (length arrived) arrived (omega arith))) tt

  -- after summaries of components were renewed
  pub renewed_components : (t : Rows Summary) (kept : List DayTallies) → RenewsRows (Says facts) s.components t → AreCounted facts t s.units kept
      → Are facts arrived (length arrived) (record s { components = t; kept = kept })
  renewed_components t kept renews counted = record {
    fresh = λ n is. elim (renews.row n is) [
      | inl old ↦ subst (IsSaid facts n) (sym old.1) (are.fresh n old.0)
      | inr new ↦ subst (IsSaid facts n) (sym new.1) new.2
    ];
    stale = λ u n held is. are.stale u n held (still_stale n is);
    tail = none_left (λ e. (n : ℕ) → is_numbered (component_of e.1.body) n ≡ true → is_fresh t n ≡ false);
    lists = are.lists;
    unread = are.unread;
    asked = are.asked;
    counted = counted;
  }
    where
      still_stale : (n : ℕ) → is_fresh t n ≡ false → is_fresh s.components n ≡ false
      still_stale n is = elim (cases_Bool (is_fresh s.components n)) [
        | inl was ↦ absurd (false≢true (sym is ∙ renews.fresh n was))
        | inr was ↦ was
      ]

  -- .. or those of process units
  pub renewed_units : (t : Rows UnitSummary) (kept : List DayTallies) → RenewsRows (SaysUnit facts) s.units t → AreCounted facts s.components t kept
      → Are facts arrived (length arrived) (record s { units = t; kept = kept })
  renewed_units t kept renews counted = record {
    fresh = are.fresh;
    stale = are.stale;
    tail = are.tail;
    lists = λ u is. elim (renews.row u is) [
      | inl old ↦ subst (IsUnitSaid facts u) (sym old.1) (are.lists u old.0)
      | inr new ↦ subst (IsUnitSaid facts u) (sym new.1) new.2
    ];
    unread = λ u known is. are.unread u known (still_stale u is);
    asked = are.asked;
    counted = counted;
  }
    where
      still_stale : (n : ℕ) → is_fresh t n ≡ false → is_fresh s.units n ≡ false
      still_stale n is = elim (cases_Bool (is_fresh s.units n)) [
        | inl was ↦ absurd (false≢true (sym is ∙ renews.fresh n was))
        | inr was ↦ was
      ]

  -- with room for more numbers of facts
  pub with_places : (answered : List ℕ) → ((u : ℕ) → answered_at (record s { answered = answered }) u ≡ answered_at s u)
      → Are facts arrived (length arrived) (record s { answered = answered })
  with_places answered same = record {
    fresh = are.fresh;
    stale = λ u n held is. subst (λ k. is_touched facts (drop k arrived) n ≡ true) (sym (same u)) (are.stale u n held is);
    tail = are.tail;
    lists = are.lists;
    unread = λ u known is. subst (λ k. is_known (drop k arrived) u ≡ true) (sym (same u)) (are.unread u known is);
    asked = λ u. subst (λ k. k ≤ length arrived) (sym (same u)) (are.asked u);
    counted = are.counted;
  }

  -- with other counts of quarters
  pub with_kept : (kept : List DayTallies) → AreCounted facts s.components s.units kept → Are facts arrived (length arrived) (record s { kept = kept })
  with_kept kept counted = record {
    fresh = are.fresh;
    stale = are.stale;
    tail = are.tail;
    lists = are.lists;
    unread = are.unread;
    asked = are.asked;
    counted = counted;
  }

  -- after a view of a process unit was answered
  pub answered_now : (unit : ℕ) (answered : List ℕ) → is_fresh s.units unit ≡ true
      → AllByRecursion (λ n. is_fresh s.components n ≡ true) (members_of unit facts)
      → ((u : ℕ) → answered_at (record s { answered = answered }) u ≡ cond (nat_eq u unit) (length arrived) (answered_at s u))
      → Are facts arrived (length arrived) (record s { answered = answered })
  answered_now unit answered fresh members updates = record {
    fresh = are.fresh;
    stale = λ u n held is. elim (cases_Bool (nat_eq u unit)) [
      | inl here ↦
          let among = among_from_Contains (members_of unit facts) n (subst (λ v. Contains (members_of v facts) n) (eqb-true u unit here) held) in
          absurd (false≢true (sym is ∙ all_at (λ m. is_fresh s.components m ≡ true) (members_of unit facts) n members among))
      | inr else ↦
          subst (λ k. is_touched facts (drop k arrived) n ≡ true) (sym (updates u ∙ ap (λ b. cond b (length arrived) (answered_at s u)) else))
          (are.stale u n held is)
    ];
    tail = are.tail;
    lists = are.lists;
    unread = λ u known is. elim (cases_Bool (nat_eq u unit)) [
      | inl here ↦ absurd (false≢true (sym is ∙ subst (λ v. is_fresh s.units v ≡ true) (sym (eqb-true u unit here)) fresh))
      | inr else ↦
          subst (λ k. is_known (drop k arrived) u ≡ true) (sym (updates u ∙ ap (λ b. cond b (length arrived) (answered_at s u)) else))
          (are.unread u known is)
    ];
    asked = λ u. elim (cases_Bool (nat_eq u unit)) [
      | inl here ↦ omega (arith, updates u ∙ ap (λ b. cond b (length arrived) (answered_at s u)) here)
      | inr else ↦ omega (arith, updates u ∙ ap (λ b. cond b (length arrived) (answered_at s u)) else, are.asked u)
    ];
    counted = are.counted;
  }

-- the same summaries are still up to date
pub still_renewed : (facts : List Entry) (unit : ℕ) (old new : Sums) → new.components ≡ old.components → new.units ≡ old.units
    → IsRenewed facts unit old → IsRenewed facts unit new
still_renewed facts unit old new components units renewed = record {
  shown = ap (λ (rows : Rows UnitSummary). is_fresh rows unit) units ∙ renewed.shown;
  members = subst (λ (rows : Rows Summary). AllByRecursion (λ n. is_fresh rows n ≡ true) (members_of unit facts)) (sym components) renewed.members;
}
