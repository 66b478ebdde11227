-- The marks of the quarters from quarter 1 on, one after the other.
use Rattle.std.proofs.Common.{◌≡◌, ℕ, ◌+◌, ◌-◌, ◌<◌, ◌≤◌, Bool, false, Option, List, map, replicate, set, refl, sym, ap, ◌∙◌, inl, inr, arith}
use Rattle.std.proofs.lemmas.Bool.{cases_eq}
use Rattle.std.proofs.lemmas.List.{get_or-replicate, get_or-set_same, get_or-set_other, length-replicate, length-set, same_lists}
use Rattle.std.proofs.lemmas.List.FromFn.{length-map-range_with_len, get_or-map-range_with_len}
use Rattle.list_words.specs.Ranges.{until, from_to}
use Rattle.fact_kinds.specs.declared.class.Class.{Class}
use Rattle.fact_kinds.specs.declared.key.Key.{Key}
use Rattle.fact_kinds.specs.Named.{is_numbered}
use Rattle.ldar_law.specs.declared.equipment.Equipment.{Equipment}
use Rattle.ldar_law.specs.declared.event.Event.{Event}
use Rattle.ldar_law.specs.declared.tally.Mark.{Mark}
use Rattle.ldar_law.specs.Force.{class_on}
use Rattle.ldar_law.specs.Kinds.{is_valve}
use Rattle.ldar_law.specs.Percent.{is_first_missed, judging_day, mark_of}
use Rattle.ldar_law.proofs.KindLemmas.{no_valve_rules}
use Rattle.skip_periods.specs.Seen.{AreSeen, AreMarkedTo, PutsMissed, mark_for, seen_in, seen_or_missed}

-- the mark of a component that is counted in no quarter
abbrev no_mark : Mark
no_mark = record { leaking = false; monitored = false }

module _ (item : Equipment) (classes : List (Key × Class)) (startup : ℕ) (events : List Event) (delayed : List Bool) (day quarter : ℕ) where
  -- no marks yet
  pub marked_none : (seen told : List Mark) (missed : Option ℕ) → AreSeen startup events quarter seen → PutsMissed missed seen told →
      ((q : ℕ) → is_numbered missed q ≡ is_first_missed item classes startup events false q day) →
      AreMarkedTo item classes startup events delayed day quarter 0 told
  marked_none seen told missed all puts says = record {
    count = puts.count ∙ all.count;
    marked = λ k d low. absurd (omega (arith, low));
    told = λ k d low within.
        puts.each k d (omega (arith, within, all.count))
        ∙ ap (λ m. seen_or_missed m (is_numbered missed (k + 1))) (all.each k d within)
        ∙ ap (seen_or_missed (seen_in startup events (k + 1))) (says (k + 1));
  }

  -- one more mark
  pub marked_more : (past place : ℕ) (marks : List Mark) (mark : Mark) → place ≡ past → past < quarter →
      AreMarkedTo item classes startup events delayed day quarter past marks → mark ≡ mark_for item classes startup events delayed day (past + 1) →
      AreMarkedTo item classes startup events delayed day quarter (past + 1) (set marks place mark)
  marked_more past place marks mark here within all is =
      rw here (record {
        count = length-set marks past mark ∙ all.count;
        marked = λ k d low.
            elim (cases_eq k past) [
              | inl same ↦ rw same (get_or-set_same marks past mark d (omega (arith, all.count, within)) ∙ is)
              | inr other ↦ get_or-set_other marks past k mark d other ∙ all.marked k d (omega (arith, low, other))
            ];
        told = λ k d low inside. get_or-set_other marks past k mark d (λ same. absurd (omega (arith, same, low))) ∙ all.told k d (omega (arith, low)) inside;
      })

  -- all marks
  pub marked_all : (past : ℕ) (marks : List Mark) → quarter ≤ past → AreMarkedTo item classes startup events delayed day quarter past marks →
      marks ≡ map (mark_for item classes startup events delayed day) (from_to 1 quarter)
  unfolding until
  marked_all past marks over all =
      let gives = mark_for item classes startup events delayed day in
      let as_many : quarter + 1 - 1 ≡ quarter = omega arith in
      same_lists marks (map gives (from_to 1 quarter)) (all.count ∙ sym (length-map-range_with_len gives 1 (quarter + 1 - 1) ∙ as_many))
      (λ k d within.
      all.marked k d (omega (arith, within, all.count, over))
      ∙ sym (get_or-map-range_with_len gives 1 (quarter + 1 - 1) k (k + 1) d (omega (arith, within, all.count)) (omega arith)))

  -- a component other than a valve is counted in no quarter
  not_counted : is_valve item.kind ≡ false → (q : ℕ) → no_mark ≡ mark_for item classes startup events delayed day q
  unfolding mark_of
  not_counted other q = rw (no_valve_rules item.kind (class_on item classes (judging_day startup q day)).service other) refl

  -- all marks of such a component are empty
  pub none_marked : is_valve item.kind ≡ false →
      replicate quarter (record { leaking = false; monitored = false }) ≡ map (mark_for item classes startup events delayed day) (from_to 1 quarter)
  unfolding until
  none_marked other =
      let gives = mark_for item classes startup events delayed day in
      let as_many : quarter + 1 - 1 ≡ quarter = omega arith in
      let count = length-replicate quarter no_mark in
      same_lists (replicate quarter no_mark) (map gives (from_to 1 quarter)) (count ∙ sym (length-map-range_with_len gives 1 (quarter + 1 - 1) ∙ as_many))
      (λ k d within.
      get_or-replicate quarter k no_mark d (omega (arith, within, count))
      ∙ not_counted other (k + 1)
      ∙ sym (get_or-map-range_with_len gives 1 (quarter + 1 - 1) k (k + 1) d (omega (arith, within, count)) (omega arith)))
