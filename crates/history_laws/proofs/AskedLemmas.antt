use Rattle.std.proofs.Common.{◌≡◌, ℕ, Bool, true, false, Option, Some, None, List, ◌++◌}
use Rattle.std.proofs.Common.{refl, sym, ◌∙◌, subst, arith}
use Rattle.std.specs.Prelude.{codes}
use Rattle.std.specs.List.{list_any}
use Rattle.std.specs.Option.{is_some, is_none}
use Rattle.list_words.proofs.Members.{all_at, all_from_among}
use Rattle.fact_kinds.specs.declared.batch.Batch.{Batch}
use Rattle.fact_kinds.specs.Facts.{Entry, facts_of}
use Rattle.ldar_law.specs.Denials as denials
use Rattle.ldar_law.specs.Denials.{component_asked, unit_asked}
use Rattle.ldar_law.specs.Equipment.{unit_entry_of}
use Rattle.ldar_law.specs.Judged.{Register, register_with, first_entry}
use Rattle.ldar_law.specs.RegisterLaws.{enters_component, enters_unit}
use Rattle.ldar_law.specs.Verdicts.{Rule, numbered}
use Rattle.ldar_law.proofs.EnteredLemmas.{component_where_entered, unit_where_entered}
use Rattle.history_laws.specs.RulyLaws.{HasWhatItAsks, WhatIsAskedWasEntered, UnitOfComponentIsEntered}
use Rattle.history_laws.proofs.Counting.{any_among, among_any}
use Rattle.history_laws.proofs.Passing.{is_something, something, let_pass, Came, came, came_before}
use Rattle.history_laws.proofs.Origins.{origin}
use Rattle.history_laws.proofs.OnceLemmas.{entered_there, unit_there}

-- ---- what facts need

-- rule 17
abbrev unknown_unit_rule : Rule
unknown_unit_rule = numbered 17 (codes "P2") denials.unit_unknown

-- rule 1
abbrev unknown_component_rule : Rule
unknown_component_rule = numbered 1 (codes "60.486a(e)(1)") denials.component_unknown

-- the unit that rule 17 needs was entered
known_unit : (asked : Option ℕ) (known : Register) (number : ℕ) → asked ≡ Some number
    → (elim asked [ None ↦ false | Some unit ↦ is_none (unit_entry_of unit known.entered) ]) ≡ false → is_some (unit_entry_of number known.entered) ≡ true
known_unit None known number e h = absurd cc
known_unit (Some unit) known number e h =
    let same : unit ≡ number = cc in
    subst (λ n. is_some (unit_entry_of n known.entered) ≡ true) same (is_something (unit_entry_of unit known.entered) h)

-- the component that rule 1 needs was entered
known_component : (asked : Option ℕ) (known : Register) (number : ℕ) → asked ≡ Some number
    → (elim asked [ None ↦ false | Some c ↦ is_none (first_entry c known.entered) ]) ≡ false → is_some (first_entry number known.entered) ≡ true
known_component None known number e h = absurd cc
known_component (Some c) known number e h =
    let same : c ≡ number = cc in
    subst (λ n. is_some (first_entry n known.entered) ≡ true) same (is_something (first_entry c known.entered) h)

module _ (history : List Batch) (entry : Entry) (c : Came history entry) (number : ℕ) where
  -- the process unit that a fact of a ruly history needs was entered before it
  unit_entered_before : unit_asked entry.1.body ≡ Some number → list_any (λ e. enters_unit number e.1.body) (facts_of c.earlier ++ c.before) ≡ true
  unfolding register_with
  unit_entered_before asked =
      sym (unit_there number (facts_of c.earlier ++ c.before))
      ∙ known_unit (unit_asked entry.1.body) (register_with (facts_of c.earlier) c.before) number asked
      (let_pass c.earlier c.batch c.passes c.before entry c.after c.stands unknown_unit_rule (16, omega arith, refl))

  -- the component that a fact of a ruly history needs was entered before it
  component_entered_before : component_asked entry.1.body ≡ Some number
      → list_any (λ e. enters_component number e.1.body) (facts_of c.earlier ++ c.before) ≡ true
  unfolding register_with
  component_entered_before asked =
      sym (entered_there number (facts_of c.earlier ++ c.before))
      ∙ known_component (component_asked entry.1.body) (register_with (facts_of c.earlier) c.before) number asked
      (let_pass c.earlier c.batch c.passes c.before entry c.after c.stands unknown_component_rule (0, omega arith, refl))

  -- what some earlier fact passes, some fact of the history passes
  entered_at_last : (p : Entry → Bool) → list_any p (facts_of c.earlier ++ c.before) ≡ true → list_any p (facts_of history) ≡ true
  entered_at_last p some =
      let found = any_among p (facts_of c.earlier ++ c.before) some in
      among_any p (facts_of history) found.0 (came_before history entry found.0 c found.1) found.2

pub what_is_asked_was_entered : WhatIsAskedWasEntered
what_is_asked_was_entered history ruly =
    all_from_among (HasWhatItAsks (facts_of history)) (facts_of history) (λ entry among.
    let c = came history ruly entry among in
    record {
      unit = λ number asked. unit_where_entered number (facts_of history)
          ∙ entered_at_last history entry c number (λ e. enters_unit number e.1.body) (unit_entered_before history entry c number asked);
      component = λ number asked. (component_where_entered number (facts_of history)).0
          ∙ entered_at_last history entry c number (λ e. enters_component number e.1.body) (component_entered_before history entry c number asked);
    })

pub unit_of_component_is_entered : UnitOfComponentIsEntered
unit_of_component_is_entered history number item ruly e =
    let o = origin number (facts_of history) item e in
    let asks = all_at (HasWhatItAsks (facts_of history)) (facts_of history) o.entry (what_is_asked_was_entered history ruly) o.held in
    something (unit_entry_of item.unit (facts_of history)) (asks.unit item.unit o.begins.asks)
