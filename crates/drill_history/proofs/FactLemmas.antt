-- Facts of a drill that no rule denies, each judged after facts that are stated.
use Rattle.std.proofs.Common.{◌≡◌, ℕ, Bool, true, false, not, ◌||◌, nat_lt, nat_eq, Option, Some, None, List, [], ◌∷◌, ◌++◌, filter, filter_map, slice_get}
use Rattle.std.proofs.Common.{refl, sym, ap, ◌∙◌, inl, inr, find}
use Rattle.std.specs.List.{AllByRecursion, list_any, cons_option}
use Rattle.std.specs.Option.{is_some, is_none, option_map}
use Rattle.std.proofs.lemmas.Bool.{cases_Bool, false≢true, or_parts}
use Rattle.list_words.specs.Order.{put_each, put_in_order}
use Rattle.list_words.proofs.PutLemmas.{list_any-put}
use Rattle.fact_kinds.specs.declared.body.FactBody.{FactBody}
use Rattle.fact_kinds.specs.declared.body.FactBody.TheVariants.{Unit as UnitFact, Component as ComponentFact, Class as ClassFact, Calibration, Precision, Reading}
use Rattle.fact_kinds.specs.declared.body.Purpose.TheVariants.{Routine}
use Rattle.fact_kinds.specs.declared.class.Kind.TheVariants.{Valve}
use Rattle.fact_kinds.specs.declared.key.Key.{Key}
use Rattle.fact_kinds.specs.Facts.{Entry, goes_first}
use Rattle.fact_kinds.specs.Stated.{Stated}
use Rattle.ldar_law.specs.declared.equipment.Equipment.{Equipment}
use Rattle.ldar_law.specs.declared.numbers.TheConstants.{LAST_FACT_DAY}
use Rattle.ldar_law.specs.Denials.{is_vacuum, is_under_300}
use Rattle.ldar_law.specs.Equipment.{component_entered, class_entered, classes_of, unit_entry_of}
use Rattle.ldar_law.specs.Force.{class_on}
use Rattle.ldar_law.specs.Judged.{Register, Case, register_with, case_of, first_entry, class_held}
use Rattle.ldar_law.specs.RegisterLaws.{enters_component, enters_unit}
use Rattle.ldar_law.specs.Slices.{is_registered, register_facts}
use Rattle.ldar_law.specs.Verdicts.{Rule, rules, least_rule}
use Rattle.history_laws.proofs.Counting.{list_any-append}
use Rattle.history_laws.proofs.OnceLemmas.{entered_there, unit_there}
use Rattle.history_laws.proofs.Passing.{something}
use Rattle.drill_history.specs.Drill.{valve_class}

-- ---- a fact that no rule denies

-- if each rule lets a fact pass, none is found
none_found : (case : Case) (xs : List Rule) → AllByRecursion (λ rule. rule.denies case ≡ false) xs → find (λ rule. rule.denies case) xs ≡ None
none_found case [] all = refl
none_found case (x ∷ xs) all = rw all.0 (none_found case xs all.1)

-- .. and no rule is reported
undenied : (case : Case) → AllByRecursion (λ rule. rule.denies case ≡ false) rules → least_rule case ≡ None
undenied case all = ap (option_map (λ rule. rule.number)) (none_found case rules all)

-- the fact enters a component that is out of the program, or a class
abbrev pub excludes : FactBody → Bool
excludes (ComponentFact _ _ _ _ _ class) = is_vacuum class.service || is_under_300 class.service
excludes (ClassFact _ _) = true
excludes _ = false

module _ (known whole : Register) (key : Key) (in_time : nat_lt LAST_FACT_DAY key.day ≡ false) where
  abbrev judged : Stated → Case
  judged fact = record { entry = (key, fact); known = known; whole = whole }

  precision_undenied : (day minute instrument value : ℕ) (readings : ℕ × ℕ × ℕ)
      → least_rule (judged (record { day = day; minute = minute; body = Precision instrument value readings })) ≡ None
  precision_undenied day minute instrument value readings =
      undenied (judged (record { day = day; minute = minute; body = Precision instrument value readings }))
      (refl, (refl, (refl, (refl, (refl, (refl, (refl, (refl, (refl, (refl, (refl, (refl, (refl, (refl, (refl, (refl, (refl, (refl, (in_time, (refl, (refl, tt)))))))))))))))))))))

  calibration_undenied : (day minute instrument gas : ℕ)
      → least_rule (judged (record { day = day; minute = minute; body = Calibration instrument gas })) ≡ None
  calibration_undenied day minute instrument gas =
      undenied (judged (record { day = day; minute = minute; body = Calibration instrument gas }))
      (refl, (refl, (refl, (refl, (refl, (refl, (refl, (refl, (refl, (refl, (refl, (refl, (refl, (refl, (refl, (refl, (refl, (refl, (in_time, (refl, (refl, tt)))))))))))))))))))))

  unit_undenied : (day minute number : ℕ) (older : Bool) (name : List ℕ) → key.handheld ≡ 0 → is_some (unit_entry_of number known.entered) ≡ false
      → least_rule (judged (record { day = day; minute = minute; body = UnitFact number older name })) ≡ None
  unit_undenied day minute number older name own new =
      undenied (judged (record { day = day; minute = minute; body = UnitFact number older name }))
      (refl, (refl, (refl, (refl, (refl, (refl, (refl, (refl, (refl, (refl, (refl, (refl, (refl, (refl, (refl, (ap (nat_lt 0) own, (refl, (new, (in_time, (refl, (refl, tt)))))))))))))))))))))

  valve_undenied : (day minute number unit : ℕ) → key.handheld ≡ 0 → is_none (unit_entry_of unit known.entered) ≡ false
      → is_some (first_entry number known.entered) ≡ false
      → least_rule (judged (record { day = day; minute = minute; body = ComponentFact number unit Valve false false valve_class })) ≡ None
  valve_undenied day minute number unit own entered new =
      undenied (judged (record { day = day; minute = minute; body = ComponentFact number unit Valve false false valve_class }))
      (refl, (refl, (refl, (refl, (refl, (refl, (refl, (refl, (refl, (refl, (refl, (refl, (refl, (refl, (refl, (ap (nat_lt 0) own, (entered, (new, (in_time, (refl, (refl, tt)))))))))))))))))))))

  reading_undenied : (day minute number ppm : ℕ) (item : Equipment) → first_entry number known.entered ≡ Some item
      → is_vacuum (class_held known item key.day).service ≡ false → is_under_300 (class_held known item key.day).service ≡ false
      → least_rule (judged (record { day = day; minute = minute; body = Reading number 1 1 Routine ppm 0 })) ≡ None
  reading_undenied day minute number ppm item found not_vacuum not_short =
      undenied (judged (record { day = day; minute = minute; body = Reading number 1 1 Routine ppm 0 }))
      (ap is_none found, (ap (λ o. elim o [ None ↦ false | Some item ↦ is_vacuum (class_held known item key.day).service ]) found ∙ not_vacuum, (ap (λ o. elim o [ None ↦ false | Some item ↦ is_under_300 (class_held known item key.day).service ]) found ∙ not_short, (refl, (refl, (refl, (refl, (refl, (refl, (refl, (refl, (refl, (refl, (refl, (refl, (refl, (refl, (refl, (in_time, (refl, (refl, tt)))))))))))))))))))))

none_not : {X : Type 0} (o : Option X) → is_none o ≡ not (is_some o)
none_not None = refl
none_not (Some x) = refl

-- ---- facts that are stated

-- the entries have the bodies of these facts, in any order
abbrev pub States : List Entry → List Stated → Type 0
States entries done = (p : FactBody → Bool) → list_any (λ e. p e.1.body) entries ≡ list_any (λ f. p f.body) done

-- three disjuncts change places
or_moved : (a b c : Bool) → ((a || b) || c) ≡ (b || (a || c))
or_moved true true c = refl
or_moved true false c = refl
or_moved false b c = refl

or_nothing : (b : Bool) → b ≡ (b || false)
or_nothing true = refl
or_nothing false = refl

-- a test of entries that are put among others
any_put_each : (p : Entry → Bool) (more es : List Entry) → list_any p (put_each goes_first more es) ≡ list_any p (es ++ more)
any_put_each p [] es = or_nothing (list_any p es) ∙ sym (list_any-append p es [])
any_put_each p (x ∷ xs) es =
    any_put_each p xs (put_in_order goes_first x es)
    ∙ list_any-append p (put_in_order goes_first x es) xs
    ∙ ap (λ b. b || list_any p xs) (list_any-put p goes_first x es)
    ∙ or_moved (p x) (list_any p es) (list_any p xs)
    ∙ sym (list_any-append p es (x ∷ xs))

-- no part of a list has an element that passes, if the list has none
any_filtered : (p q : Entry → Bool) (es : List Entry) → list_any p es ≡ false → list_any p (filter q es) ≡ false
any_filtered p q [] none = refl
any_filtered p q (e ∷ es) none =
    let parts = or_parts (p e) (list_any p es) none in
    elim (cases_Bool (q e)) [
      | inl here ↦ rw (here, parts.0) (any_filtered p q es parts.1)
      | inr gone ↦ rw gone (any_filtered p q es parts.1)
    ]

-- ---- a component after facts that exclude none

no_class : (number : ℕ) (body : FactBody) → excludes body ≡ false → class_entered number body ≡ None
no_class number (ClassFact other class) none = absurd (false≢true (sym none))
no_class number _ none = refl

-- no class is entered
no_classes : (number : ℕ) (es : List Entry) → list_any (λ e. excludes e.1.body) es ≡ false → classes_of number es ≡ []
no_classes number [] none = refl
no_classes number (e ∷ es) none =
    let parts = or_parts (excludes e.1.body) (list_any (λ e. excludes e.1.body) es) none in
    ap (λ o. cons_option (option_map (λ class. (e.0, class)) o) (classes_of number es)) (no_class number e.1.body parts.0)
    ∙ no_classes number es parts.1

-- a component is in the program if its fact says so
entered_class : (number day : ℕ) (body : FactBody) (item : Equipment) → component_entered number None day body ≡ Some item
    → (is_vacuum item.class.service || is_under_300 item.class.service) ≡ excludes body
entered_class number day (ComponentFact other unit kind monomer replaces class) item e =
    elim (cases_Bool (nat_eq other number)) [
      | inl same ↦
          let entered : Equipment =
          record { component = number; unit = unit; kind = kind; monomer = monomer; replaces = replaces; begin = day; retired = None; class = class } in
          let given : Some entered ≡ Some item = rw same at e in
          let is : entered ≡ item = cc in
          sym (ap (λ i. is_vacuum i.class.service || is_under_300 i.class.service) is)
      | inr other ↦ let given : None ≡ Some item = rw other at e in absurd cc
    ]
entered_class number day _ item e = absurd cc

-- the first entry of a component is in the program
entered_in : (number : ℕ) (es : List Entry) (item : Equipment) → list_any (λ e. excludes e.1.body) es ≡ false → first_entry number es ≡ Some item
    → (is_vacuum item.class.service || is_under_300 item.class.service) ≡ false
entered_in number [] item none found = absurd cc
entered_in number (e ∷ es) item none found =
    let parts = or_parts (excludes e.1.body) (list_any (λ e. excludes e.1.body) es) none in
    elim (component_entered number None e.0.day e.1.body) as (λ o. component_entered number None e.0.day e.1.body ≡ o
    → slice_get (cons_option o (filter_map (λ e. component_entered number None e.0.day e.1.body) es)) 0 ≡ Some item
    → (is_vacuum item.class.service || is_under_300 item.class.service) ≡ false) [
      | None ↦ λ is first. entered_in number es item parts.1 first
      | Some other ↦ λ is first.
          let same : Some other ≡ Some item = first in
          entered_class number e.0.day e.1.body item (is ∙ same) ∙ parts.0
    ] refl found

-- ---- each fact, after facts that are stated

module _ (done : List Stated) (held earlier later : List Entry) (key : Key) (in_time : nat_lt LAST_FACT_DAY key.day ≡ false)
    (states : States (held ++ earlier) done) where
  abbrev known : Register
  known = register_with held earlier

  abbrev whole : Stated → Register
  whole fact = register_with held (earlier ++ (key, fact) ∷ later)

  -- what was entered
  entered_is : known.entered ≡ register_facts (held ++ earlier)
  unfolding register_with
  entered_is = refl

  ordered_is : known.in_order ≡ register_facts (put_each goes_first earlier held)
  unfolding register_with
  ordered_is = refl

  has_component : (number : ℕ) → is_some (first_entry number known.entered) ≡ list_any (λ f. enters_component number f.body) done
  has_component number =
      ap (λ es. is_some (first_entry number es)) entered_is
      ∙ entered_there number (held ++ earlier)
      ∙ states (enters_component number)

  has_unit : (number : ℕ) → is_some (unit_entry_of number known.entered) ≡ list_any (λ f. enters_unit number f.body) done
  has_unit number =
      ap (λ es. is_some (unit_entry_of number es)) entered_is
      ∙ unit_there number (held ++ earlier)
      ∙ states (enters_unit number)

  pub test_passes : (day minute instrument value : ℕ) (readings : ℕ × ℕ × ℕ)
      → least_rule (case_of held earlier (key, record { day = day; minute = minute; body = Precision instrument value readings }) later) ≡ None
  test_passes day minute instrument value readings =
      precision_undenied known (whole (record { day = day; minute = minute; body = Precision instrument value readings })) key in_time
      day minute instrument value readings

  pub calibration_passes : (day minute instrument gas : ℕ)
      → least_rule (case_of held earlier (key, record { day = day; minute = minute; body = Calibration instrument gas }) later) ≡ None
  calibration_passes day minute instrument gas =
      calibration_undenied known (whole (record { day = day; minute = minute; body = Calibration instrument gas })) key in_time
      day minute instrument gas

  pub unit_passes : (day minute number : ℕ) (older : Bool) (name : List ℕ) → key.handheld ≡ 0 → list_any (λ f. enters_unit number f.body) done ≡ false
      → least_rule (case_of held earlier (key, record { day = day; minute = minute; body = UnitFact number older name }) later) ≡ None
  unit_passes day minute number older name own new =
      unit_undenied known (whole (record { day = day; minute = minute; body = UnitFact number older name })) key in_time
      day minute number older name own (has_unit number ∙ new)

  pub valve_passes : (day minute number unit : ℕ) → key.handheld ≡ 0 → list_any (λ f. enters_unit unit f.body) done ≡ true
      → list_any (λ f. enters_component number f.body) done ≡ false
      → least_rule (case_of held earlier (key, record { day = day; minute = minute; body = ComponentFact number unit Valve false false valve_class }) later) ≡ None
  valve_passes day minute number unit own entered new =
      valve_undenied known (whole (record { day = day; minute = minute; body = ComponentFact number unit Valve false false valve_class })) key in_time
      day minute number unit own (none_not (unit_entry_of unit known.entered) ∙ ap not (has_unit unit ∙ entered)) (has_component number ∙ new)

  pub reading_passes : (day minute number ppm : ℕ) → list_any (λ f. enters_component number f.body) done ≡ true → list_any (λ f. excludes f.body) done ≡ false
      → least_rule (case_of held earlier (key, record { day = day; minute = minute; body = Reading number 1 1 Routine ppm 0 }) later) ≡ None
  reading_passes day minute number ppm entered none =
      let found = something (first_entry number known.entered) (has_component number ∙ entered) in
      let item = found.0 in
      let nothing = states excludes ∙ none in
      let nothing_entered : list_any (λ e. excludes e.1.body) (register_facts (held ++ earlier)) ≡ false =
      any_filtered (λ e. excludes e.1.body) (λ e. is_registered e.1.body) (held ++ earlier) nothing in
      let in_program = entered_in number (register_facts (held ++ earlier)) item nothing_entered (sym (ap (first_entry number) entered_is) ∙ found.1) in
      let parts = or_parts (is_vacuum item.class.service) (is_under_300 item.class.service) in_program in
      let ordered : list_any (λ e. excludes e.1.body) (register_facts (put_each goes_first earlier held)) ≡ false =
      any_filtered (λ e. excludes e.1.body) (λ e. is_registered e.1.body) (put_each goes_first earlier held)
      (any_put_each (λ e. excludes e.1.body) earlier held ∙ nothing) in
      let class : class_held known item key.day ≡ item.class =
      ap (λ es. class_on item (classes_of item.component es) key.day) ordered_is
      ∙ ap (λ classes. class_on item classes key.day) (no_classes item.component (register_facts (put_each goes_first earlier held)) ordered) in
      reading_undenied known (whole (record { day = day; minute = minute; body = Reading number 1 1 Routine ppm 0 })) key in_time
      day minute number ppm item found.1 (ap (λ c. is_vacuum c.service) class ∙ parts.0) (ap (λ c. is_under_300 c.service) class ∙ parts.1)
