-- What is known of a component on a day, fact by fact.
use Rattle.std.proofs.Common.{◌≡◌, ℕ, zero, suc, ◌+◌, ◌-◌, ◌<◌, ◌≤◌, Bool, true, false, ◌&&◌, ◌||◌, cond, nat_eq, nat_le, Option, Some, None, List, [], ◌∷◌, ◌++◌}
use Rattle.std.proofs.Common.{length, take, set, get_or, slice_get, unwrap_or, refl, sym, ap, ◌∙◌, subst, inl, inr, arith}
use Rattle.std.specs.List.{cons_option, list_any}
use Rattle.std.specs.Option.{option_map, option_or}
use Rattle.std.proofs.lemmas.Bool.{cases_Bool, cases_eq, eq-eqb, ne_eqb}
use Rattle.std.proofs.lemmas.List.{append_assoc, append-nil, get_or-set_same, get_or-set_other}
use Rattle.std.proofs.lemmas.List.Folds.{list_any-append}
use Rattle.list_words.specs.Order.{in_order}
use Rattle.list_words.proofs.WordLemmas.{option_or-None}
use Rattle.fact_kinds.specs.declared.body.FactBody.{FactBody}
use Rattle.fact_kinds.specs.declared.body.FactBody.TheVariants.{Component as ComponentFact}
use Rattle.fact_kinds.specs.declared.class.Class.{Class}
use Rattle.fact_kinds.specs.declared.key.Key.{Key}
use Rattle.fact_kinds.specs.Facts.{Entry, goes_first, key_of, entries_from}
use Rattle.fact_kinds.specs.Named.{component_of, is_numbered}
use Rattle.fact_kinds.specs.Stated.{Stated}
use Rattle.fact_store.specs.Kept.{facts_in}
use Rattle.ldar_law.specs.declared.equipment.Equipment.{Equipment}
use Rattle.ldar_law.specs.BatchLaws.{unretired}
use Rattle.ldar_law.specs.DenialLaws.{later_class}
use Rattle.ldar_law.specs.Equipment.{retires, retired_on, component_entered, class_at, classes_of, equipment_of}
use Rattle.ldar_law.specs.Force.{class_by, class_on, has_come, is_in_service}
use Rattle.ldar_law.specs.Judged.{Register, register_with, first_entry}
use Rattle.ldar_law.specs.Kinds.{is_valve}
use Rattle.ldar_law.specs.RegisterLaws.{with_class}
use Rattle.ldar_law.specs.Slices.{is_registered}
use Rattle.ldar_law.specs.Standing.{is_difficult_designated}
use Rattle.ldar_law.proofs.BatchLemmas.{first_entry_of_two, first_entry_is_registered, first_entry_is_equipment, equipment_is, with_retired}
use Rattle.ldar_law.proofs.Gifts.{cases_Option}
use Rattle.ldar_law.proofs.RegisterLemmas.{retired_after_facts, class_after_facts}
use Rattle.ldar_law.proofs.SliceLemmas.{unnamed_component}
use Rattle.batch_rules.specs.declared.known_facts.Known.{Known}
use Rattle.batch_rules.specs.declared.seen.Seen.{Seen}
use Rattle.batch_rules.specs.Known.{batch_of, register_by}
use Rattle.batch_rules.specs.declared.touched.Touched.{Touched}
use Rattle.batch_rules.specs.Seen.{found_in, seen_at, seen_in, seen_with, share_seen, HasTouched, IsUpTo}
use Rattle.batch_rules.specs.Shares.{added, changed}
use Rattle.batch_rules.proofs.EntryLemmas.{entries-take_more}
use Rattle.batch_rules.proofs.ShareSteps.{known_stays, named_so}

-- ---- what a component adds to a share

entered_number : (number day : ℕ) (body : FactBody) (item : Equipment) → component_entered number None day body ≡ Some item → item.component ≡ number
entered_number number day (ComponentFact other unit kind monomer replaces class) item is =
    elim (cases_Bool (nat_eq other number)) [
      | inl t ↦ let given = rw t at is in ap (λ (o : Option Equipment). elim o [ None ↦ number | Some i ↦ i.component ]) (sym given)
      | inr f ↦ let none : None ≡ Some item = rw f at is in absurd cc
    ]
entered_number number day _ item is = absurd cc

first_number : (number : ℕ) (es : List Entry) (item : Equipment) → first_entry number es ≡ Some item → item.component ≡ number
first_number number [] item is = absurd cc
first_number number (e ∷ es) item is =
    elim (cases_Option (component_entered number None e.0.day e.1.body)) [
      | inl none ↦ first_number number es item (rw none at is)
      | inr some ↦
          let here : Some some.0 ≡ Some item = rw some.1 at is in
          let same : some.0 ≡ item = cc in
          subst (λ (i : Equipment). i.component ≡ number) same (entered_number number e.0.day e.1.body some.0 some.1)
    ]

-- a component adds to a share by what is known of it
pub added_seen : (unit day number : ℕ) (register : Register) → added unit day register number ≡ share_seen unit day (seen_in register number day)
added_seen unit day number register =
    elim (cases_Option (first_entry number register.entered)) [
      | inl none ↦ rw none refl
      | inr some ↦
          let own = first_number number register.entered some.0 some.1 in
          rw (some.1, own) refl
    ]

-- ---- one more fact

abbrev made : Option Equipment → Bool → Option (Key × Class) → Seen
made item retired latest = record { item = item; retired = retired; latest = latest }

same_seen : (a b : Option Equipment) (c d : Bool) (e f : Option (Key × Class)) → a ≡ b → c ≡ d → e ≡ f → made a c e ≡ made b d f
same_seen a b c d e f p q r = rw (p, q, r) refl

or_nothing : (b : Bool) → (b || false) ≡ b
or_nothing true = refl
or_nothing false = refl

or_chain : (a b c : Bool) → (a || (b || (c || false))) ≡ ((a || b) || c)
or_chain true b c = refl
or_chain false true c = refl
or_chain false false true = refl
or_chain false false false = refl

only_one : {X : Type 0} (o : Option X) → slice_get (cons_option o []) 0 ≡ o
only_one None = refl
only_one (Some x) = refl

later_push : (number day : ℕ) (es : List Entry) (e : Entry) (latest : Option (Key × Class))
    → later_class number day (es ++ e ∷ []) latest ≡ with_class day (class_at number e) (later_class number day es latest)
later_push number day [] e latest = refl
later_push number day (x ∷ xs) e latest = later_push number day xs e (with_class day (class_at number x) latest)

module _ (arrived more : List Entry) (e : Entry) (number day : ℕ) where
  abbrev held : List Entry
  held = in_order goes_first arrived

  step_item : first_entry number (register_with held (more ++ e ∷ [])).entered
      ≡ option_or (first_entry number (register_with held more).entered) (component_entered number None e.0.day e.1.body)
  unfolding register_with
  step_item =
      first_entry_is_registered number (held ++ (more ++ e ∷ []))
      ∙ ap (first_entry number) (sym (append_assoc {A = Entry} held more (e ∷ [])))
      ∙ first_entry_of_two number (held ++ more) (e ∷ [])
      ∙ ap (λ o. option_or (first_entry number (held ++ more)) o) (only_one (component_entered number None e.0.day e.1.body))
      ∙ ap (λ o. option_or o (component_entered number None e.0.day e.1.body)) (sym (first_entry_is_registered number (held ++ more)))

  abbrev leaves : Entry → Bool
  leaves x = retires number x.1.body && nat_le x.0.day day

  step_retired : has_come (retired_on number (register_with held (more ++ e ∷ [])).in_order) day
      ≡ (has_come (retired_on number (register_with held more).in_order) day || leaves e)
  step_retired =
      retired_after_facts number day arrived (more ++ e ∷ [])
      ∙ ap (λ b. has_come (retired_on number held) day || b) (list_any-append leaves more (e ∷ []))
      ∙ or_chain (has_come (retired_on number held) day) (list_any leaves more) (leaves e)
      ∙ ap (λ b. b || leaves e) (sym (retired_after_facts number day arrived more))

  step_latest : class_by day (classes_of number (register_with held (more ++ e ∷ [])).in_order)
      ≡ with_class day (class_at number e) (class_by day (classes_of number (register_with held more).in_order))
  step_latest =
      class_after_facts number day arrived (more ++ e ∷ [])
      ∙ later_push number day more e (class_by day (classes_of number held))
      ∙ ap (with_class day (class_at number e)) (sym (class_after_facts number day arrived more))

  pub seen_more : seen_in (register_with held (more ++ e ∷ [])) number day ≡ seen_with number day e (seen_in (register_with held more) number day)
  seen_more = same_seen _ _ _ _ _ _ step_item step_retired step_latest

-- ---- by the register

retired_is : (retired : Option ℕ) (o : Option Equipment) (item : Equipment) → option_map (with_retired retired) o ≡ Some item → item.retired ≡ retired
retired_is retired None item is = absurd cc
retired_is retired (Some entered) item is = ap (λ (o : Option Equipment). elim o [ None ↦ retired | Some i ↦ i.retired ]) (sym is)

module _ (arrived : List Entry) (unit day number : ℕ) where
  abbrev facts : List Entry
  facts = in_order goes_first arrived

  entered_alone : first_entry number (register_with facts []).entered ≡ option_map unretired (equipment_of number facts)
  unfolding register_with
  entered_alone =
      first_entry_is_registered number (facts ++ [])
      ∙ ap (first_entry number) (append-nil facts)
      ∙ sym (first_entry_is_equipment number facts)

  -- a component that was not entered adds nothing
  pub none_adds : equipment_of number facts ≡ None → added unit day (register_with facts []) number ≡ record { valves = 0; difficult = 0 }
  none_adds none =
      added_seen unit day number (register_with facts [])
      ∙ ap (λ o. share_seen unit day (made o (has_come (retired_on number (register_with facts []).in_order) day)
      (class_by day (classes_of number (register_with facts []).in_order)))) (entered_alone ∙ ap (option_map unretired) none)

  -- .. and one that was, by its class in force
  pub item_adds : (item : Equipment) → equipment_of number facts ≡ Some item
      → added unit day (register_with facts []) number
      ≡ share_seen unit day (made (Some (unretired item)) (has_come item.retired day) (class_by day (classes_of number facts)))
  item_adds item is =
      added_seen unit day number (register_with facts [])
      ∙ ap (share_seen unit day) (same_seen _ _ _ _ _ _
      (entered_alone ∙ ap (option_map unretired) is)
      (retired_after_facts number day arrived [] ∙ or_nothing (has_come (retired_on number facts) day)
      ∙ ap (λ first. has_come first day) (sym (retired_is (retired_on number facts) (first_entry number facts) item (sym (equipment_is number facts) ∙ is))))
      (class_after_facts number day arrived []))

  -- .. as a valve in service, and as a difficult one
  pub item_shares : (item : Equipment) (serves hard : Bool) → equipment_of number facts ≡ Some item
      → (nat_eq item.unit unit && is_valve item.kind && is_in_service item day) ≡ serves
      → is_difficult_designated (class_on item (classes_of number facts) day).designation ≡ hard
      → added unit day (register_with facts []) number ≡ record { valves = cond serves 1 0; difficult = cond (serves && hard) 1 0 }
  item_shares item serves hard is s h = item_adds item is ∙ rw (s, h) refl

-- a fact changes nothing for a component that it does not name
pub seen_other : (number day : ℕ) (e : Entry) (seen : Seen) → is_numbered (component_of e.1.body) number ≡ false → seen_with number day e seen ≡ seen
seen_other number day e seen other =
    let silent = unnamed_component number e.1.body other in
    same_seen _ _ _ _ _ _
    (ap (option_or seen.item) (silent.no_component None e.0.day) ∙ option_or-None seen.item)
    (ap (λ b. seen.retired || (b && nat_le e.0.day day)) silent.stays ∙ or_nothing seen.retired)
    (ap (λ o. with_class day (option_map (λ class. (e.0, class)) o) seen.latest) silent.no_class)

-- ---- the table

get_set_same : (xs : List Seen) (i : ℕ) (y : Seen) → i < length xs → slice_get (set xs i y) i ≡ Some y
get_set_same [] i y within = absurd (omega arith)
get_set_same (x ∷ xs) zero y within = refl
get_set_same (x ∷ xs) (suc i) y within = get_set_same xs i y (omega arith)

get_set_other : (xs : List Seen) (i j : ℕ) (y : Seen) → j < i → slice_get (set xs i y) j ≡ slice_get xs j
get_set_other [] i j y below = refl
get_set_other (x ∷ xs) zero j y below = absurd (omega (arith, below))
get_set_other (x ∷ xs) (suc i) zero y below = refl
get_set_other (x ∷ xs) (suc i) (suc j) y below = get_set_other xs i j y (omega (arith, below))

at_place : (seen : List Seen) (index : ℕ) (new : Seen) (place : ℕ) → place ≤ index → seen_at (set seen index new) place ≡ seen_at seen place
at_place seen index new place up_to =
    elim (cases_eq place 0) [
      | inl none ↦ rw (eq-eqb place 0 none) refl
      | inr some ↦ rw (ne_eqb place 0 some) (get_set_other seen index (place - 1) new (omega (arith, some, up_to)))
    ]

-- what stands at each place after a write
pub found_put : (last : List ℕ) (seen : List Seen) (index component number : ℕ) (new : Seen) → index < length seen → component < length last
    → get_or last number 0 ≤ index
    → seen_at (set seen index new) (get_or (set last component (index + 1)) number 0) ≡ cond (nat_eq component number) (Some new) (seen_at seen (get_or last number 0))
found_put last seen index component number new within inside up_to =
    elim (cases_eq component number) [
      | inl e ↦
          let place : get_or (set last component (index + 1)) number 0 ≡ index + 1 =
          ap (λ n. get_or (set last component (index + 1)) n 0) (sym e) ∙ get_or-set_same last component (index + 1) 0 inside in
          let back : index + 1 - 1 ≡ index = omega arith in
          rw (place, eq-eqb component number e, ne_eqb (index + 1) 0 (λ z. absurd (omega (arith, z))), back)
          (get_set_same seen index new within)
      | inr differ ↦
          let place : get_or (set last component (index + 1)) number 0 ≡ get_or last number 0 =
          get_or-set_other last component number (index + 1) 0 (λ z. differ (sym z)) in
          rw (place, ne_eqb component number differ) (at_place seen index new (get_or last number 0) up_to)
    ]

-- ---- a fact of a batch

module _ (known : Known) (day index : ℕ) (fact : Stated) (within : index < length known.front.now) (is : fact ≡ get_or known.front.now index fact) where
  -- what is known of a component with one more fact
  pub seen_now : (number : ℕ) → seen_in (register_by known (index + 1)) number day
      ≡ seen_with number day (key_of (batch_of known) index fact, fact) (seen_in (register_by known index) number day)
  seen_now number =
      ap (λ es. seen_in (register_with (facts_in known.register.now) es) number day) (entries-take_more (batch_of known) index known.front.now fact within is)
      ∙ seen_more known.register.now.arrived (entries_from (batch_of known) 0 (take index known.front.now)) (key_of (batch_of known) index fact, fact) number day

  seen_stays : (number : ℕ) → is_numbered (component_of fact.body) number ≡ false
      → seen_in (register_by known (index + 1)) number day ≡ seen_in (register_by known index) number day
  seen_stays number other =
      seen_now number ∙ seen_other number day (key_of (batch_of known) index fact, fact) (seen_in (register_by known index) number day) other

  unchanged : changed fact.body ≡ None → (number : ℕ) → seen_in (register_by known (index + 1)) number day ≡ seen_in (register_by known index) number day
  unchanged none number =
      elim (cases_Bool (is_registered fact.body)) [
        | inl entered ↦
            let unnamed : component_of fact.body ≡ None = rw entered at none in
            seen_stays number (ap (λ o. is_numbered o number) unnamed)
        | inr out ↦ ap (λ r. seen_in r number day) (known_stays day day known index fact within is out)
      ]

  module _ (table : Touched) (has : HasTouched known day index table) where
    -- a fact that changes no component leaves the table
    pub touched_same : changed fact.body ≡ None → HasTouched known day (index + 1) table
    touched_same none =
        record {
          up_to = λ number inside. omega (arith, has.up_to number inside);
          told = λ number inside. unchanged none number ∙ has.told number inside;
        }

    -- .. and one that changes a component is noted
    pub touched_more : (component : ℕ) (new : Touched) (now : Seen) → changed fact.body ≡ Some component
        → now ≡ seen_in (register_by known (index + 1)) component day → IsUpTo (index + 1) new
        → ((number : ℕ) → number < 65_536 → found_in new number ≡ cond (nat_eq component number) (Some now) (found_in table number))
        → HasTouched known day (index + 1) new
    touched_more component new now some is_now up_to puts =
        let named = named_so fact.body component some in
        record {
          up_to = up_to;
          told = λ number inside. elim (cases_eq component number) [
            | inl e ↦
                let found : found_in new number ≡ Some now = puts number inside ∙ rw (eq-eqb component number e) refl in
                ap (λ n. seen_in (register_by known (index + 1)) n day) (sym e) ∙ sym is_now
                ∙ ap (λ o. unwrap_or o (seen_in (register_by known 0) number day)) (sym found)
            | inr differ ↦
                let found : found_in new number ≡ found_in table number = puts number inside ∙ rw (ne_eqb component number differ) refl in
                let other : is_numbered (component_of fact.body) number ≡ false = ap (λ o. is_numbered o number) named ∙ ne_eqb component number differ in
                seen_stays number other ∙ has.told number inside
                ∙ ap (λ o. unwrap_or o (seen_in (register_by known 0) number day)) (sym found)
          ];
        }
