use Rattle.std.proofs.Common.{◌≡◌, ℕ, ◌+◌, ◌≤◌, Bool, true, false, ◌&&◌, cond, nat_eq, nat_lt, Option, Some, None, List, [], ◌∷◌, ◌++◌}
use Rattle.std.proofs.Common.{length, filter, count_by, refl, sym, ap, ◌∙◌, subst, inl, inr, arith}
use Rattle.std.specs.Prelude.{find, sum_by}
use Rattle.std.specs.List.{filter_map, cons_option}
use Rattle.std.specs.Option.{option_map, option_or, option_to_list, is_none}
use Rattle.std.proofs.lemmas.Bool.{cases_Bool, cases_eq, eq-eqb, ne_eqb, false≢true}
use Rattle.std.proofs.lemmas.List.{append-nil, append_assoc}
use Rattle.std.proofs.lemmas.List.Elements.{filter-append}
use Rattle.std.proofs.lemmas.List.Sums.{sum_by-cons, sum_by-append}
use Rattle.list_words.specs.Order.{put_in_order, in_order, put_each}
use Rattle.list_words.specs.Words.{each_from}
use Rattle.list_words.proofs.WordLemmas.{option_or-None, cons_option_is}
use Rattle.fact_kinds.specs.declared.body.FactBody.{FactBody}
use Rattle.fact_kinds.specs.declared.body.FactBody.TheVariants.{Component as ComponentFact}
use Rattle.fact_kinds.specs.Facts.{Entry, goes_first}
use Rattle.fact_kinds.specs.Named.{component_of, is_numbered}
use Rattle.ldar_law.specs.declared.equipment.Equipment.{Equipment}
use Rattle.ldar_law.specs.Equipment.{retires, retired_on, component_entered, class_at, classes_of, member_entered, members_of}
use Rattle.ldar_law.specs.Judged.{Register, register_with, first_entry, class_held}
use Rattle.ldar_law.specs.Slices.{is_registered, register_facts}
use Rattle.ldar_law.specs.Denials.{number_entered, entered_first, components_once}
use Rattle.ldar_law.specs.Standing.{is_difficult_designated}
use Rattle.ldar_law.specs.RegisterLaws.{enters_component}
use Rattle.ldar_law.specs.ShareLaws.{counts_as_valve, counts_as_difficult, counted, adds, count_in, ValvesAreCounted}
use Rattle.ldar_law.specs.ShareLaws.{ChangesByOne, OneMoreFactCounts, StaysSo, OtherFactsCountNothing, MembersAdd, MembersCount}
use Rattle.ldar_law.proofs.BatchLemmas.{first_entry_of_two}
use Rattle.ldar_law.proofs.ForceLemmas.{class_keyed}
use Rattle.ldar_law.proofs.Gifts.{cases_Option}
use Rattle.ldar_law.proofs.RegisterLemmas.{retired_registered}
use Rattle.ldar_law.proofs.SliceLemmas.{unnamed_component, register_facts_suffice}
use Rattle.ldar_law.proofs.WeakOrder.{given-put_none}

-- ---- entries of a fact

-- a fact that enters no component has no entry of any
no_entry : (number day : ℕ) (body : FactBody) → number_entered body ≡ None → component_entered number None day body ≡ None
no_entry number day (ComponentFact other unit kind monomer replaces class) e = absurd cc
no_entry number day _ e = refl

-- the component that a fact enters has the fact's number
entry_there : (number day : ℕ) (body : FactBody) → number_entered body ≡ Some number
    → (item : Equipment) × (component_entered number None day body ≡ Some item) × (item.component ≡ number)
entry_there number day (ComponentFact other unit kind monomer replaces class) e =
    let same : other ≡ number = cc in (
      record { component = number; unit = unit; kind = kind; monomer = monomer; replaces = replaces; begin = day; retired = None; class = class },
      rw (eq-eqb other number same) refl,
      refl,
    )
entry_there number day _ e = absurd cc

-- a fact that enters another component has no entry of this one
entry_of_other : (number other day : ℕ) (body : FactBody) → number_entered body ≡ Some other → nat_eq other number ≡ false
    → component_entered number None day body ≡ None
entry_of_other number other day (ComponentFact m unit kind monomer replaces class) e differ =
    let same : m ≡ other = cc in rw (same, differ) refl
entry_of_other number other day _ e differ = absurd cc

-- a fact that enters a component names it
entered_is_named : (body : FactBody) (number other : ℕ) → component_of body ≡ Some number → number_entered body ≡ Some other → other ≡ number
entered_is_named (ComponentFact m unit kind monomer replaces class) number other named entered = cc
entered_is_named _ number other named entered = absurd cc

-- a fact that names no component enters none
unnamed_enters_none : (body : FactBody) → component_of body ≡ None → number_entered body ≡ None
unnamed_enters_none (ComponentFact m unit kind monomer replaces class) e = absurd cc
unnamed_enters_none _ e = refl

-- the first entry in a list of one fact
first_entry-one : (number : ℕ) (e : Entry) (o : Option Equipment) → component_entered number None e.0.day e.1.body ≡ o → first_entry number (e ∷ []) ≡ o
first_entry-one number e None is = rw is refl
first_entry-one number e (Some item) is = rw is refl

first_entry-cons_none : (number : ℕ) (e : Entry) (es : List Entry) → component_entered number None e.0.day e.1.body ≡ None
    → first_entry number (e ∷ es) ≡ first_entry number es
first_entry-cons_none number e es is = rw is refl

first_entry-cons_some : (number : ℕ) (e : Entry) (es : List Entry) (item : Equipment) → component_entered number None e.0.day e.1.body ≡ Some item
    → first_entry number (e ∷ es) ≡ Some item
first_entry-cons_some number e es item is = rw is refl

-- the first entry after some facts and one more
first_entry-push : (number : ℕ) (front : List Entry) (e : Entry)
    → first_entry number (front ++ e ∷ []) ≡ option_or (first_entry number front) (component_entered number None e.0.day e.1.body)
first_entry-push number front e =
    first_entry_of_two number front (e ∷ [])
    ∙ ap (λ o. option_or (first_entry number front) o) (first_entry-one number e (component_entered number None e.0.day e.1.body) refl)

-- ---- each component once

-- the components of a list of facts, each as its first entry after some facts
abbrev once : List Entry → List Entry → List Equipment
once front es = each_from (λ before entry after. entered_first before entry) front es

-- the component with a number
abbrev find_item : ℕ → List Equipment → Option Equipment
find_item number items = find (λ item. nat_eq item.component number) items

-- the first entry of a fact's component, by the number that it enters
first_none : (front : List Entry) (e : Entry) → number_entered e.1.body ≡ None → entered_first front e ≡ None
first_none front e none = rw (none, entered_first) refl

first_some : (front : List Entry) (e : Entry) (m : ℕ) → number_entered e.1.body ≡ Some m
    → entered_first front e ≡ cond (is_none (first_entry m front)) (component_entered m None e.0.day e.1.body) None
first_some front e m some =
    rw (some, entered_first) (ap (λ o. cond (is_none (first_entry m front)) o None) (first_entry-one m e (component_entered m None e.0.day e.1.body) refl))

none_or_some : (o p : Option Equipment) → is_none (option_or o p) ≡ (is_none o && is_none p)
none_or_some None p = refl
none_or_some (Some x) p = refl

-- a component with another number is skipped
find_past : (number : ℕ) (o : Option Equipment) (items : List Equipment) → ((item : Equipment) → o ≡ Some item → nat_eq item.component number ≡ false)
    → find_item number (cons_option o items) ≡ find_item number items
find_past number None items other = refl
find_past number (Some item) items other = rw (other item refl) refl

and_false : (b : Bool) → (b && false) ≡ false
and_false true = refl
and_false false = refl

-- a component entered under another number is a different one
entered_other : (number other : ℕ) (mine item : Equipment) (b : Bool) → mine.component ≡ other → nat_eq other number ≡ false
    → cond b (Some mine) None ≡ Some item → nat_eq item.component number ≡ false
entered_other number other mine item true is differ e = let same : mine ≡ item = cc in subst (λ (x : Equipment). nat_eq x.component number ≡ false) same
    (rw is differ)
entered_other number other mine item false is differ e = absurd cc

nothing_either_way : (b : Bool) → cond {A = Option Equipment} b None None ≡ None
nothing_either_way true = refl
nothing_either_way false = refl

-- a component among those entered first after some facts
pub find_once : (number : ℕ) (front es : List Entry)
    → find_item number (once front es) ≡ cond (is_none (first_entry number front)) (first_entry number es) None
find_once number front [] = sym (nothing_either_way (is_none (first_entry number front)))
find_once number front (e ∷ es) =
    let rest = find_once number (front ++ e ∷ []) es in
    let pushed = first_entry-push number front e in
    elim (cases_Option (number_entered e.1.body)) [
      | inl none ↦
          let silent = no_entry number e.0.day e.1.body none in
          rw (first_none front e none, first_entry-cons_none number e es silent)
          (rest ∙ rw (pushed, silent, option_or-None) refl)
      | inr some ↦ elim (cases_eq some.0 number) [
        | inl same ↦
            let there = entry_there number e.0.day e.1.body (some.1 ∙ ap Some same) in
            let first : entered_first front e ≡ cond (is_none (first_entry number front)) (Some there.0) None =
            subst (λ m. entered_first front e ≡ cond (is_none (first_entry m front)) (component_entered m None e.0.day e.1.body) None) same
            (first_some front e some.0 some.1)
            ∙ ap (λ o. cond (is_none (first_entry number front)) o None) there.1 in
            elim (cases_Bool (is_none (first_entry number front))) [
              | inl new ↦ rw (first, new, first_entry-cons_some number e es there.0 there.1, eq-eqb there.0.component number there.2) refl
              | inr known ↦ rw (first, known) (rest ∙ rw (pushed, none_or_some, known) refl)
            ]
        | inr differ ↦
            let other = ne_eqb some.0 number differ in
            let silent = entry_of_other number some.0 e.0.day e.1.body some.1 other in
            let mine = entry_there some.0 e.0.day e.1.body some.1 in
            rw (first_entry-cons_none number e es silent)
            (find_past number (entered_first front e) (once (front ++ e ∷ []) es)
            (λ item is. entered_other number some.0 mine.0 item (is_none (first_entry some.0 front)) mine.2 other
            (sym (first_some front e some.0 some.1 ∙ ap (λ o. cond (is_none (first_entry some.0 front)) o None) mine.1) ∙ is))
            ∙ rest ∙ rw (pushed, silent, option_or-None) refl)
      ]
    ]

-- the components all have different numbers
abbrev Apart : List Equipment → Type 0
Apart [] = Unit {0}
Apart (x ∷ xs) = (find_item x.component xs ≡ None) × Apart xs

-- the components of a list of facts all have different numbers
apart_once : (front es : List Entry) → Apart (once front es)
apart_once front [] = tt
apart_once front (e ∷ es) =
    let rest = apart_once (front ++ e ∷ []) es in
    elim (cases_Option (number_entered e.1.body)) [
      | inl none ↦ rw (first_none front e none) rest
      | inr some ↦
          let there = entry_there some.0 e.0.day e.1.body some.1 in
          let first : entered_first front e ≡ cond (is_none (first_entry some.0 front)) (Some there.0) None =
          first_some front e some.0 some.1 ∙ ap (λ o. cond (is_none (first_entry some.0 front)) o None) there.1 in
          let held : is_none (first_entry some.0 (front ++ e ∷ [])) ≡ false =
          ap is_none (first_entry-push some.0 front e) ∙ none_or_some (first_entry some.0 front) (component_entered some.0 None e.0.day e.1.body)
          ∙ rw there.1 (and_false (is_none (first_entry some.0 front))) in
          let gone : find_item there.0.component (once (front ++ e ∷ []) es) ≡ None =
          rw there.2 (find_once some.0 (front ++ e ∷ []) es ∙ rw held refl) in
          elim (cases_Bool (is_none (first_entry some.0 front))) [
            | inl new ↦ rw (first, new) (gone, rest)
            | inr known ↦ rw (first, known) rest
          ]
    ]

-- one more fact adds at most one component at the end
option_append : {X : Type 0} (o : Option X) (xs ys : List X) → cons_option o (xs ++ ys) ≡ cons_option o xs ++ ys
option_append None xs ys = refl
option_append (Some x) xs ys = refl

-- one more fact adds its component, if it is the first entry
once-push : (front es : List Entry) (e : Entry) → once front (es ++ e ∷ []) ≡ once front es ++ option_to_list (entered_first (front ++ es) e)
once-push front [] e = cons_option_is (entered_first front e) [] ∙ rw (append-nil, append-nil) refl
once-push front (x ∷ xs) e =
    ap (cons_option (entered_first front x)) (once-push (front ++ x ∷ []) xs e ∙ rw append_assoc refl)
    ∙ option_append (entered_first front x) (once (front ++ x ∷ []) xs) (option_to_list (entered_first (front ++ x ∷ xs) e))

-- what a fact enters if its component is already entered, and if it is not
entered_known : (front : List Entry) (e : Entry) (number : ℕ) → component_of e.1.body ≡ Some number → (item : Equipment)
    → first_entry number front ≡ Some item → entered_first front e ≡ None
entered_known front e number named item known =
    elim (cases_Option (number_entered e.1.body)) [
      | inl none ↦ first_none front e none
      | inr some ↦
          let same = entered_is_named e.1.body number some.0 named some.1 in
          let held : first_entry some.0 front ≡ Some item = rw same known in
          first_some front e some.0 some.1 ∙ rw held refl
    ]

entered_fresh : (front : List Entry) (e : Entry) (number : ℕ) → component_of e.1.body ≡ Some number → first_entry number front ≡ None
    → entered_first front e ≡ component_entered number None e.0.day e.1.body
entered_fresh front e number named new =
    elim (cases_Option (number_entered e.1.body)) [
      | inl none ↦ first_none front e none ∙ sym (no_entry number e.0.day e.1.body none)
      | inr some ↦
          let same = entered_is_named e.1.body number some.0 named some.1 in
          let fresh : first_entry some.0 front ≡ None = rw same new in
          first_some front e some.0 some.1 ∙ rw (fresh, same) refl
    ]

-- ---- two tests that differ on one component

abbrev bit : Bool → ℕ
bit b = cond b 1 0

count_cons : {X : Type 0} (p : X → Bool) (x : X) (xs : List X) → count_by p (x ∷ xs) ≡ bit (p x) + count_by p xs
count_cons p x xs = sum_by-cons (λ y. cond (p y) 1 0) x xs

count_yes : {X : Type 0} (p : X → Bool) (x : X) (xs : List X) → p x ≡ true → count_by p (x ∷ xs) ≡ 1 + count_by p xs
count_yes p x xs t = count_cons p x xs ∙ ap (λ b. bit b + count_by p xs) t

count_no : {X : Type 0} (p : X → Bool) (x : X) (xs : List X) → p x ≡ false → count_by p (x ∷ xs) ≡ 0 + count_by p xs
count_no p x xs t = count_cons p x xs ∙ ap (λ b. bit b + count_by p xs) t

counted_option : (p : Equipment → Bool) (o : Option Equipment) → count_by p (option_to_list o) ≡ counted p o
counted_option p None = refl
counted_option p (Some item) = count_cons p item [] ∙ omega arith

count_append : (p : Equipment → Bool) (xs ys : List Equipment) → count_by p (xs ++ ys) ≡ count_by p xs + count_by p ys
count_append p xs ys = sum_by-append (λ y. cond (p y) 1 0) xs ys

count_agree : (p q : Equipment → Bool) → ((item : Equipment) → q item ≡ p item) → (items : List Equipment) → count_by q items ≡ count_by p items
count_agree p q same [] = refl
count_agree p q same (x ∷ xs) =
    let rest = count_agree p q same xs in
    count_cons q x xs ∙ rw (same x, rest) (sym (count_cons p x xs))

module _ (p q : Equipment → Bool) (number : ℕ) (same : (item : Equipment) → nat_eq item.component number ≡ false → q item ≡ p item) where
  -- without the component, both tests have the same count
  count_without : (items : List Equipment) → find_item number items ≡ None → count_by q items ≡ count_by p items
  count_without [] none = refl
  count_without (x ∷ xs) none =
      elim (cases_Bool (nat_eq x.component number)) [
        | inl here ↦ let clash : Some x ≡ None = rw here at none in absurd cc
        | inr other ↦
            let rest = count_without xs (rw other at none) in
            count_cons q x xs ∙ rw (same x other, rest) (sym (count_cons p x xs))
      ]

  -- the two counts differ only by the component
  count_change : (items : List Equipment) → Apart items
      → count_by q items + counted p (find_item number items) ≡ count_by p items + counted q (find_item number items)
  count_change [] apart = refl
  count_change (x ∷ xs) apart =
      let first = count_cons q x xs in
      let second = count_cons p x xs in
      elim (cases_eq x.component number) [
        | inl here ↦
            let rest = count_without xs (subst (λ n. find_item n xs ≡ None) here apart.0) in
            rw (eq-eqb x.component number here) (omega (arith, first, second, rest))
        | inr differ ↦
            let other = ne_eqb x.component number differ in
            let rest = count_change xs apart.1 in
            let alike = ap bit (same x other) in
            rw other (omega (arith, first, second, rest, alike))
      ]

-- ---- the register after one more fact

put_each-push : (more ys : List Entry) (e : Entry) → put_each goes_first (more ++ e ∷ []) ys ≡ put_in_order goes_first e (put_each goes_first more ys)
put_each-push [] ys e = refl
put_each-push (x ∷ xs) ys e = put_each-push xs (put_in_order goes_first x ys) e

find-put_none : (p : Entry → Bool) (e : Entry) → p e ≡ false → (es : List Entry) → find p (put_in_order goes_first e es) ≡ find p es
find-put_none p e out [] = rw out refl
find-put_none p e out (x ∷ xs) =
    elim (cases_Bool (goes_first e x)) [
      | inl t ↦ rw (t, out) refl
      | inr t ↦ rw (t, find-put_none p e out xs) refl
    ]

filter-put_out : (q : Entry → Bool) (e : Entry) → q e ≡ false → (es : List Entry) → filter q (put_in_order goes_first e es) ≡ filter q es
filter-put_out q e out [] = rw out refl
filter-put_out q e out (x ∷ xs) =
    elim (cases_Bool (goes_first e x)) [
      | inl t ↦ rw (t, out) refl
      | inr t ↦ rw (t, filter-put_out q e out xs) refl
    ]

module _ (held more : List Entry) (e : Entry) where
  abbrev before : Register
  before = register_with held more

  abbrev after : Register
  after = register_with held (more ++ e ∷ [])

  entered_more : after.entered ≡ before.entered ++ register_facts (e ∷ [])
  unfolding register_with
  entered_more =
      ap register_facts (sym (append_assoc {A = Entry} held more (e ∷ [])))
      ∙ filter-append (λ x. is_registered x.1.body) (held ++ more) (e ∷ [])

  -- a fact that is no entry leaves the register unchanged
  same_register : is_registered e.1.body ≡ false → after ≡ before
  unfolding register_with
  same_register out =
      let entered : after.entered ≡ before.entered = entered_more ∙ rw out (append-nil before.entered) in
      let order : after.in_order ≡ before.in_order =
      ap register_facts (put_each-push more held e) ∙ filter-put_out (λ x. is_registered x.1.body) e out (put_each goes_first more held) in
      rw (entered, order) refl

  module _ (number : ℕ) (other : is_numbered (component_of e.1.body) number ≡ false) where
    retired_same : retired_on number after.in_order ≡ retired_on number before.in_order
    unfolding register_with
    retired_same =
        retired_registered number (put_each goes_first (more ++ e ∷ []) held)
        ∙ ap (retired_on number) (put_each-push more held e)
        ∙ ap (λ found. option_map (λ x. x.0.day) found)
        (find-put_none (λ x. retires number x.1.body) e (unnamed_component number e.1.body other).stays (put_each goes_first more held))
        ∙ sym (retired_registered number (put_each goes_first more held))

    classes_same : classes_of number after.in_order ≡ classes_of number before.in_order
    unfolding register_with
    classes_same =
        (register_facts_suffice number (put_each goes_first (more ++ e ∷ []) held)).0.classes
        ∙ ap (classes_of number) (put_each-push more held e)
        ∙ given-put_none (class_at number) (class_keyed number) e (rw (unnamed_component number e.1.body other).no_class refl) (put_each goes_first more held)
        ∙ sym ((register_facts_suffice number (put_each goes_first more held)).0.classes)

-- ---- a count after one more fact

-- the test looks only at what the register has about the component
abbrev IsLocal : (Register → Equipment → Bool) → Type 0
IsLocal test =
    (old new : Register) (item : Equipment) → retired_on item.component new.in_order ≡ retired_on item.component old.in_order
    → classes_of item.component new.in_order ≡ classes_of item.component old.in_order → test new item ≡ test old item

-- whether a component is a valve in service depends only on what the register has about it
valve_local : (unit day : ℕ) → IsLocal (counts_as_valve unit day)
valve_local unit day old new item retired classes = rw retired refl

-- whether it is difficult to monitor depends only on what the register has about it
difficult_local : (unit day : ℕ) → IsLocal (counts_as_difficult unit day)
difficult_local unit day old new item retired classes = rw (retired, classes) refl

numbered_other : (o : Option ℕ) (c n : ℕ) → o ≡ Some c → nat_eq n c ≡ false → is_numbered o n ≡ false
numbered_other o c n some differ =
    elim (cases_eq c n) [
      | inl same ↦ absurd (false≢true (sym differ ∙ eq-eqb n c (sym same)))
      | inr other ↦ rw some (ne_eqb c n other)
    ]

module _ (test : Register → Equipment → Bool) (local : IsLocal test) (held more : List Entry) (e : Entry) where
  -- the count after one more entry
  count_after : is_registered e.1.body ≡ true
      → count_in test (register_with held (more ++ e ∷ []))
      ≡ count_by (test (register_with held (more ++ e ∷ []))) (components_once (register_with held more))
      + counted (test (register_with held (more ++ e ∷ []))) (entered_first (register_with held more).entered e)
  count_after entered =
      let p = test (register_with held (more ++ e ∷ [])) in
      let grown : (register_with held (more ++ e ∷ [])).entered ≡ (register_with held more).entered ++ e ∷ [] = entered_more held more e ∙ rw entered refl in
      ap (λ es. count_by p (once [] es)) grown
      ∙ ap (count_by p) (once-push [] (register_with held more).entered e)
      ∙ count_append p (once [] (register_with held more).entered) (option_to_list (entered_first (register_with held more).entered e))
      ∙ ap (λ n. count_by p (once [] (register_with held more).entered) + n) (counted_option p (entered_first (register_with held more).entered e))

  -- the first entries after one more entry
  entered_after : is_registered e.1.body ≡ true → (number : ℕ)
      → first_entry number (register_with held (more ++ e ∷ [])).entered
      ≡ option_or (first_entry number (register_with held more).entered) (component_entered number None e.0.day e.1.body)
  entered_after entered number =
      let grown : (register_with held (more ++ e ∷ [])).entered ≡ (register_with held more).entered ++ e ∷ [] = entered_more held more e ∙ rw entered refl in
      ap (first_entry number) grown ∙ first_entry-push number (register_with held more).entered e

  changes_by_one : (number : ℕ) → component_of e.1.body ≡ Some number → ChangesByOne test held more e number
  changes_by_one number named =
      elim (cases_Bool (is_registered e.1.body)) [
        | inr out ↦ rw (same_register held more e out) refl
        | inl entered ↦
            let old = register_with held more in
            let new = register_with held (more ++ e ∷ []) in
            let items = components_once old in
            let found : find_item number items ≡ first_entry number old.entered = find_once number [] old.entered in
            let change = count_change (test old) (test new) number
            (λ item differ. let other = numbered_other (component_of e.1.body) number item.component named differ in
            local old new item (retired_same held more e item.component other) (classes_same held more e item.component other))
            items (apart_once [] old.entered) in
            let counts = count_after entered in
            let adds_new : adds test new number ≡ counted (test new)
            (option_or (first_entry number old.entered) (component_entered number None e.0.day e.1.body)) =
            ap (counted (test new)) (entered_after entered number) in
            elim (cases_Option (first_entry number old.entered)) [
              | inr some ↦
                  let known : entered_first old.entered e ≡ None = entered_known old.entered e number named some.0 some.1 in
                  let c : count_in test new ≡ count_by (test new) items + 0 = rw known at counts in
                  let a : adds test new number ≡ counted (test new) (Some some.0) = rw some.1 at adds_new in
                  let d : count_by (test new) items + counted (test old) (Some some.0) ≡ count_by (test old) items + counted (test new) (Some some.0) = rw
                  (found, some.1) at change in
                  let b : adds test old number ≡ counted (test old) (Some some.0) = ap (counted (test old)) some.1 in
                  omega (arith, c, a, d, b)
              | inl none ↦
                  let fresh : entered_first old.entered e ≡ component_entered number None e.0.day e.1.body = entered_fresh old.entered e number named none in
                  let c : count_in test new ≡ count_by (test new) items + counted (test new)
                  (component_entered number None e.0.day e.1.body) = rw fresh at counts in
                  let a : adds test new number ≡ counted (test new) (component_entered number None e.0.day e.1.body) = rw none at adds_new in
                  let d : count_by (test new) items + 0 ≡ count_by (test old) items + 0 = rw (found, none) at change in
                  let b : adds test old number ≡ 0 = ap (counted (test old)) none in
                  omega (arith, c, a, d, b)
            ]
      ]

  stays_so : component_of e.1.body ≡ None → StaysSo test held more e
  stays_so unnamed =
      elim (cases_Bool (is_registered e.1.body)) [
        | inr out ↦ rw (same_register held more e out) refl
        | inl entered ↦
            let old = register_with held more in
            let new = register_with held (more ++ e ∷ []) in
            let none : entered_first old.entered e ≡ None = first_none old.entered e (unnamed_enters_none e.1.body unnamed) in
            let c : count_in test new ≡ count_by (test new) (components_once old) + 0 = rw none at (count_after entered) in
            let d = count_agree (test old) (test new)
            (λ item. let other : is_numbered (component_of e.1.body) item.component ≡ false = rw unnamed refl in
            local old new item (retired_same held more e item.component other) (classes_same held more e item.component other))
            (components_once old) in
            omega (arith, c, d)
      ]

pub one_more_fact_counts : OneMoreFactCounts
one_more_fact_counts unit day number held more entry named = (
  changes_by_one (counts_as_valve unit day) (valve_local unit day) held more entry number named,
  changes_by_one (counts_as_difficult unit day) (difficult_local unit day) held more entry number named,
)

pub other_facts_count_nothing : OtherFactsCountNothing
other_facts_count_nothing unit day held more entry unnamed = (
  stays_so (counts_as_valve unit day) (valve_local unit day) held more entry unnamed,
  stays_so (counts_as_difficult unit day) (difficult_local unit day) held more entry unnamed,
)

-- ---- the length of a filtered list is a count

kept_length : {X : Type 0} (p : X → Bool) (x : X) (xs : List X) → p x ≡ true → length (filter p (x ∷ xs)) ≡ length (filter p xs) + 1
kept_length p x xs t = rw t (omega arith)

dropped_length : {X : Type 0} (p : X → Bool) (x : X) (xs : List X) → p x ≡ false → length (filter p (x ∷ xs)) ≡ length (filter p xs)
dropped_length p x xs t = rw t refl

length_filter : {X : Type 0} (p : X → Bool) (xs : List X) → length (filter p xs) ≡ count_by p xs
length_filter p [] = refl
length_filter p (x ∷ xs) =
    let rest = length_filter p xs in
    elim (cases_Bool (p x)) as (λ b. length (filter p (x ∷ xs)) ≡ count_by p (x ∷ xs)) [
      | inl t ↦ let one = count_yes p x xs t in kept_length p x xs t ∙ omega (arith, rest, one)
      | inr t ↦ let one = count_no p x xs t in dropped_length p x xs t ∙ omega (arith, rest, one)
    ]

kept_count : {X : Type 0} (p q : X → Bool) (x : X) (xs : List X) → p x ≡ true → count_by q (filter p (x ∷ xs)) ≡ count_by q (x ∷ filter p xs)
kept_count p q x xs t = rw t refl

dropped_count : {X : Type 0} (p q : X → Bool) (x : X) (xs : List X) → p x ≡ false → count_by q (filter p (x ∷ xs)) ≡ count_by q (filter p xs)
dropped_count p q x xs t = rw t refl

count_filter : {X : Type 0} (p q : X → Bool) (xs : List X) → count_by q (filter p xs) ≡ count_by (λ x. p x && q x) xs
count_filter p q [] = refl
count_filter p q (x ∷ xs) =
    let rest = count_filter p q xs in
    let both = count_cons (λ y. p y && q y) x xs in
    elim (cases_Bool (p x)) [
      | inl t ↦
          let one = both ∙ ap (λ b. bit (b && q x) + count_by (λ y. p y && q y) xs) t in
          let first = count_cons q x (filter p xs) in
          kept_count p q x xs t ∙ omega (arith, rest, one, first)
      | inr t ↦
          let one = both ∙ ap (λ b. bit (b && q x) + count_by (λ y. p y && q y) xs) t in
          dropped_count p q x xs t ∙ omega (arith, rest, one)
    ]

pub valves_are_counted : ValvesAreCounted
valves_are_counted unit day register =
    let p = counts_as_valve unit day register in
    let q : Equipment → Bool = λ item. is_difficult_designated (class_held register item day).designation in
    record {
      valves = length_filter p (components_once register);
      difficult = length_filter q (filter p (components_once register)) ∙ count_filter p q (components_once register);
    }

-- ---- the members of a process unit

-- a fact that does not enter the component has no entry of it
enters_none : (number day : ℕ) (body : FactBody) → enters_component number body ≡ false → component_entered number None day body ≡ None
enters_none number day (ComponentFact other unit kind monomer replaces class) e = rw e refl
enters_none number day _ e = refl

-- a fact that enters a number enters that component
enters_its_own : (number : ℕ) (body : FactBody) → number_entered body ≡ Some number → enters_component number body ≡ true
enters_its_own number (ComponentFact other unit kind monomer replaces class) e = let same : other ≡ number = cc in eq-eqb other number same
enters_its_own number _ e = absurd cc

-- a fact that enters no component enters no member
joins_none : (unit : ℕ) (body : FactBody) → number_entered body ≡ None → member_entered unit body ≡ None
joins_none unit (ComponentFact other u kind monomer replaces class) e = absurd cc
joins_none unit _ e = refl

-- a fact that enters a component enters it as a member of its unit
joins_its_unit : (unit number day : ℕ) (body : FactBody) (item : Equipment) → number_entered body ≡ Some number
    → component_entered number None day body ≡ Some item → member_entered unit body ≡ cond (nat_eq item.unit unit) (Some number) None
joins_its_unit unit number day (ComponentFact other u kind monomer replaces class) item e is =
    let same : other ≡ number = cc in
    let here : Some (record { component = number; unit = u; kind = kind; monomer = monomer; replaces = replaces; begin = day; retired = None; class = class })
    ≡ Some item =
    rw (eq-eqb other number same) at is in
    let stands : u ≡ item.unit = cc in
    rw (same, stands) refl
joins_its_unit unit number day _ item e is = absurd cc

-- a component with a first entry in a list is entered in the list
count_of_first : (number : ℕ) (es : List Entry) (item : Equipment) → first_entry number es ≡ Some item
    → 1 ≤ count_by (λ e. enters_component number e.1.body) es
count_of_first number [] item e = absurd cc
count_of_first number (e ∷ es) item some =
    elim (cases_Bool (enters_component number e.1.body)) [
      | inl t ↦ let one = count_yes (λ x. enters_component number x.1.body) e es t in omega (arith, one)
      | inr t ↦
          let one = count_no (λ x. enters_component number x.1.body) e es t in
          let later = sym (first_entry-cons_none number e es (enters_none number e.0.day e.1.body t)) ∙ some in
          omega (arith, one, count_of_first number es item later)
    ]

-- if no component is entered twice, there is no entry before the fact that enters it
none_before : (number : ℕ) (front : List Entry) (e : Entry) (es : List Entry) → number_entered e.1.body ≡ Some number
    → count_by (λ x. enters_component number x.1.body) (front ++ e ∷ es) ≤ 1 → first_entry number front ≡ None
none_before number front e es enters few =
    elim (cases_Option (first_entry number front)) [
      | inl none ↦ none
      | inr some ↦
          let split = sum_by-append (λ x. cond (enters_component number x.1.body) 1 0) front (e ∷ es) in
          let one = count_yes (λ x. enters_component number x.1.body) e es (enters_its_own number e.1.body enters) in
          absurd (omega (arith, few, split, one, count_of_first number front some.0 some.1))
    ]

count_filtered : {X : Type 0} (p q : X → Bool) (xs : List X) → count_by p (filter q xs) ≤ count_by p xs
count_filtered p q [] = omega arith
count_filtered p q (x ∷ xs) =
    let rest = count_filtered p q xs in
    let all = count_cons p x xs in
    elim (cases_Bool (q x)) [
      | inl t ↦ let some = kept_count q p x xs t ∙ count_cons p x (filter q xs) in omega (arith, rest, all, some)
      | inr t ↦ let some = dropped_count q p x xs t in omega (arith, rest, all, some)
    ]

sum-put : (f : ℕ → ℕ) (x : ℕ) (xs : List ℕ) → sum_by f (put_in_order nat_lt x xs) ≡ f x + sum_by f xs
sum-put f x [] = sum_by-cons f x []
sum-put f x (y ∷ ys) =
    elim (cases_Bool (nat_lt x y)) [
      | inl t ↦ rw t (sum_by-cons f x (y ∷ ys))
      | inr t ↦ rw t (
          let first = sum_by-cons f y (put_in_order nat_lt x ys) in
          let second = sum_by-cons f y ys in
          let rest = sum-put f x ys in
          omega (arith, first, second, rest))
    ]

sum-in_order : (f : ℕ → ℕ) (xs : List ℕ) → sum_by f (in_order nat_lt xs) ≡ sum_by f xs
sum-in_order f [] = refl
sum-in_order f (x ∷ xs) = sum-put f x (in_order nat_lt xs) ∙ ap (λ n. f x + n) (sum-in_order f xs) ∙ sym (sum_by-cons f x xs)

module _ (test : Equipment → Bool) (unit : ℕ) (other_unit : (item : Equipment) → nat_eq item.unit unit ≡ false → test item ≡ false)
    (all : List Entry) (few : (number : ℕ) → count_by (λ e. enters_component number e.1.body) all ≤ 1) where
  -- the counts over some facts are sums over the members that they enter
  members_from : (front es : List Entry) → front ++ es ≡ all
      → count_by test (once front es) ≡ sum_by (λ n. counted test (first_entry n all)) (filter_map (λ e. member_entered unit e.1.body) es)
  members_from front [] whole = refl
  members_from front (e ∷ es) whole =
      let rest = members_from (front ++ e ∷ []) es (append_assoc front (e ∷ []) es ∙ whole) in
      elim (cases_Option (number_entered e.1.body)) [
        | inl none ↦ rw (first_none front e none, joins_none unit e.1.body none) rest
        | inr some ↦
            let number = some.0 in
            let there = entry_there number e.0.day e.1.body some.1 in
            let new = none_before number front e es some.1 (subst (λ es. count_by (λ x. enters_component number x.1.body) es ≤ 1) (sym whole) (few number)) in
            let first : entered_first front e ≡ Some there.0 = first_some front e number some.1 ∙ rw (new, there.1) refl in
            let known : first_entry number all ≡ Some there.0 =
            ap (first_entry number) (sym whole) ∙ first_entry_of_two number front (e ∷ es) ∙ rw new (first_entry-cons_some number e es there.0 there.1) in
            let joins = joins_its_unit unit number e.0.day e.1.body there.0 some.1 there.1 in
            let one = count_cons test there.0 (once (front ++ e ∷ []) es) in
            elim (cases_Bool (nat_eq there.0.unit unit)) [
              | inl t ↦
                  let two = sum_by-cons (λ n. counted test (first_entry n all)) number (filter_map (λ x. member_entered unit x.1.body) es) in
                  let adds_one : counted test (first_entry number all) ≡ bit (test there.0) = ap (counted test) known in
                  rw (first, joins, t) (omega (arith, one, two, adds_one, rest))
              | inr t ↦
                  let zero_here = ap bit (other_unit there.0 t) in
                  rw (first, joins, t) (omega (arith, one, zero_here, rest))
            ]
      ]

members_add : (test : Register → Equipment → Bool) (unit : ℕ)
    → ((register : Register) (item : Equipment) → nat_eq item.unit unit ≡ false → test register item ≡ false)
    → (held : List Entry) → ((number : ℕ) → count_by (λ e. enters_component number e.1.body) held ≤ 1) → MembersAdd test unit held
unfolding register_with
members_add test unit other_unit held few =
    let register = register_with held [] in
    let all = register_facts (held ++ []) in
    let facts : all ≡ register_facts held = ap register_facts (append-nil held) in
    let fewer : (number : ℕ) → count_by (λ e. enters_component number e.1.body) all ≤ 1 = λ number.
    subst (λ es. count_by (λ e. enters_component number e.1.body) es ≤ 1) (sym facts)
    (omega (arith, few number, count_filtered (λ e. enters_component number e.1.body) (λ e. is_registered e.1.body) held)) in
    members_from (test register) unit (other_unit register) all fewer [] all refl
    ∙ sym (sum-in_order (adds test register) (filter_map (λ e. member_entered unit e.1.body) all))
    ∙ ap (λ es. sum_by (adds test register) (members_of unit es)) facts
    ∙ ap (sum_by (adds test register)) ((register_facts_suffice unit held).1.members)

valve_of_unit : (unit day : ℕ) (register : Register) (item : Equipment) → nat_eq item.unit unit ≡ false → counts_as_valve unit day register item ≡ false
valve_of_unit unit day register item other = rw other refl

difficult_of_unit : (unit day : ℕ) (register : Register) (item : Equipment) → nat_eq item.unit unit ≡ false → counts_as_difficult unit day register item ≡ false
difficult_of_unit unit day register item other = rw other refl

pub members_count : MembersCount
members_count unit day held few = (
  members_add (counts_as_valve unit day) unit (valve_of_unit unit day) held few,
  members_add (counts_as_difficult unit day) unit (difficult_of_unit unit day) held few,
)
