use Rattle.std.proofs.Common.{◌≡◌, ℕ, zero, suc, ◌+◌, ◌<◌, ◌≤◌, max, Bool, true, false, ◌&&◌, ◌||◌, nat_eq, nat_le}
use Rattle.std.proofs.Common.{Option, Some, None, List, [], ◌∷◌, ◌++◌, length, take, drop, get_or, slice_get}
use Rattle.std.proofs.Common.{refl, sym, ap, ◌∙◌, arith}
use Rattle.std.specs.Option.{option_map, option_or, is_some}
use Rattle.std.proofs.lemmas.Bool.{and_parts}
use Rattle.std.proofs.lemmas.Bool.Decides.{nat_tests}
use Rattle.std.proofs.lemmas.List.Folds.{list_all-append}
use Rattle.std.proofs.lemmas.List.{take_more, drop_more, drop_all}
use Rattle.std.specs.List.{filter_map, cons_option, list_any}
use Rattle.fact_kinds.specs.declared.batch.Batch.{Batch}
use Rattle.list_words.specs.Order.{in_order}
use Rattle.fact_kinds.specs.Facts.{Entry, goes_first, key_of, entries_from, entries_of}
use Rattle.fact_kinds.specs.declared.body.FactBody.{FactBody}
use Rattle.fact_kinds.specs.declared.body.FactBody.TheVariants.{Component as ComponentFact}
use Rattle.fact_kinds.specs.Stated.{Stated}
use Rattle.ldar_law.specs.BatchLaws.{unretired}
use Rattle.ldar_law.specs.Equipment.{retires, retired_on, class_at, component_entered, equipment_of, unit_entered, unit_entry_of}
use Rattle.ldar_law.specs.Force.{has_come}
use Rattle.fact_kinds.specs.declared.class.Class.{Class}
use Rattle.fact_kinds.specs.declared.key.Key.{Key}
use Rattle.ldar_law.specs.DenialLaws.{later_class}
use Rattle.ldar_law.specs.RegisterLaws.{with_class}
use Rattle.ldar_law.specs.Judged.{register_with, first_entry}
use Rattle.ldar_law.proofs.BatchLemmas.{first_entry_of_two, first_unit_of_two, first_entry_is_registered, first_entry_is_equipment}
use Rattle.ldar_law.proofs.RegisterLemmas.{retired_after_facts}
use Rattle.ldar_law.proofs.SliceLemmas.{register_facts_suffice}
use Rattle.batch_rules.specs.Among.{entered_among, unit_among, retired_among, are_up_to, entered_or_0}

-- the values of a batch's facts, with their keys and without
pub given_among : {X : Type 0} (f : Entry → Option X) (g : Stated → Option X) (batch : Batch)
    → ((index : ℕ) (fact : Stated) → f (key_of batch index fact, fact) ≡ g fact)
    → (index : ℕ) (facts : List Stated) → filter_map f (entries_from batch index facts) ≡ filter_map g facts
given_among f g batch same index [] = refl
given_among f g batch same index (fact ∷ facts) = rw (same index fact, given_among f g batch same (index + 1) facts) refl

-- whether some fact of a batch passes, with its key and without
pub any_among : (p : Entry → Bool) (q : Stated → Bool) (batch : Batch) → ((index : ℕ) (fact : Stated) → p (key_of batch index fact, fact) ≡ q fact)
    → (index : ℕ) (facts : List Stated) → list_any p (entries_from batch index facts) ≡ list_any q facts
any_among p q batch same index [] = refl
any_among p q batch same index (fact ∷ facts) = rw (same index fact, any_among p q batch same (index + 1) facts) refl

-- an option with a value is the first element
some_first : {X : Type 0} (o : Option X) (xs : List X) → is_some o ≡ true → slice_get (cons_option o xs) 0 ≡ o
some_first None xs some = absurd cc
some_first (Some x) xs some = refl

-- the value of the fact at a place, if it has one, is the first from there on
pub first_from_here : {X : Type 0} (f : Stated → Option X) (facts : List Stated) (i : ℕ) (fact : Stated) → i < length facts
    → fact ≡ get_or facts i fact → is_some (f fact) ≡ true → slice_get (filter_map f (drop i facts)) 0 ≡ f fact
first_from_here f facts i fact within is some =
    rw (drop_more facts i fact within, sym is) (some_first (f fact) (filter_map f (drop (i + 1) facts)) some)

-- past the last fact there is no value
pub none_from_here : {X : Type 0} (f : Stated → Option X) (facts : List Stated) (i : ℕ) → length facts ≤ i
    → slice_get (filter_map f (drop i facts)) 0 ≡ None
none_from_here f facts i past = rw (drop_all i facts past) refl

-- a fact does not enter a component above the greatest number
enters_none : (number greatest day : ℕ) (body : FactBody) → nat_le (entered_or_0 body) greatest ≡ true → greatest < number
    → component_entered number None day body ≡ None
enters_none number greatest day (ComponentFact other unit kind monomer replaces class) within above =
    let differ : nat_eq other number ≡ false = grind (arith, nat_tests) in rw differ refl
enters_none number greatest day _ within above = refl

-- no fact enters a component above the greatest number
pub none_beyond : (number greatest : ℕ) (facts : List Stated) → are_up_to (Some greatest) facts ≡ true → greatest < number
    → entered_among number facts ≡ None
none_beyond number greatest [] within above = refl
none_beyond number greatest (fact ∷ facts) within above =
    let first = and_parts (nat_le (entered_or_0 fact.body) greatest) (are_up_to (Some greatest) facts) within in
    rw (enters_none number greatest fact.day fact.body first.0 above) (none_beyond number greatest facts first.1 above)

-- ---- the reach of a batch's entries

-- a greater number is an upper bound too
up_to_more : (low high : ℕ) (facts : List Stated) → low ≤ high → are_up_to (Some low) facts ≡ true → are_up_to (Some high) facts ≡ true
up_to_more low high [] more within = refl
up_to_more low high (fact ∷ facts) more within =
    let first = and_parts (nat_le (entered_or_0 fact.body) low) (are_up_to (Some low) facts) within in
    let here : nat_le (entered_or_0 fact.body) high ≡ true = grind (arith, nat_tests) in
    rw here (up_to_more low high facts more first.1)

-- .. also of fewer facts
pub up_to_fewer : (greatest few many : ℕ) (facts : List Stated) → few ≤ many → are_up_to (Some greatest) (take many facts) ≡ true
    → are_up_to (Some greatest) (take few facts) ≡ true
up_to_fewer greatest zero many facts less within = refl
up_to_fewer greatest (suc few) zero facts less within = absurd (omega (arith, less))
up_to_fewer greatest (suc few) (suc many) [] less within = refl
up_to_fewer greatest (suc few) (suc many) (fact ∷ facts) less within =
    let first = and_parts (nat_le (entered_or_0 fact.body) greatest) (are_up_to (Some greatest) (take many facts)) within in
    rw first.0 (up_to_fewer greatest few many facts (omega (arith, less)) first.1)

-- .. and of one more fact
pub up_to_one_more : (greatest : ℕ) (facts : List Stated) (i : ℕ) (fact : Stated) → i < length facts → fact ≡ get_or facts i fact
    → are_up_to (Some greatest) (take i facts) ≡ true → are_up_to (Some (max greatest (entered_or_0 fact.body))) (take (i + 1) facts) ≡ true
up_to_one_more greatest facts i fact within is before =
    let most = max greatest (entered_or_0 fact.body) in
    let here : nat_le (entered_or_0 fact.body) most ≡ true = grind (arith, nat_tests) in
    rw (take_more facts i fact within, sym is, list_all-append (λ (f : Stated). nat_le (entered_or_0 f.body) most) (take i facts) (fact ∷ []))
    (rw (up_to_more greatest most (take i facts) (omega arith) before, here) refl)

-- ---- the register with some facts of a batch

module _ (held : List Entry) (batch : Batch) where
  -- a component is the register's, or else the batch's
  pub known_component : (number : ℕ) → first_entry number (register_with held (entries_of batch)).entered
      ≡ option_or (option_map unretired (equipment_of number held)) (entered_among number batch.facts)
  unfolding register_with
  known_component number =
      first_entry_is_registered number (held ++ entries_of batch)
      ∙ first_entry_of_two number held (entries_of batch)
      ∙ ap (λ o. option_or o (first_entry number (entries_of batch))) (sym (first_entry_is_equipment number held))
      ∙ ap (λ given. option_or (option_map unretired (equipment_of number held)) (slice_get given 0))
      (given_among (λ e. component_entered number None e.0.day e.1.body) (λ f. component_entered number None f.day f.body) batch (λ i f. refl) 0 batch.facts)

  -- a unit is the register's, or else the batch's
  pub known_unit : (number : ℕ) → unit_entry_of number (register_with held (entries_of batch)).entered
      ≡ option_or (unit_entry_of number held) (unit_among number batch.facts)
  unfolding register_with
  known_unit number =
      (register_facts_suffice number (held ++ entries_of batch)).1.entry
      ∙ first_unit_of_two number held (entries_of batch)
      ∙ ap (λ given. option_or (unit_entry_of number held) (slice_get given 0))
      (given_among (λ e. unit_entered number e.0.day e.1.body) (λ f. unit_entered number f.day f.body) batch (λ i f. refl) 0 batch.facts)

-- a component is retired by the register or by the batch
pub known_retired : (arrived : List Entry) (batch : Batch) (number day : ℕ)
    → has_come (retired_on number (register_with (in_order goes_first arrived) (entries_of batch)).in_order) day
    ≡ (has_come (retired_on number (in_order goes_first arrived)) day || retired_among number day batch.facts)
known_retired arrived batch number day =
    retired_after_facts number day arrived (entries_of batch)
    ∙ ap (λ b. has_come (retired_on number (in_order goes_first arrived)) day || b)
    (any_among (λ e. retires number e.1.body && nat_le e.0.day day) (λ f. retires number f.body && nat_le f.day day) batch (λ i f. refl) 0 batch.facts)

-- the class after the facts from a place on, from the one at the place and those after it
pub later_from : (batch : Batch) (number day i : ℕ) (facts : List Stated) (fact : Stated) (latest : Option (Key × Class)) → i < length facts
    → fact ≡ get_or facts i fact
    → later_class number day (entries_from batch i (drop i facts)) latest
    ≡ later_class number day (entries_from batch (i + 1) (drop (i + 1) facts)) (with_class day (class_at number (key_of batch i fact, fact)) latest)
later_from batch number day i facts fact latest within is = rw (drop_more facts i fact within, sym is) refl

-- .. and past the last fact
pub later_past : (batch : Batch) (number day i : ℕ) (facts : List Stated) (latest : Option (Key × Class)) → length facts ≤ i
    → later_class number day (entries_from batch i (drop i facts)) latest ≡ latest
later_past batch number day i facts latest past = rw (drop_all i facts past) refl
