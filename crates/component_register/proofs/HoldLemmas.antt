use Rattle.std.proofs.Common.{◌≡◌, ℕ, ◌+◌, ◌≤◌, ◌<◌, get_or, take, false, Vec, Option, Some, None, List, [], ◌∷◌, ◌++◌, length, drop}
use Rattle.std.proofs.Common.{slice_get, refl, sym, ap, ◌∙◌, subst, inl, inr, ◌⊎◌, nat_lt, arith}
use Rattle.std.specs.List.{filter_map, cons_option, list_any}
use Rattle.std.specs.Option.{option_map, option_or, is_some, unwrap_or}
use Rattle.std.proofs.lemmas.Bool.{cases_eq, ne_eqb}
use Rattle.list_words.specs.Order.{put_in_order, in_order, Ascends}
use Rattle.std.proofs.lemmas.List.Sorted.{length_permutation}
use Rattle.list_words.proofs.Ascending.{ascends_in_order, in_order_permutes}
use Rattle.list_words.proofs.Members.{all_weaker, all_append}
use Rattle.std.proofs.lemmas.List.{take_more, length_push}
use Rattle.fact_kinds.specs.declared.body.FactBody.{FactBody}
use Rattle.fact_kinds.specs.declared.body.FactBody.TheVariants.{Unit as UnitFact, Component as ComponentFact}
use Rattle.fact_kinds.specs.declared.class.Class.{Class}
use Rattle.fact_kinds.specs.declared.key.Key.{Key}
use Rattle.fact_kinds.specs.Stated.{Stated}
use Rattle.fact_kinds.specs.Facts.{Entry, goes_first}
use Rattle.fact_kinds.specs.Named.{component_of, unit_of}
use Rattle.fact_kinds.proofs.KeyOrder.{strict_goes_first}
use Rattle.fact_store.specs.Kept.{Kept, facts_in, is_held}
use Rattle.fact_store.specs.Lists.{items_in, OnlyGrow}
use Rattle.fact_store.specs.Naming.{HasRoomFor}
use Rattle.fact_store.proofs.KeepLemmas.{first_of, apart_more, in_order_more}
use Rattle.fact_store.proofs.CountLemmas.{room_for_others}
use Rattle.ldar_law.specs.declared.equipment.Equipment.{Equipment}
use Rattle.ldar_law.specs.declared.unit_entry.UnitEntry.{UnitEntry}
use Rattle.ldar_law.specs.Equipment.{retires, retired_on, component_entered, equipment_of, class_at, classes_of, unit_entered, unit_entry_of, member_entered}
use Rattle.ldar_law.specs.Equipment.{members_of}
use Rattle.ldar_law.specs.Force.{class_by, class_in_force}
use Rattle.ldar_law.specs.Judged.{first_entry}
use Rattle.ldar_law.specs.RegisterLaws.{enters_component, enters_unit, class_first}
use Rattle.ldar_law.proofs.BatchLemmas.{with_retired, equipment_is}
use Rattle.ldar_law.proofs.EnteredLemmas.{component_where_entered, unit_where_entered}
use Rattle.ldar_law.proofs.ForceLemmas.{class_keyed, given_ascends, given-put_none, given-put_some}
use Rattle.component_register.specs.declared.slots.Slot.{Slot}
use Rattle.component_register.specs.Classes.{class_named, put_if_any, IsByDay, TakesClass}
use Rattle.component_register.specs.Inside.{slot_by, Holds, IsSound}
use Rattle.component_register.specs.Members.{unit_joined, TakesMember}
use Rattle.component_register.specs.Once.{IsFirstOfNumber, AreEnteredOnce}
use Rattle.component_register.specs.Slots.{row_in, no_slot, slot_with, HasRow, HaveRows, OnlyAdds, TakesEntry, TakesUnit}
use Rattle.component_register.proofs.DayLemmas.{by_day_more, days_ascend}
use Rattle.component_register.proofs.FirstLemmas.{first-put, first_day-put, once-put}
use Rattle.component_register.proofs.MemberLemmas.{members-put}

none_mapped : {X Y : Type 0} (g : X → Y) (o : Option X) → option_map g o ≡ None → o ≡ None
none_mapped g None e = refl
none_mapped g (Some x) e = absurd cc

-- ---- what is entered first

component_first : (number day : ℕ) (body : FactBody) (facts : List Entry) → IsFirstOfNumber body facts
    → (component_entered number None day body ≡ None) ⊎ (first_entry number facts ≡ None)
component_first number day (ComponentFact other unit kind monomer replaces class) facts first =
    elim (cases_eq other number) [
      | inl e ↦ inr (subst (λ n. first_entry n facts ≡ None) e
          (none_mapped (with_retired (retired_on other facts)) (first_entry other facts) (sym (equipment_is other facts) ∙ first)))
      | inr differ ↦ inl (rw (ne_eqb other number differ) refl)
    ]
component_first number day _ facts first = inl refl

unit_first : (number day : ℕ) (body : FactBody) (facts : List Entry) → IsFirstOfNumber body facts
    → (unit_entered number day body ≡ None) ⊎ (unit_entry_of number facts ≡ None)
unit_first number day (UnitFact other older name) facts first =
    elim (cases_eq other number) [
      | inl e ↦ inr (subst (λ n. unit_entry_of n facts ≡ None) e first)
      | inr differ ↦ inl (rw (ne_eqb other number differ) refl)
    ]
unit_first number day _ facts first = inl refl

no_component : (number : ℕ) (facts : List Entry) → equipment_of number facts ≡ None → list_any (λ e. enters_component number e.1.body) facts ≡ false
no_component number facts none = sym ((component_where_entered number facts).0) ∙ ap is_some none

no_unit : (number : ℕ) (facts : List Entry) → unit_entry_of number facts ≡ None → list_any (λ e. enters_unit number e.1.body) facts ≡ false
no_unit number facts none = sym (unit_where_entered number facts) ∙ ap is_some none

component_once : (number : ℕ) (body : FactBody) (facts : List Entry) → IsFirstOfNumber body facts
    → (enters_component number body ≡ false) ⊎ (list_any (λ e. enters_component number e.1.body) facts ≡ false)
component_once number (ComponentFact other unit kind monomer replaces class) facts first =
    elim (cases_eq other number) [
      | inl e ↦ inr (no_component number facts (subst (λ n. equipment_of n facts ≡ None) e first))
      | inr differ ↦ inl (ne_eqb other number differ)
    ]
component_once number _ facts first = inl refl

unit_once : (number : ℕ) (body : FactBody) (facts : List Entry) → IsFirstOfNumber body facts
    → (enters_unit number body ≡ false) ⊎ (list_any (λ e. enters_unit number e.1.body) facts ≡ false)
unit_once number (UnitFact other older name) facts first =
    elim (cases_eq other number) [
      | inl e ↦ inr (no_unit number facts (subst (λ n. unit_entry_of n facts ≡ None) e first))
      | inr differ ↦ inl (ne_eqb other number differ)
    ]
unit_once number _ facts first = inl refl

-- numbers that were entered once are so still
pub once_more : (e : Entry) (facts : List Entry) → IsFirstOfNumber e.1.body facts → AreEnteredOnce facts → AreEnteredOnce (put_in_order goes_first e facts)
once_more e facts first once =
    record {
      components = λ n. once-put (λ x. enters_component n x.1.body) e facts (component_once n e.1.body facts first) (once.components n);
      units = λ n. once-put (λ x. enters_unit n x.1.body) e facts (unit_once n e.1.body facts first) (once.units n);
    }

-- ---- what is held, after one more fact

abbrev slot_of : Option Equipment → Option ℕ → Slot
slot_of entered retired = record { entered = entered; retired = retired }

same_slot : (a b : Option Equipment) (c d : Option ℕ) → a ≡ b → c ≡ d → slot_of a c ≡ slot_of b d
same_slot a b c d p q = rw (p, q) refl

slot_by-put : (number : ℕ) (e : Entry) (facts : List Entry) → IsFirstOfNumber e.1.body facts → Ascends goes_first facts
    → slot_with number e.0.day e.1.body (slot_by number facts) ≡ slot_by number (put_in_order goes_first e facts)
slot_by-put number e facts first up =
    same_slot _ _ _ _
    (sym (first-put (λ x. component_entered number None x.0.day x.1.body) e facts (component_first number e.0.day e.1.body facts first)))
    (sym (first_day-put (λ x. retires number x.1.body) e facts up))

classes_of-put : (number : ℕ) (e : Entry) (facts : List Entry) → Ascends goes_first facts
    → put_if_any class_first (class_at number e) (classes_of number facts) ≡ classes_of number (put_in_order goes_first e facts)
classes_of-put number e facts up =
    elim (class_at number e) as (λ o. class_at number e ≡ o → put_if_any class_first o (classes_of number facts) ≡ classes_of number
    (put_in_order goes_first e facts)) [
      | None ↦ λ is. sym (given-put_none (class_at number) (class_keyed number) e is facts)
      | Some new ↦ λ is. sym (given-put_some (class_at number) (class_keyed number) e new is facts up)
    ] refl

module _ {Z : Type 0} (facts : List Entry) (e : Entry) (first : IsFirstOfNumber e.1.body facts) (up : Ascends goes_first facts) where
  pub holds_more : (slots new_slots : List Slot) (units new_units : List (Option UnitEntry)) (classes new_classes : List (Vec (Key × Class) Z))
      (rosters new_rosters : List (Vec ℕ Z))
      → Holds facts slots units classes rosters → TakesEntry e.0.day e.1.body slots new_slots → TakesUnit e.0.day e.1.body units new_units
      → TakesClass e.0 e.1.body classes new_classes → TakesMember e.1.body rosters new_rosters
      → Holds (put_in_order goes_first e facts) new_slots new_units new_classes new_rosters
  holds_more slots new_slots units new_units classes new_classes rosters new_rosters holds takes takes_unit takes_class takes_member =
      record {
        slot = λ n. takes.rows n ∙ ap (slot_with n e.0.day e.1.body) (holds.slot n) ∙ slot_by-put n e facts first up;
        unit = λ n. takes_unit.rows n ∙ ap (λ o. option_or (unit_entered n e.0.day e.1.body) o) (holds.unit n)
            ∙ sym (first-put (λ x. unit_entered n x.0.day x.1.body) e facts (unit_first n e.0.day e.1.body facts first));
        listed = λ n. subst (λ all. IsByDay (items_in new_classes n) all) (classes_of-put n e facts up)
            (subst (λ kept. IsByDay kept (put_if_any class_first (class_at n e) (classes_of n facts))) (sym (takes_class.listed n))
            (by_day_more (class_at n e) (items_in classes n) (classes_of n facts) (given_ascends (class_at n) (class_keyed n) facts up) (holds.listed n)));
        members = λ n. takes_member.listed n ∙ ap (put_if_any nat_lt (member_entered n e.1.body)) (holds.members n) ∙ sym (members-put n e facts);
      }

-- ---- rows for the facts to come

has_row : {T : Type 0} (number : Option ℕ) (old new : List T) → length old ≤ length new → HasRow number old → HasRow number new
has_row None old new more has = tt
has_row (Some n) old new more has = omega (arith, more, has)

-- rows that were there are there when there are no fewer
pub have_rows : {T : Type 0} (naming : FactBody → Option ℕ) (facts : List Stated) (old new : List T) → length old ≤ length new
    → HaveRows naming facts old → HaveRows naming facts new
have_rows naming facts old new same rows =
    all_weaker (λ f. HasRow (naming f.body) old) (λ f. HasRow (naming f.body) new) (λ f h. has_row (naming f.body) old new same h) facts rows

-- ---- inside a register, after one more fact

module _ {Z : Type 0} (kept : Kept) (key : Key) (fact : Stated) (body : FactBody) (stated : body ≡ fact.body)
    (next : slice_get kept.spare 0 ≡ Some fact) (new_key : is_held key kept.arrived ≡ false) (first : IsFirstOfNumber fact.body (facts_in kept))
    (few : length kept.arrived < 8_000_000) where
  pub sound_more : (slots new_slots : List Slot) (units new_units : List (Option UnitEntry)) (classes new_classes : List (Vec (Key × Class) Z))
      (rosters new_rosters : List (Vec ℕ Z))
      → IsSound kept slots units classes rosters → TakesEntry key.day body slots new_slots → TakesUnit key.day body units new_units
      → TakesClass key body classes new_classes → TakesMember body rosters new_rosters
      → IsSound (record { arrived = kept.arrived ++ (key, fact) ∷ []; spare = drop 1 kept.spare }) new_slots new_units new_classes new_rosters
  sound_more slots new_slots units new_units classes new_classes rosters new_rosters sound takes takes_unit takes_class takes_member =
      let apart = apart_more kept.arrived key fact sound.apart new_key in
      let grown : in_order goes_first (kept.arrived ++ (key, fact) ∷ []) ≡ put_in_order goes_first (key, fact) (facts_in kept) = in_order_more kept.arrived
      (key, fact) apart in
      let up = ascends_in_order goes_first strict_goes_first kept.arrived sound.apart in
      let spare = first_of kept.spare fact next in
      record {
        apart = apart;
        few = omega (arith, few, length_push kept.arrived (key, fact));
        once = rw grown (once_more (key, fact) (facts_in kept) first sound.once);
        holds = rw grown (holds_more (facts_in kept) (key, fact) first up slots new_slots units new_units classes new_classes rosters new_rosters sound.holds
            (subst (λ b. TakesEntry key.day b slots new_slots) stated takes) (subst (λ b. TakesUnit key.day b units new_units) stated takes_unit)
            (subst (λ b. TakesClass key b classes new_classes) stated takes_class) (subst (λ b. TakesMember b rosters new_rosters) stated takes_member));
        slot_room = have_rows component_of (drop 1 kept.spare) slots new_slots (omega (arith, takes.same))
            ((subst (λ fs. HaveRows component_of fs slots) spare sound.slot_room).1);
        unit_room = have_rows unit_of (drop 1 kept.spare) units new_units (omega (arith, takes_unit.same))
            ((subst (λ fs. HaveRows unit_of fs units) spare sound.unit_room).1);
        class_room = room_for_others class_named fact (drop 1 kept.spare) classes new_classes
            (subst (λ fs. HasRoomFor class_named fs classes) spare sound.class_room)
            (subst (λ b. TakesClass key b classes new_classes) stated takes_class).room;
        member_room = room_for_others unit_joined fact (drop 1 kept.spare) rosters new_rosters
            (subst (λ fs. HasRoomFor unit_joined fs rosters) spare sound.member_room) (subst (λ b. TakesMember b rosters new_rosters) stated takes_member).room;
      }

-- ---- what a register answers

module _ {Z : Type 0} (kept : Kept) (slots : List Slot) (units : List (Option UnitEntry)) (classes : List (Vec (Key × Class) Z)) (rosters : List (Vec ℕ Z))
    (sound : IsSound kept slots units classes rosters) (number : ℕ) where
  pub classes_ascend : Ascends class_first (items_in classes number)
  classes_ascend = days_ascend (items_in classes number) (sound.holds.listed number).days

  pub component_held : (slot : Slot) → slot ≡ row_in no_slot slots number
      → equipment_of number (facts_in kept) ≡ option_map (with_retired slot.retired) slot.entered
  component_held slot is =
      equipment_is number (facts_in kept) ∙ rw (is ∙ sound.holds.slot number) refl

  -- the class in force, where the component was entered
  pub class_held_on : (day : ℕ) (slot : Slot) → slot ≡ row_in no_slot slots number → (item : Equipment) → slot.entered ≡ Some item
      → class_in_force number (facts_in kept) day ≡ Some (unwrap_or (option_map (λ entered. entered.1) (class_by day (items_in classes number))) item.class)
  class_held_on day slot is item entered =
      rw (component_held slot is, entered, (sound.holds.listed number).in_force day) refl

  -- .. and where it was not
  pub no_class_held : (day : ℕ) (slot : Slot) → slot ≡ row_in no_slot slots number → slot.entered ≡ None → class_in_force number (facts_in kept) day ≡ None
  no_class_held day slot is none = rw (component_held slot is, none) refl

  pub retirement_held : (slot : Slot) → slot ≡ row_in no_slot slots number → slot.retired ≡ retired_on number (facts_in kept)
  retirement_held slot is = ap (λ s. s.retired) (is ∙ sound.holds.slot number)

  filter_map_no_longer : {X Y : Type 0} (f : X → Option Y) (xs : List X) → length (filter_map f xs) ≤ length xs
  filter_map_no_longer f [] = omega arith
  filter_map_no_longer f (x ∷ xs) =
      let rest = filter_map_no_longer f xs in
      elim (f x) as (λ o. length (cons_option o (filter_map f xs)) ≤ length (x ∷ xs)) [ None ↦ omega arith | Some y ↦ omega arith ]

  -- a process unit has no more members than there are entries
  pub members_few : length (members_of number (facts_in kept)) ≤ 8_000_000
  members_few =
      let given = filter_map (λ e. member_entered number e.1.body) (facts_in kept) in
      omega (
        arith,
        sound.few,
        filter_map_no_longer (λ e. member_entered number e.1.body) (facts_in kept),
        length_permutation kept.arrived (facts_in kept) (in_order_permutes goes_first kept.arrived),
        length_permutation given (members_of number (facts_in kept)) (in_order_permutes nat_lt given),
      )

-- ---- room for other facts

rows_for_one_more : {T : Type 0} (naming : FactBody → Option ℕ) (facts : List Stated) (fact : Stated) (empty : T) (old new : List T) → HaveRows naming facts old
    → OnlyAdds empty old new → HasRow (naming fact.body) new → HaveRows naming (facts ++ fact ∷ []) new
rows_for_one_more naming facts fact empty old new have adds has =
    all_append (λ f. HasRow (naming f.body) new) facts (fact ∷ []) (have_rows naming facts old new adds.grows have) (has, tt)

-- rows for one fact more of some
pub have_rows_more : {T : Type 0} (naming : FactBody → Option ℕ) (facts : List Stated) (i : ℕ) (fact : Stated) (empty : T) (old new : List T) → i < length facts
    → fact ≡ get_or facts i fact → HaveRows naming (take i facts) old → OnlyAdds empty old new → HasRow (naming fact.body) new → HaveRows naming
    (take (i + 1) facts) new
have_rows_more naming facts i fact empty old new within is have adds has =
    rw (take_more facts i fact within, sym is) (rows_for_one_more naming (take i facts) fact empty old new have adds has)

module _ {Z : Type 0} (kept : Kept) (slots : List Slot) (units : List (Option UnitEntry)) (classes : List (Vec (Key × Class) Z)) (rosters : List (Vec ℕ Z))
    (sound : IsSound kept slots units classes rosters) where
  pub sound_slots : (new : List Slot) → OnlyAdds no_slot slots new → IsSound kept new units classes rosters
  sound_slots new adds =
      record {
        apart = sound.apart;
        few = sound.few;
        once = sound.once;
        holds = record { slot = λ n. adds.rows n ∙ sound.holds.slot n; unit = sound.holds.unit; listed = sound.holds.listed; members = sound.holds.members };
        slot_room = have_rows component_of kept.spare slots new adds.grows sound.slot_room;
        unit_room = sound.unit_room;
        class_room = sound.class_room;
        member_room = sound.member_room;
      }

  pub sound_units : (new : List (Option UnitEntry)) → OnlyAdds None units new → IsSound kept slots new classes rosters
  sound_units new adds =
      record {
        apart = sound.apart;
        few = sound.few;
        once = sound.once;
        holds = record { slot = sound.holds.slot; unit = λ n. adds.rows n ∙ sound.holds.unit n; listed = sound.holds.listed; members = sound.holds.members };
        slot_room = sound.slot_room;
        unit_room = have_rows unit_of kept.spare units new adds.grows sound.unit_room;
        class_room = sound.class_room;
        member_room = sound.member_room;
      }

  pub sound_classes : (new : List (Vec (Key × Class) Z)) → OnlyGrow classes new → IsSound kept slots units new rosters
  sound_classes new grows =
      record {
        apart = sound.apart;
        few = sound.few;
        once = sound.once;
        holds = record { slot = sound.holds.slot; unit = sound.holds.unit; listed = λ n. subst (λ items. IsByDay items (classes_of n (facts_in kept))) (sym (grows.items n)) (sound.holds.listed n); members = sound.holds.members };
        slot_room = sound.slot_room;
        unit_room = sound.unit_room;
        class_room = λ n. omega (arith, sound.class_room n, grows.room n);
        member_room = sound.member_room;
      }

  pub sound_rosters : (new : List (Vec ℕ Z)) → OnlyGrow rosters new → IsSound kept slots units classes new
  sound_rosters new grows =
      record {
        apart = sound.apart;
        few = sound.few;
        once = sound.once;
        holds = record { slot = sound.holds.slot; unit = sound.holds.unit; listed = sound.holds.listed; members = λ n. grows.items n ∙ sound.holds.members n };
        slot_room = sound.slot_room;
        unit_room = sound.unit_room;
        class_room = sound.class_room;
        member_room = λ n. omega (arith, sound.member_room n, grows.room n);
      }

  pub sound_spare : (facts : List Stated) → HaveRows component_of facts slots → HaveRows unit_of facts units
      → HasRoomFor class_named facts classes → HasRoomFor unit_joined facts rosters → IsSound (record kept { spare = facts }) slots units classes rosters
  sound_spare facts slot_room unit_room class_room member_room =
      record {
        apart = sound.apart;
        few = sound.few;
        once = sound.once;
        holds = sound.holds;
        slot_room = slot_room;
        unit_room = unit_room;
        class_room = class_room;
        member_room = member_room;
      }
