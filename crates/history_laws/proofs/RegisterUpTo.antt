use Rattle.std.proofs.Common.{◌≡◌, ℕ, ◌+◌, ◌≤◌, Bool, true, false, ◌&&◌, not, cond, nat_eq, nat_lt, nat_le, Option, Some, None, List, filter}
use Rattle.std.proofs.Common.{refl, sym, ap, ◌∙◌, inl, inr, arith}
use Rattle.std.specs.Prelude.{◌-◌, find, option_and_then, option_map, unwrap_or}
use Rattle.std.specs.List.{filter_map}
use Rattle.std.proofs.lemmas.Bool.{cases_Bool, false≢true, leb-true, le-leb}
use Rattle.list_words.specs.Order.{in_order}
use Rattle.list_words.proofs.Members.{Among, all_from_among}
use Rattle.list_words.proofs.Narrowing.{last_such_narrowed, filter_map_narrowed}
use Rattle.list_words.proofs.PutLemmas.{filter-in_order}
use Rattle.fact_kinds.specs.declared.body.FactBody.{FactBody}
use Rattle.fact_kinds.specs.declared.body.FactBody.TheVariants.{Election, Shutdown}
use Rattle.fact_kinds.specs.declared.key.Key.{Key}
use Rattle.fact_kinds.specs.Facts.{Entry}
use Rattle.ldar_law.specs.declared.election.ElectionEntry.{ElectionEntry}
use Rattle.ldar_law.specs.declared.delay.Stop.{Stop}
use Rattle.ldar_law.specs.declared.equipment.Equipment.{Equipment}
use Rattle.ldar_law.specs.Equipment.{retires, retired_on, component_entered, equipment_of, class_at, classes_of, unit_entered, member_entered, members_of}
use Rattle.ldar_law.specs.Equipment.{election_entered, stop_entered}
use Rattle.ldar_law.specs.Force.{has_come}
use Rattle.ldar_law.specs.Judged.{first_entry}
use Rattle.ldar_days.specs.Calendar.{end_by}
use Rattle.ldar_law.specs.Units.{Known, known_of}
use Rattle.ldar_law.proofs.BatchLemmas.{with_retired, equipment_is}
use Rattle.ldar_law.proofs.ForceLemmas.{class_keyed}
use Rattle.history_laws.specs.DayLaws.{up_to, if_come, if_begun, ComponentsUpToADay, UnitsUpToADay}
use Rattle.history_laws.specs.DayLaws.{StandingForgetsLaterDays, has_begun, MembersUpToADay, ComponentsAreOfAllMembers}
use Rattle.history_laws.specs.RulyLaws.{IsEachOnce}
use Rattle.history_laws.proofs.Counting.{strict_lt}
use Rattle.history_laws.proofs.Origins.{begins, startup_is}
use Rattle.history_laws.proofs.MemberLemmas.{joined_is, member_is_entered, apart_numbers, entry_is_first}
use Rattle.history_laws.proofs.UpTo.{given_where, first_up_to, given_up_to, found_up_to}

-- ---- a component

-- the day of the first retirement, if it is not after t
retired_up_to : (t : ℕ) (o : Option Entry)
    → option_map (λ e. e.0.day) (option_and_then (λ e. cond (nat_le e.0.day t) (Some e) None) o) ≡ if_come t (option_map (λ e. e.0.day) o)
retired_up_to t None = refl
retired_up_to t (Some e) = elim (cases_Bool (nat_le e.0.day t)) [ inl within ↦ rw within refl | inr out ↦ rw out refl ]

-- the component with its retirement, if it has begun
begun_up_to : (t : ℕ) (retired : Option ℕ) (o : Option Equipment)
    → option_map (with_retired (if_come t retired)) (option_and_then (λ x. cond (nat_le x.begin t) (Some x) None) o)
    ≡ option_and_then (if_begun t) (option_map (with_retired retired) o)
begun_up_to t retired None = refl
begun_up_to t retired (Some item) = elim (cases_Bool (nat_le item.begin t)) [ inl within ↦ rw within refl | inr out ↦ rw out refl ]

-- the classes of facts up to a day
pub classes_up_to : (t number : ℕ) (facts : List Entry)
    → classes_of number (up_to t facts) ≡ filter (λ entered. nat_le entered.0.day t) (classes_of number facts)
classes_up_to t number facts =
    given_up_to (class_at number) (λ entered. entered.0.day) (λ e y is. ap (λ key. key.day) (class_keyed number e y is)) t facts

pub components_up_to_a_day : ComponentsUpToADay
components_up_to_a_day t number facts order =
    let retired : retired_on number (up_to t facts) ≡ if_come t (retired_on number facts) =
    ap (option_map (λ e. e.0.day)) (found_up_to (λ e. retires number e.1.body) t facts order)
    ∙ retired_up_to t (find (λ e. retires number e.1.body) facts) in
    let first : first_entry number (up_to t facts) ≡ option_and_then (λ x. cond (nat_le x.begin t) (Some x) None) (first_entry number facts) =
    first_up_to (λ e. component_entered number None e.0.day e.1.body) (λ x. x.begin)
    (λ e x is. (begins number None e.0.day e.1.body x is).begin) t facts order in
    record {
      retired = retired;
      equipment = equipment_is number (up_to t facts)
          ∙ rw (retired, first) (begun_up_to t (retired_on number facts) (first_entry number facts))
          ∙ ap (option_and_then (if_begun t)) (sym (equipment_is number facts));
      classes = classes_up_to t number facts;
    }

-- ---- a process unit

-- an election has the key of its fact
pub election_is : (number : ℕ) (key : Key) (body : FactBody) (x : ElectionEntry) → election_entered number key body ≡ Some x → x.key ≡ key
election_is number key (Election other mode notified) x e =
    elim (cases_Bool (nat_eq other number)) [
      | inl t ↦ let is : Some (record { key = key; mode = mode }) ≡ Some x = rw t at e in cc
      | inr f ↦ let none : None ≡ Some x = rw f at e in absurd cc
    ]
election_is number key _ x e = absurd cc

-- a shutdown begins on the day of its fact
pub stop_is : (number day : ℕ) (body : FactBody) (x : Stop) → stop_entered number day body ≡ Some x → x.first ≡ day
stop_is number day (Shutdown other days) x e =
    elim (cases_Bool (nat_eq other number)) [
      | inl t ↦ let is : Some (record { first = day; last = end_by (day + days - 1) }) ≡ Some x = rw t at e in cc
      | inr f ↦ let none : None ≡ Some x = rw f at e in absurd cc
    ]
stop_is number day _ x e = absurd cc

pub units_up_to_a_day : UnitsUpToADay
units_up_to_a_day t number facts order = record {
  entry = first_up_to (λ e. unit_entered number e.0.day e.1.body) (λ x. x.startup) (λ e x is. startup_is number e.0.day e.1.body x is) t facts order;
  elections = given_up_to (λ e. election_entered number e.0 e.1.body) (λ x. x.key.day)
      (λ e x is. ap (λ key. key.day) (election_is number e.0 e.1.body x is)) t facts;
  stops = given_up_to (λ e. stop_entered number e.0.day e.1.body) (λ x. x.first) (λ e x is. stop_is number e.0.day e.1.body x is) t facts;
}

-- ---- a day up to the view day

-- a day up to another one that is up to the view day
pub day_within : (a b t : ℕ) → a ≤ b → b ≤ t → nat_le a t ≡ true
day_within a b t first second = le-leb a t (omega (arith, first, second))

-- a day that has come by a day up to the view day
come_alike : (t day : ℕ) (retired : Option ℕ) → day ≤ t → has_come (if_come t retired) day ≡ has_come retired day
come_alike t day None within = refl
come_alike t day (Some first) within =
    elim (cases_Bool (nat_le first t)) [
      | inl come ↦ rw come refl
      | inr later ↦ elim (cases_Bool (nat_le first day)) [
        | inl e ↦ absurd (false≢true (sym later ∙ day_within first day t (leb-true first day e) within))
        | inr e ↦ rw (later, e) refl
      ]
    ]

pub standing_forgets_later_days : StandingForgetsLaterDays
standing_forgets_later_days t day item classes within = record {
  class = ap (λ found. unwrap_or (option_map (λ entered. entered.1) found) item.class)
      (last_such_narrowed (λ entered. nat_le entered.0.day day) (λ entered. nat_le entered.0.day t)
      (λ entered e. day_within entered.0.day day t (leb-true entered.0.day day e) within) classes);
  service = ap (λ b. nat_le item.begin day && not b) (come_alike t day item.retired within);
}

-- ---- members

module _ (t unit : ℕ) (facts : List Entry) (once : IsEachOnce facts) where
  -- a member has begun by the day of the fact that enters it
  begun_is : (e : Entry) → Among facts e → (number : ℕ) → member_entered unit e.1.body ≡ Some number → has_begun t facts number ≡ nat_le e.0.day t
  begun_is e among number is =
      let joined = joined_is unit number (retired_on number facts) e.0.day e.1.body is in
      let there : equipment_of number facts ≡ Some joined.0 =
      entry_is_first number (retired_on number facts) facts e joined.0 (once.components number) among (member_is_entered unit number e.1.body is) joined.1 in
      let day = (begins number (retired_on number facts) e.0.day e.1.body joined.0 joined.1).begin in
      rw (there, has_begun) (ap (λ n. nat_le n t) day)

  -- the members by the facts up to a day
  pub members_up_to : members_of unit (up_to t facts) ≡ filter (has_begun t facts) (members_of unit facts)
  members_up_to =
      let given = filter_map (λ e. member_entered unit e.1.body) facts in
      ap (in_order nat_lt)
      (given_where (λ e. member_entered unit e.1.body) (λ e. nat_le e.0.day t) (has_begun t facts) facts
      (all_from_among (λ e. (number : ℕ) → member_entered unit e.1.body ≡ Some number → has_begun t facts number ≡ nat_le e.0.day t) facts begun_is))
      ∙ sym (filter-in_order nat_lt strict_lt (has_begun t facts) given (apart_numbers unit facts once.components))

pub members_up_to_a_day : MembersUpToADay
members_up_to_a_day t unit facts once = members_up_to t unit facts once

-- a component that has not begun does not exist yet
unbegun : (t : ℕ) (o : Option Equipment)
    → (elim o as (λ x. Bool) [ None ↦ false | Some item ↦ nat_le item.begin t ]) ≡ false → option_and_then (if_begun t) o ≡ None
unbegun t None out = refl
unbegun t (Some item) out = rw out refl

pub components_are_of_all_members : ComponentsAreOfAllMembers
components_are_of_all_members t unit facts order once =
    let known : ℕ → Option Known = λ number. option_map (known_of (up_to t facts)) (equipment_of number (up_to t facts)) in
    ap (filter_map known) (members_up_to t unit facts once)
    ∙ filter_map_narrowed known (has_begun t facts) (λ number out.
    ap (option_map (known_of (up_to t facts)))
    ((components_up_to_a_day t number facts order).equipment ∙ unbegun t (equipment_of number facts) out)) (members_of unit facts)
