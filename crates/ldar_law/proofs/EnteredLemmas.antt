use Rattle.std.proofs.Common.{◌≡◌, ℕ, Bool, true, false, ◌||◌, ◌&&◌, cond, nat_eq, nat_lt, nat_le, Option, Some, None, List, [], ◌∷◌, slice_get, refl, sym}
use Rattle.std.proofs.Common.{ap, ◌∙◌, inl, inr, arith}
use Rattle.std.specs.List.{list_any, filter_map, cons_option}
use Rattle.std.specs.Option.{is_some, option_map}
use Rattle.std.proofs.lemmas.Bool.{cases_lt, lt-ltb, le-ltb, le-leb, leb-true}
use Rattle.list_words.specs.Order.{put_in_order, in_order, Ascends}
use Rattle.list_words.proofs.Ascending.{all_put, among_in_order}
use Rattle.list_words.proofs.Members.{Among, among_from_Contains, Contains-from_among, all_weaker}
use Rattle.list_words.proofs.WordLaws.{last_such_finds}
use Rattle.fact_kinds.specs.declared.body.FactBody.{FactBody}
use Rattle.fact_kinds.specs.declared.body.FactBody.TheVariants.{Unit as UnitFact, Component as ComponentFact, Class as ClassFact}
use Rattle.fact_kinds.specs.declared.key.Key.{Key}
use Rattle.fact_kinds.specs.declared.class.Class.{Class}
use Rattle.fact_kinds.specs.Facts.{Entry}
use Rattle.ldar_law.specs.Equipment.{retired_on, component_entered, equipment_of, class_entered, classes_of, unit_entered, member_entered, members_of}
use Rattle.ldar_law.specs.Force.{class_on}
use Rattle.ldar_law.specs.RegisterLaws.{enters_component, enters_unit, enters_class, ComponentWhereEntered, UnitWhereEntered, ClassWhereEntered}
use Rattle.ldar_law.specs.RegisterLaws.{MembersAreEntered}

some_if : {X : Type 0} (b : Bool) (x : X) → is_some (cond b (Some x) None) ≡ b
some_if true x = refl
some_if false x = refl

-- there is a first value exactly if some fact has a value
first_where_given : {X : Type 0} (f : Entry → Option X) (p : Entry → Bool) → ((e : Entry) → is_some (f e) ≡ p e) → (es : List Entry) →
    is_some (slice_get (filter_map f es) 0) ≡ list_any p es
first_where_given f p same [] = refl
first_where_given f p same (e ∷ es) =
    elim (f e) as (λ o. is_some o ≡ p e → is_some (slice_get (cons_option o (filter_map f es)) 0) ≡ (p e || list_any p es)) [
      | None ↦ λ is. rw (sym is) (first_where_given f p same es)
      | Some x ↦ λ is. rw (sym is) refl
    ] (same e)

-- a fact has an entry of a component exactly if it enters the component
component_given : (number : ℕ) (retired : Option ℕ) (day : ℕ) (body : FactBody) →
    is_some (component_entered number retired day body) ≡ enters_component number body
component_given number retired day (ComponentFact other unit kind monomer replaces class) = some_if (nat_eq other number) _
component_given number retired day _ = refl

unit_given : (number day : ℕ) (body : FactBody) → is_some (unit_entered number day body) ≡ enters_unit number body
unit_given number day (UnitFact other older name) = some_if (nat_eq other number) _
unit_given number day _ = refl

class_given : (number : ℕ) (body : FactBody) → is_some (class_entered number body) ≡ enters_class number body
class_given number (ClassFact other class) = some_if (nat_eq other number) _
class_given number _ = refl

some_mapped : {X Y : Type 0} (f : X → Y) (o : Option X) → is_some (option_map f o) ≡ is_some o
some_mapped f None = refl
some_mapped f (Some x) = refl

pub component_where_entered : ComponentWhereEntered
component_where_entered number facts =
    let found = first_where_given (λ e. component_entered number (retired_on number facts) e.0.day e.1.body) (λ e. enters_component number e.1.body)
    (λ e. component_given number (retired_on number facts) e.0.day e.1.body) facts in (
      found,
      λ day. some_mapped (λ item. class_on item (classes_of number facts) day) (equipment_of number facts) ∙ found,
    )

pub unit_where_entered : UnitWhereEntered
unit_where_entered number facts =
    first_where_given (λ e. unit_entered number e.0.day e.1.body) (λ e. enters_unit number e.1.body) (λ e. unit_given number e.0.day e.1.body) facts

-- some class of a fact was entered by the day
class_given_by : (day : ℕ) (e : Entry) (o : Option Class) (enters : Bool) (rest : List (Key × Class)) (others : Bool) → is_some o ≡ enters →
    list_any (λ entered. nat_le entered.0.day day) rest ≡ others →
    list_any (λ entered. nat_le entered.0.day day) (cons_option (option_map (λ class. (e.0, class)) o) rest) ≡ ((enters && nat_le e.0.day day) || others)
class_given_by day e None enters rest others is same = rw (sym is) same
class_given_by day e (Some class) enters rest others is same = rw (sym is) (ap (λ b. nat_le e.0.day day || b) same)

-- some class was entered by the day exactly if some fact enters one by then
classes_given : (number day : ℕ) (facts : List Entry) →
    list_any (λ entered. nat_le entered.0.day day) (classes_of number facts) ≡ list_any (λ e. enters_class number e.1.body && nat_le e.0.day day) facts
classes_given number day [] = refl
classes_given number day (e ∷ es) =
    class_given_by day e (class_entered number e.1.body) (enters_class number e.1.body) (classes_of number es) _ (class_given number e.1.body)
    (classes_given number day es)

pub class_where_entered : ClassWhereEntered
class_where_entered number day facts =
    last_such_finds (Key × Class) (λ entered. nat_le entered.0.day day) (classes_of number facts) ∙ classes_given number day facts

-- an element of the values of a list is the value of one of its elements
among_given : {X Y : Type 0} (f : X → Option Y) (xs : List X) (y : Y) → Among (filter_map f xs) y → (x : X) × Among xs x × (f x ≡ Some y)
among_given f [] y h = absurd h
among_given f (x ∷ xs) y h =
    elim (f x) as (λ o. f x ≡ o → Among (cons_option o (filter_map f xs)) y → (z : _) × Among (x ∷ xs) z × (f z ≡ Some y)) [
      | None ↦ λ is there. let found = among_given f xs y there in (found.0, inr found.1, found.2)
      | Some z ↦ λ is there. elim there [
        | inl same ↦ (x, inl refl, is ∙ ap Some same)
        | inr later ↦ let found = among_given f xs y later in (found.0, inr found.1, found.2)
      ]
    ] refl h

behind : {Y : Type 0} (o : Option Y) (ys : List Y) (y : Y) → Among ys y → Among (cons_option o ys) y
behind None ys y h = h
behind (Some z) ys y h = inr h

given_among : {X Y : Type 0} (f : X → Option Y) (xs : List X) (x : X) (y : Y) → Among xs x → f x ≡ Some y → Among (filter_map f xs) y
given_among f [] x y h gives = absurd h
given_among f (z ∷ zs) x y (inl same) gives = rw (same, gives) (inl refl)
given_among f (z ∷ zs) x y (inr later) gives = behind (f z) (filter_map f zs) y (given_among f zs x y later gives)

-- Sorted numbers do not decrease.

rises_put : (x : ℕ) (xs : List ℕ) → Ascends nat_le xs → Ascends nat_le (put_in_order nat_lt x xs)
rises_put x [] up = (tt, tt)
rises_put x (y ∷ ys) up =
    elim (cases_lt x y) [
      | inl below ↦ rw (lt-ltb x y below) (
        (
          le-leb x y (omega (arith, below)),
          all_weaker (λ z. nat_le y z ≡ true) (λ z. nat_le x z ≡ true) (λ z e. le-leb x z (omega (arith, below, leb-true y z e))) ys up.0,
        ),
        up,
      )
      | inr above ↦ rw (le-ltb x y above) (all_put (λ z. nat_le y z ≡ true) nat_lt x ys (le-leb y x above) up.0, rises_put x ys up.1)
    ]

pub rises_in_order : (xs : List ℕ) → Ascends nat_le (in_order nat_lt xs)
rises_in_order [] = tt
rises_in_order (x ∷ xs) = rises_put x (in_order nat_lt xs) (rises_in_order xs)

pub members_are_entered : MembersAreEntered
members_are_entered number facts =
    let given = filter_map (λ e. member_entered number e.1.body) facts in (
      λ component. (
        λ held.
            let found = among_given (λ e. member_entered number e.1.body) facts component
            ((among_in_order nat_lt given component).1 (among_from_Contains (members_of number facts) component held)) in
            record { entry = found.0; held = Contains-from_among facts found.0 found.1; enters = found.2 },
        λ is.
            Contains-from_among (members_of number facts) component
            ((among_in_order nat_lt given component).0
            (given_among (λ e. member_entered number e.1.body) facts is.entry component (among_from_Contains facts is.entry is.held) is.enters)),
      ),
      rises_in_order given,
    )
