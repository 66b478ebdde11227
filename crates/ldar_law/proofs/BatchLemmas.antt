use Rattle.std.proofs.Common.{◌≡◌, ℕ, Bool, true, false, not, ◌&&◌, ◌||◌, Option, Some, None, List, [], ◌∷◌, ◌++◌, slice_get}
use Rattle.std.proofs.Common.{refl, sym, ap, ◌∙◌, inl, inr}
use Rattle.std.specs.List.{filter_map, cons_option}
use Rattle.std.specs.Option.{option_map, option_or}
use Rattle.std.proofs.lemmas.List.{append-nil, append_assoc}
use Rattle.std.proofs.lemmas.Bool.{cases_eq, eq-eqb, ne_eqb}
use Rattle.list_words.specs.Words.{somewhere_from}
use Rattle.fact_kinds.specs.declared.body.FactBody.{FactBody}
use Rattle.fact_kinds.specs.declared.body.FactBody.TheVariants.{Component as ComponentFact}
use Rattle.fact_kinds.specs.Facts.{Entry}
use Rattle.list_words.proofs.Narrowing.{filter_map_narrowed}
use Rattle.ldar_law.specs.declared.equipment.Equipment.{Equipment}
use Rattle.ldar_law.specs.Equipment.{retired_on, component_entered, equipment_of, unit_entered}
use Rattle.ldar_law.specs.Judged.{first_entry}
use Rattle.ldar_law.specs.Slices.{is_registered}
use Rattle.ldar_law.specs.Verdicts.{is_pass, verdict_on}
use Rattle.ldar_law.specs.BatchLaws.{unretired, FirstEntryOfTwo, FirstUnitOfTwo, FirstEntryIsRegistered, FirstEntryIsEquipment, RulyByOneMore}
use Rattle.ldar_law.proofs.SliceLemmas.{unregistered_component}

-- ---- the first of two lists

module _ {X : Type 0} (f : Entry → Option X) where
  first_more : (o : Option X) (xs ys : List X) (rest : Option X) → slice_get ys 0 ≡ option_or (slice_get xs 0) rest
      → slice_get (cons_option o ys) 0 ≡ option_or (slice_get (cons_option o xs) 0) rest
  first_more None xs ys rest e = e
  first_more (Some x) xs ys rest e = refl

  -- the first element with a value, in two lists one after the other
  pub first_of_two : (facts more : List Entry)
      → slice_get (filter_map f (facts ++ more)) 0 ≡ option_or (slice_get (filter_map f facts) 0) (slice_get (filter_map f more) 0)
  first_of_two [] more = refl
  first_of_two (e ∷ es) more =
      first_more (f e) (filter_map f es) (filter_map f (es ++ more)) (slice_get (filter_map f more) 0) (first_of_two es more)

pub first_entry_of_two : FirstEntryOfTwo
first_entry_of_two number facts more = first_of_two (λ e. component_entered number None e.0.day e.1.body) facts more

pub first_unit_of_two : FirstUnitOfTwo
first_unit_of_two number facts more = first_of_two (λ e. unit_entered number e.0.day e.1.body) facts more

pub first_entry_is_registered : FirstEntryIsRegistered
first_entry_is_registered number facts =
    ap (λ given. slice_get given 0)
    (filter_map_narrowed (λ e. component_entered number None e.0.day e.1.body) (λ e. is_registered e.1.body)
    (λ e out. (unregistered_component number e.1.body out).no_component None e.0.day) facts)

-- ---- a component with its retirement

abbrev pub with_retired : Option ℕ → Equipment → Equipment
with_retired retired item = record item { retired = retired }

-- the entry of a component does not depend on its retirement
entered_so : (number : ℕ) (retired : Option ℕ) (day : ℕ) (body : FactBody)
    → component_entered number retired day body ≡ option_map (with_retired retired) (component_entered number None day body)
entered_so number retired day (ComponentFact other unit kind monomer replaces class) =
    elim (cases_eq other number) [
      | inl e ↦ rw (eq-eqb other number e) refl
      | inr differ ↦ rw (ne_eqb other number differ) refl
    ]
entered_so number retired day _ = refl

-- the first of mapped values
mapped_first : {X Y : Type 0} (g : X → Y) (f : Entry → Option X) (h : Entry → Option Y) → ((e : Entry) → h e ≡ option_map g (f e))
    → (es : List Entry) → slice_get (filter_map h es) 0 ≡ option_map g (slice_get (filter_map f es) 0)
mapped_first g f h same [] = refl
mapped_first g f h same (e ∷ es) =
    rw (same e)
    (elim (f e) as (λ o. slice_get (cons_option (option_map g o) (filter_map h es)) 0
    ≡ option_map g (slice_get (cons_option o (filter_map f es)) 0)) [
      | None ↦ mapped_first g f h same es
      | Some x ↦ refl
    ])

-- a component is as its first entry has it, with the first day of its retirement
pub equipment_is : (number : ℕ) (facts : List Entry)
    → equipment_of number facts ≡ option_map (with_retired (retired_on number facts)) (first_entry number facts)
equipment_is number facts =
    mapped_first (with_retired (retired_on number facts)) (λ e. component_entered number None e.0.day e.1.body)
    (λ e. component_entered number (retired_on number facts) e.0.day e.1.body) (λ e. entered_so number (retired_on number facts) e.0.day e.1.body) facts

taken_off : (retired : Option ℕ) (o : Option Equipment) → option_map unretired (option_map (with_retired retired) o) ≡ option_map unretired o
taken_off retired None = refl
taken_off retired (Some item) = refl

pub first_entry_is_equipment : FirstEntryIsEquipment
first_entry_is_equipment number facts =
    ap (option_map unretired) (equipment_is number facts)
    ∙ taken_off (retired_on number facts) (first_entry number facts)
    ∙ sym (mapped_first unretired (λ e. component_entered number None e.0.day e.1.body) (λ e. component_entered number None e.0.day e.1.body)
    (λ e. entered_so number None e.0.day e.1.body) facts)

-- ---- one more batch

or_false : (b : Bool) → b ≡ (b || false)
or_false true = refl
or_false false = refl

or_assoc : (a b c : Bool) → (a || (b || c)) ≡ ((a || b) || c)
or_assoc true b c = refl
or_assoc false b c = refl

module _ {X : Type 0} (q : List X → X → Bool) where
  -- some element passes, seen with those before it, in a list with one more element
  somewhere-push : (front xs : List X) (x : X)
      → somewhere_from (λ before y after. q before y) front (xs ++ x ∷ [])
      ≡ (somewhere_from (λ before y after. q before y) front xs || q (front ++ xs) x)
  somewhere-push front [] x = rw append-nil (sym (or_false (q front x)))
  somewhere-push front (y ∷ ys) x =
      ap (λ b. q front y || b) (somewhere-push (front ++ y ∷ []) ys x ∙ rw append_assoc refl)
      ∙ or_assoc (q front y) (somewhere_from (λ before z after. q before z) (front ++ y ∷ []) ys) (q (front ++ y ∷ ys) x)

-- no batch is unruly after one more exactly if none was and the new one passes
neither : (unruly passes : Bool) → not (unruly || not passes) ≡ (not unruly && passes)
neither true passes = refl
neither false true = refl
neither false false = refl

pub ruly_by_one_more : RulyByOneMore
ruly_by_one_more history batch =
    ap not (somewhere-push (λ before b. not (is_pass (verdict_on before b))) [] history batch)
    ∙ neither (somewhere_from (λ before b after. not (is_pass (verdict_on before b))) [] history) (is_pass (verdict_on history batch))
