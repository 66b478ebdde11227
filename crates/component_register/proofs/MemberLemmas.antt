use Rattle.std.proofs.Common.{◌≡◌, ℕ, ◌<◌, cond, nat_eq, nat_lt, Option, Some, None, List, [], ◌∷◌, refl, sym, ap, ◌∙◌, subst, inl, inr, arith}
use Rattle.std.specs.List.{filter_map, cons_option}
use Rattle.std.proofs.lemmas.Bool.{cases_Bool, cases_lt, cases_eq, lt-ltb, le-ltb}
use Rattle.list_words.specs.Order.{put_in_order, in_order}
use Rattle.fact_kinds.specs.declared.body.FactBody.{FactBody}
use Rattle.fact_kinds.specs.declared.body.FactBody.TheVariants.{Component as ComponentFact}
use Rattle.fact_kinds.specs.Facts.{Entry, goes_first}
use Rattle.ldar_law.specs.Equipment.{member_entered, members_of}
use Rattle.component_register.specs.Classes.{put_if_any}
use Rattle.component_register.specs.Members.{joined}

-- what a fact enters in a process unit, by what it joins
abbrev pub entered_in : Option (ℕ × ℕ) → ℕ → Option ℕ
entered_in None number = None
entered_in (Some join) number = cond (nat_eq join.0 number) (Some join.1) None

pub entered_is : (number : ℕ) (body : FactBody) → member_entered number body ≡ entered_in (joined body) number
entered_is number (ComponentFact component unit kind monomer replaces class) = refl
entered_is number _ = refl

-- Two numbers can be put in either order.

put_swap : (x y : ℕ) → x < y → (xs : List ℕ) → put_in_order nat_lt x (put_in_order nat_lt y xs) ≡ put_in_order nat_lt y (put_in_order nat_lt x xs)
put_swap x y less [] = rw (lt-ltb x y less, le-ltb y x (omega (arith, less))) refl
put_swap x y less (z ∷ zs) =
    let before = lt-ltb x y less in
    let behind = le-ltb y x (omega (arith, less)) in
    elim (cases_lt y z) [
      | inl below ↦ rw (lt-ltb y z below, lt-ltb x z (omega (arith, less, below)), before, behind, lt-ltb y z below) refl
      | inr above ↦ elim (cases_lt x z) [
        | inl below ↦ rw (le-ltb y z above, lt-ltb x z below, behind, le-ltb y z above) refl
        | inr past ↦ rw (le-ltb y z above, le-ltb x z past, le-ltb y z above) (ap (λ ws. z ∷ ws) (put_swap x y less zs))
      ]
    ]

put_commutes : (x y : ℕ) (xs : List ℕ) → put_in_order nat_lt x (put_in_order nat_lt y xs) ≡ put_in_order nat_lt y (put_in_order nat_lt x xs)
put_commutes x y xs =
    elim (cases_lt x y) [
      | inl less ↦ put_swap x y less xs
      | inr not_less ↦ elim (cases_eq x y) [
        | inl same ↦ subst (λ z. put_in_order nat_lt x (put_in_order nat_lt z xs) ≡ put_in_order nat_lt z (put_in_order nat_lt x xs)) same refl
        | inr differ ↦ sym (put_swap y x (omega (arith, not_less, differ)) xs)
      ]
    ]

swap_if_any : (o p : Option ℕ) (xs : List ℕ) → put_if_any nat_lt o (put_if_any nat_lt p xs) ≡ put_if_any nat_lt p (put_if_any nat_lt o xs)
swap_if_any None p xs = refl
swap_if_any (Some x) None xs = refl
swap_if_any (Some x) (Some y) xs = put_commutes x y xs

in_order-option : (o : Option ℕ) (xs : List ℕ) → in_order nat_lt (cons_option o xs) ≡ put_if_any nat_lt o (in_order nat_lt xs)
in_order-option None xs = refl
in_order-option (Some x) xs = refl

-- The members of a process unit do not depend on the order in which facts come.
module _ (number : ℕ) where
  members-cons : (e : Entry) (es : List Entry) → members_of number (e ∷ es) ≡ put_if_any nat_lt (member_entered number e.1.body) (members_of number es)
  members-cons e es = in_order-option (member_entered number e.1.body) (filter_map (λ x. member_entered number x.1.body) es)

  members-behind : (x e : Entry) (es fs : List Entry) → members_of number fs ≡ put_if_any nat_lt (member_entered number e.1.body) (members_of number es)
      → members_of number (x ∷ fs) ≡ put_if_any nat_lt (member_entered number e.1.body) (members_of number (x ∷ es))
  members-behind x e es fs same =
      members-cons x fs
      ∙ ap (put_if_any nat_lt (member_entered number x.1.body)) same
      ∙ swap_if_any (member_entered number x.1.body) (member_entered number e.1.body) (members_of number es)
      ∙ ap (put_if_any nat_lt (member_entered number e.1.body)) (sym (members-cons x es))

  -- the members after one more fact
  pub members-put : (e : Entry) (es : List Entry)
      → members_of number (put_in_order goes_first e es) ≡ put_if_any nat_lt (member_entered number e.1.body) (members_of number es)
  members-put e [] = members-cons e []
  members-put e (x ∷ xs) =
      elim (cases_Bool (goes_first e x)) [
        | inl t ↦ rw t (members-cons e (x ∷ xs))
        | inr t ↦ rw t (members-behind x e xs (put_in_order goes_first e xs) (members-put e xs))
      ]
