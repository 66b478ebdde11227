use Rattle.std.proofs.Common.{◌≡◌, ℕ, Bool, true, false, ◌||◌, ◌&&◌, nat_eq, nat_lt, List, [], ◌∷◌, ◌++◌, map, fold, filter, IsPermutation, refl, sym, ap}
use Rattle.std.proofs.Common.{subst, ◌∙◌, inl, inr, arith}
use Rattle.std.specs.Prelude.{is_none}
use Rattle.std.specs.Cmp.{IsTotalOrder, IsStrictWeakOrder}
use Rattle.std.specs.List.{list_any}
use Rattle.std.specs.List.Sorted.{IsSortedBy}
use Rattle.std.specs.Ordering.{is_lt, nat_cmp}
use Rattle.std.proofs.lemmas.Bool.{cases_Bool, cases_lt, false≢true, lt-ltb, eq-eqb}
use Rattle.std.proofs.lemmas.Cmp.{nat_cmp_total, on_total, then_total}
use Rattle.std.proofs.lemmas.List.Sorted.{ranks_by}
use Rattle.list_words.specs.Order.{put_in_order, in_order}
use Rattle.ldar_law.specs.declared.duty.Duty.{Duty}
use Rattle.ldar_law.specs.Routes.{is_more_urgent, with_stop, stops_in_order}
use Rattle.route_planner.specs.Visits.{Visit, visit_of, visits_asked, visit_cmp, goes_first, with_visit}
use Rattle.route_planner.proofs.Sorted.{sorted_is_in_order}

-- the comparison of visits is a total order
visit_cmp_total : IsTotalOrder visit_cmp
visit_cmp_total = then_total (on_total (λ v. v.due) nat_cmp_total) (on_total (λ v. v.component) nat_cmp_total)

-- the order of visits is a strict weak order
pub goes_first_order : IsStrictWeakOrder goes_first
goes_first_order = ranks_by visit_cmp_total (λ v. v)

-- the first of two pairs is less, by its first part and then by its second
abbrev pair_less : ℕ → ℕ → ℕ → ℕ → Bool
pair_less a b c d = nat_lt a b || (nat_eq a b && nat_lt c d)

-- `nat_cmp` is Less exactly for lesser numbers
less_is : (a b : ℕ) → is_lt (nat_cmp a b) ≡ nat_lt a b
less_is a b = elim (cases_Bool (nat_lt a b)) [
  | inl t ↦ rw t refl
  | inr f ↦ elim (cases_Bool (nat_eq a b)) [ inl e ↦ rw (f, e) refl | inr n ↦ rw (f, n) refl ]
]

-- visits are ordered by due day and then by component
pub goes_first_is : (a b : Visit) → goes_first a b ≡ pair_less a.due b.due a.component b.component
goes_first_is a b = elim (cases_Bool (nat_lt a.due b.due)) [
  | inl t ↦ rw t refl
  | inr f ↦ elim (cases_Bool (nat_eq a.due b.due)) [
    | inl e ↦ rw (f, e) (less_is a.component b.component)
    | inr n ↦ rw (f, n) refl
  ]
]

-- two numbers are equal if neither is less
not_less : (a b : ℕ) → nat_lt a b ≡ false → nat_lt b a ≡ false → a ≡ b
not_less a b one two = elim (cases_lt a b) [
  | inl less ↦ absurd (false≢true (sym one ∙ lt-ltb a b less))
  | inr above ↦ elim (cases_lt b a) [
    | inl more ↦ absurd (false≢true (sym two ∙ lt-ltb b a more))
    | inr below ↦ omega (arith, above, below)
  ]
]

-- both parts of a false disjunction are false
either_false : (x y : Bool) → (x || y) ≡ false → (x ≡ false) × (y ≡ false)
either_false true y e = absurd (false≢true (sym e))
either_false false y e = (refl, e)

-- two pairs are equal if neither is less
pair_same : (a b c d : ℕ) → pair_less a b c d ≡ false → pair_less b a d c ≡ false → (a ≡ b) × (c ≡ d)
pair_same a b c d one two =
    let first = either_false (nat_lt a b) (nat_eq a b && nat_lt c d) one in
    let second = either_false (nat_lt b a) (nat_eq b a && nat_lt d c) two in
    let same : a ≡ b = not_less a b first.0 second.0 in
    let up : nat_lt c d ≡ false = subst (λ t. (t && nat_lt c d) ≡ false) (eq-eqb a b same) first.1 in
    let down : nat_lt d c ≡ false = subst (λ t. (t && nat_lt d c) ≡ false) (eq-eqb b a (sym same)) second.1 in
    (same, not_less c d up down)

-- the visit to a component on a day
abbrev pub visit_on : ℕ → ℕ → Visit
visit_on due component = record { due = due; component = component }

-- two visits are equal if neither goes first
pub visit_same : (a b : Visit) → goes_first a b ≡ false → goes_first b a ≡ false → a ≡ b
visit_same a b one two =
    let fields = pair_same a.due b.due a.component b.component (sym (goes_first_is a b) ∙ one) (sym (goes_first_is b a) ∙ two) in
    ap (λ due. visit_on due a.component) fields.0 ∙ ap (visit_on b.due) fields.1

-- a sorted permutation of the visits is the visits in order
pub sorted_visits : (asked sorted : List Visit) → IsPermutation asked sorted → IsSortedBy goes_first sorted → sorted ≡ in_order goes_first asked
sorted_visits asked sorted moved up = sorted_is_in_order goes_first goes_first_order visit_same asked sorted moved up

-- inserting a visit follows the order of its duty
put_visit : (duty : Duty) (duties : List Duty) →
    map visit_of (put_in_order is_more_urgent duty duties) ≡ put_in_order goes_first (visit_of duty) (map visit_of duties)
put_visit duty [] = refl
put_visit duty (d ∷ ds) =
    let alike : goes_first (visit_of duty) (visit_of d) ≡ is_more_urgent duty d = goes_first_is (visit_of duty) (visit_of d) in
    elim (cases_Bool (is_more_urgent duty d)) [
      | inl t ↦ rw (alike, t) refl
      | inr f ↦ rw (alike, f) (ap (λ vs. visit_of d ∷ vs) (put_visit duty ds))
    ]

-- sorting the duties sorts their visits
visits_in_order : (duties : List Duty) → map visit_of (in_order is_more_urgent duties) ≡ in_order goes_first (map visit_of duties)
visits_in_order [] = refl
visits_in_order (d ∷ ds) = put_visit d (in_order is_more_urgent ds) ∙ ap (put_in_order goes_first (visit_of d)) (visits_in_order ds)

-- duties and their visits have the same stops
stops_of_visits : (duties : List Duty) (stops : List ℕ) → fold with_stop stops duties ≡ fold with_visit stops (map visit_of duties)
stops_of_visits [] stops = refl
stops_of_visits (d ∷ ds) stops = stops_of_visits ds (with_stop stops d)

-- the stops of the visits in order are those of the duties
pub stops_are : (duties : List Duty) → fold with_visit [] (in_order goes_first (visits_asked duties)) ≡ stops_in_order duties
stops_are duties =
    let undone = filter (λ d. is_none d.met) duties in
    ap (fold with_visit []) (sym (visits_in_order undone)) ∙ sym (stops_of_visits (in_order is_more_urgent undone) [])

-- a visit to a component that is already a stop changes nothing
pub known_stop : (stops : List ℕ) (visit : Visit) (visits : List Visit) → list_any (λ stop. nat_eq stop visit.component) stops ≡ true →
    fold with_visit stops (visit ∷ visits) ≡ fold with_visit stops visits
known_stop stops visit visits known = rw known refl

-- a visit to a component that is not yet a stop adds it
pub new_stop : (stops : List ℕ) (visit : Visit) (visits : List Visit) → list_any (λ stop. nat_eq stop visit.component) stops ≡ false →
    fold with_visit stops (visit ∷ visits) ≡ fold with_visit (stops ++ visit.component ∷ []) visits
new_stop stops visit visits new = rw new refl
