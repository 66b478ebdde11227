-- Only the most urgent of a component's visits affects the stops.
use Rattle.std.proofs.Common.{◌≡◌, ◌⊎◌, ℕ, zero, suc, ◌+◌, ◌-◌, ◌<◌, ◌≤◌, Bool, true, false, ◌||◌, ◌&&◌, nat_eq, nat_lt, Option, Some, None, List, [], ◌∷◌}
use Rattle.std.proofs.Common.{◌++◌, map, fold, get_or, refl, sym, ap, subst, ◌∙◌, inl, inr, arith, append_assoc}
use Rattle.std.specs.List.{AllByRecursion, list_any}
use Rattle.std.proofs.lemmas.Bool.{cases_Bool, false≢true, eq-eqb, ne_eqb, lt-ltb, le-ltb, or_from, or_left, or_right}
use Rattle.std.proofs.lemmas.Bool.{and_right}
use Rattle.std.proofs.lemmas.List.{append-nil}
use Rattle.std.proofs.lemmas.List.Folds.{list_any-append}
use Rattle.std.proofs.lemmas.List.Sorted.{IsPermutation-append_comm}
use Rattle.list_words.specs.Order.{put_in_order, in_order, AllApart}
use Rattle.list_words.proofs.Ascending.{among_in_order, in_order_permutes, apart_permutation}
use Rattle.list_words.proofs.Members.{Among, among_from_Contains, among_right, all_at, all_weaker, all_from_among}
use Rattle.ldar_law.proofs.WeakOrder.{InOrder, before_all, each_in_order}
use Rattle.route_planner.specs.Visits.{Visit, goes_first, with_visit, visits_from, IsBy, AreEarliestDays}
use Rattle.route_planner.proofs.Sorted.{weak, permuted_in_order}
use Rattle.route_planner.proofs.VisitLemmas.{goes_first_order, goes_first_is, visit_same, visit_on, known_stop, new_stop}

-- the component is a stop
abbrev is_stop : List ℕ → ℕ → Bool
is_stop stops component = list_any (λ stop. nat_eq stop component) stops

-- an appended component is a stop
stop_at_end : (stops : List ℕ) (component : ℕ) → is_stop (stops ++ component ∷ []) component ≡ true
stop_at_end stops component =
    list_any-append (λ stop. nat_eq stop component) stops (component ∷ [])
    ∙ or_right (is_stop stops component) (nat_eq component component || false) (or_left (nat_eq component component) false (eq-eqb component component refl))

-- a stop stays a stop
still_stop : (stops : List ℕ) (visit : Visit) (component : ℕ) → is_stop stops component ≡ true → is_stop (with_visit stops visit) component ≡ true
still_stop stops visit component known = elim (cases_Bool (is_stop stops visit.component)) [
  | inl t ↦ rw t known
  | inr f ↦ rw f (list_any-append (λ stop. nat_eq stop component) stops (visit.component ∷ [])
      ∙ or_left (is_stop stops component) (nat_eq visit.component component || false) known)
]

-- the component of a visit is a stop after it
visited_stop : (stops : List ℕ) (visit : Visit) → is_stop (with_visit stops visit) visit.component ≡ true
visited_stop stops visit = elim (cases_Bool (is_stop stops visit.component)) [
  | inl t ↦ rw t t
  | inr f ↦ rw f (stop_at_end stops visit.component)
]

-- a visit to the same component that is not later
pub record IsCovered (visits : List Visit) (visit : Visit) : Type 0 where
  pub other : Visit
  pub among : Among visits other
  pub same : other.component ≡ visit.component
  pub not_later : goes_first visit other ≡ false

-- a visit has no effect if its component is a stop already, or becomes one by another visit
fold_put : (visits : List Visit) (stops : List ℕ) (visit : Visit) → InOrder goes_first visits →
    ((is_stop stops visit.component ≡ true) ⊎ IsCovered visits visit) →
    fold with_visit stops (put_in_order goes_first visit visits) ≡ fold with_visit stops visits
fold_put [] stops visit ordered known = elim known [
  | inl there ↦ known_stop stops visit [] there
  | inr covered ↦ absurd covered.among
]
fold_put (y ∷ ys) stops visit ordered known = elim (cases_Bool (goes_first visit y)) [
  | inl first ↦ elim known [
    | inl there ↦ rw first (known_stop stops visit (y ∷ ys) there)
    | inr covered ↦
        let later = before_all goes_first (weak goes_first goes_first_order) visit y ys first ordered.0 in
        absurd (false≢true (sym covered.not_later ∙ all_at (λ z. goes_first visit z ≡ true) (y ∷ ys) covered.other later covered.among))
  ]
  | inr second ↦
      let then_known : (is_stop (with_visit stops y) visit.component ≡ true) ⊎ IsCovered ys visit =
      elim known [
        | inl there ↦ inl (still_stop stops y visit.component there)
        | inr covered ↦ elim covered.among [
          | inl here ↦
              inl (subst (λ component. is_stop (with_visit stops y) component ≡ true) (ap (λ (v : Visit). v.component) here ∙ covered.same)
              (visited_stop stops y))
          | inr there ↦ inr (record { other = covered.other; among = there; same = covered.same; not_later = covered.not_later })
        ]
      ] in
      rw second (fold_put ys (with_visit stops y) visit ordered.1 then_known)
]

-- visits that others cover have no effect
covered_front : (front visits : List Visit) → AllByRecursion (IsCovered visits) front →
    fold with_visit [] (in_order goes_first (front ++ visits)) ≡ fold with_visit [] (in_order goes_first visits)
covered_front [] visits covered = refl
covered_front (v ∷ front) visits covered =
    let by = covered.0 in
    fold_put (in_order goes_first (front ++ visits)) [] v (each_in_order goes_first (weak goes_first goes_first_order) (front ++ visits))
    (inr (record {
      other = by.other;
      among = (among_in_order goes_first (front ++ visits) by.other).0 (among_right front visits by.other by.among);
      same = by.same;
      not_later = by.not_later;
    }))
    ∙ covered_front front visits covered.1

-- two lists of visits that cover each other have the same stops
pub covering : (some others : List Visit) → AllByRecursion (IsCovered others) some → AllByRecursion (IsCovered some) others →
    fold with_visit [] (in_order goes_first some) ≡ fold with_visit [] (in_order goes_first others)
covering some others covered covers =
    sym (covered_front others some covers)
    ∙ ap (fold with_visit [])
    (permuted_in_order goes_first goes_first_order visit_same (others ++ some) (some ++ others) (IsPermutation-append_comm others some))
    ∙ covered_front some others covered

-- ---- visits to distinct components

-- the first visit's component has the lower number
abbrev lower : Visit → Visit → Bool
lower a b = nat_lt a.component b.component

-- a number is not less than itself
not_less : (n : ℕ) → nat_lt n n ≡ false
not_less n = le-ltb n n (omega arith)

-- visits to different components that are not stops append them all
fold_apart : (visits : List Visit) (stops : List ℕ) → AllApart lower visits → AllByRecursion (λ v. is_stop stops v.component ≡ false) visits →
    fold with_visit stops visits ≡ stops ++ map (λ v. v.component) visits
fold_apart [] stops apart new = sym (append-nil stops)
fold_apart (v ∷ visits) stops apart new =
    new_stop stops v visits new.0
    ∙ fold_apart visits (stops ++ v.component ∷ []) apart.1
    (all_from_among (λ w. is_stop (stops ++ v.component ∷ []) w.component ≡ false) visits (λ w among.
    list_any-append (λ stop. nat_eq stop w.component) stops (v.component ∷ [])
    ∙ or_from (is_stop stops w.component) (nat_eq v.component w.component || false)
    (all_at (λ x. is_stop stops x.component ≡ false) visits w new.1 among)
    (or_from (nat_eq v.component w.component) false (ne_eqb v.component w.component (λ same.
    let either = all_at (λ x. (lower v x || lower x v) ≡ true) visits w apart.0 among in
    false≢true (sym (or_from (lower v w) (lower w v)
    (ap (λ n. nat_lt v.component n) (sym same) ∙ not_less v.component)
    (ap (λ n. nat_lt n v.component) (sym same) ∙ not_less v.component)) ∙ either))) refl)))
    ∙ append_assoc stops (v.component ∷ []) (map (λ x. x.component) visits)

-- the stops of visits to different components are these components
pub stops_apart : (visits : List Visit) → AllApart lower visits →
    fold with_visit [] (in_order goes_first visits) ≡ map (λ v. v.component) (in_order goes_first visits)
stops_apart visits apart =
    fold_apart (in_order goes_first visits) [] (apart_permutation lower visits (in_order goes_first visits) (in_order_permutes goes_first visits) apart)
    (all_from_among (λ v. is_stop [] v.component ≡ false) (in_order goes_first visits) (λ v among. refl))

-- ---- visits by number

-- adding to 0 changes nothing
no_more : (n : ℕ) → 0 + n ≡ n
no_more n = omega arith

-- taking away 0 changes nothing
no_less : (n : ℕ) → n - 0 ≡ n
no_less n = omega arith

-- taking a number from itself leaves 0
none_left : (n : ℕ) → n - n ≡ 0
none_left n = omega arith

-- the day at a place after the first
day_of_rest : (day : Option ℕ) (days : List (Option ℕ)) (number from : ℕ) → from < number →
    get_or (day ∷ days) (number - from) None ≡ get_or days (number - (from + 1)) None
day_of_rest day days number from less =
    let next : number - from ≡ suc (number - (from + 1)) = omega (arith, less) in ap (λ n. get_or (day ∷ days) n None) next

-- each visit is on its component's day
visits_known : (from : ℕ) (days : List (Option ℕ)) →
    AllByRecursion (λ v. (from ≤ v.component) × (get_or days (v.component - from) None ≡ Some v.due)) (visits_from from days)
visits_known from [] = tt
visits_known from (None ∷ days) =
    all_weaker (λ v. (from + 1 ≤ v.component) × (get_or days (v.component - (from + 1)) None ≡ Some v.due))
    (λ v. (from ≤ v.component) × (get_or (None ∷ days) (v.component - from) None ≡ Some v.due))
    (λ v is. (omega (arith, is.0), day_of_rest None days v.component from (omega (arith, is.0)) ∙ is.1))
    (visits_from (from + 1) days) (visits_known (from + 1) days)
visits_known from (Some due ∷ days) = (
  (omega arith, ap (λ n. get_or (Some due ∷ days) n None) (none_left from)),
  all_weaker (λ v. (from + 1 ≤ v.component) × (get_or days (v.component - (from + 1)) None ≡ Some v.due))
      (λ v. (from ≤ v.component) × (get_or (Some due ∷ days) (v.component - from) None ≡ Some v.due))
      (λ v is. (omega (arith, is.0), day_of_rest (Some due) days v.component from (omega (arith, is.0)) ∙ is.1))
      (visits_from (from + 1) days) (visits_known (from + 1) days),
)

-- no two visits are to the same component
visits_distinct : (from : ℕ) (days : List (Option ℕ)) → AllApart lower (visits_from from days)
visits_distinct from [] = tt
visits_distinct from (None ∷ days) = visits_distinct (from + 1) days
visits_distinct from (Some due ∷ days) = (
  all_weaker (λ v. (from + 1 ≤ v.component) × (get_or days (v.component - (from + 1)) None ≡ Some v.due))
      (λ v. (nat_lt from v.component || nat_lt v.component from) ≡ true)
      (λ v is. or_left (nat_lt from v.component) (nat_lt v.component from) (lt-ltb from v.component (omega (arith, is.0))))
      (visits_from (from + 1) days) (visits_known (from + 1) days),
  visits_distinct (from + 1) days,
)

-- a known day has a visit
visit_there : (from : ℕ) (days : List (Option ℕ)) (place due : ℕ) → get_or days place None ≡ Some due →
    Among (visits_from from days) (visit_on due (from + place))
visit_there from [] place due is = cc
visit_there from (None ∷ days) zero due is = cc
visit_there from (Some day ∷ days) zero due is =
    let same : day ≡ due = cc in
    let at : from ≡ from + 0 = omega arith in
    inl (ap (λ d. visit_on d from) same ∙ ap (visit_on due) at)
visit_there from (None ∷ days) (suc place) due is =
    let at : from + 1 + place ≡ from + suc place = omega arith in
    subst (λ n. Among (visits_from (from + 1) days) (visit_on due n)) at (visit_there (from + 1) days place due is)
visit_there from (Some day ∷ days) (suc place) due is =
    let at : from + 1 + place ≡ from + suc place = omega arith in
    inr (subst (λ n. Among (visits_from (from + 1) days) (visit_on due n)) at (visit_there (from + 1) days place due is))

-- ---- the least due days

-- a visit is covered by one on another day if that day is not later
covered_by : (days : List (Option ℕ)) (v : Visit) (day : Option ℕ) → get_or days v.component None ≡ day → IsBy day v.due → IsCovered (visits_from 0 days) v
covered_by days v None is by = absurd by
covered_by days v (Some due) is by = record {
  other = visit_on due v.component;
  among = subst (λ n. Among (visits_from 0 days) (visit_on due n)) (no_more v.component) (visit_there 0 days v.component due is);
  same = refl;
  not_later = goes_first_is v (visit_on due v.component)
      ∙ or_from (nat_lt v.due due) (nat_eq v.due due && nat_lt v.component v.component) (le-ltb v.due due by)
      (and_right (nat_eq v.due due) (nat_lt v.component v.component) (not_less v.component));
}

-- a visit is not before itself
not_itself : (v : Visit) → goes_first v v ≡ false
not_itself v =
    goes_first_is v v
    ∙ or_from (nat_lt v.due v.due) (nat_eq v.due v.due && nat_lt v.component v.component) (not_less v.due)
    (and_right (nat_eq v.due v.due) (nat_lt v.component v.component) (not_less v.component))

-- the components of the visits on the earliest due days are the stops
pub least_stops : (days : List (Option ℕ)) (visits : List Visit) → AreEarliestDays days visits →
    map (λ v. v.component) (in_order goes_first (visits_from 0 days)) ≡ fold with_visit [] (in_order goes_first visits)
least_stops days visits tells =
    sym (stops_apart (visits_from 0 days) (visits_distinct 0 days))
    ∙ covering (visits_from 0 days) visits
    (all_weaker (λ v. (0 ≤ v.component) × (get_or days (v.component - 0) None ≡ Some v.due)) (IsCovered visits)
    (λ v is.
    let known : get_or days v.component None ≡ Some v.due = ap (λ n. get_or days n None) (sym (no_less v.component)) ∙ is.1 in
    record { other = v; among = among_from_Contains visits v (tells.asked v.component v.due known); same = refl; not_later = not_itself v })
    (visits_from 0 days) (visits_known 0 days))
    (all_weaker (λ v. IsBy (get_or days v.component None) v.due) (IsCovered (visits_from 0 days))
    (λ v by. covered_by days v (get_or days v.component None) refl by) visits tells.least)
