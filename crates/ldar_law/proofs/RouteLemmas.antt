use Rattle.std.proofs.Common.{◌≡◌, ℕ, Bool, true, ◌||◌, ◌&&◌, List, [], ◌∷◌, filter, refl, sym, ap, subst, ◌∙◌, inl, inr}
use Rattle.std.specs.Prelude.{nat_eq, fold, is_none}
use Rattle.std.specs.List.{list_any}
use Rattle.std.proofs.Math.Bool.{or-false, or_assoc}
use Rattle.std.proofs.lemmas.Bool.{cases_Bool, eqb-true}
use Rattle.std.proofs.lemmas.List.Folds.{list_any-append}
use Rattle.list_words.specs.Order.{in_order}
use Rattle.list_words.proofs.PutLemmas.{list_any-put}
use Rattle.ldar_law.specs.declared.duty.Duty.{Duty}
use Rattle.ldar_law.specs.Routes.{is_more_urgent, with_stop}
use Rattle.ldar_law.specs.QuarterLaws.{StopsAreUndone}

-- sorting does not change whether some element passes
in_order_any : {X : Type 0} (p : X → Bool) (before : X → X → Bool) (xs : List X) → list_any p (in_order before xs) ≡ list_any p xs
in_order_any p before [] = refl
in_order_any p before (x ∷ xs) = list_any-put p before x (in_order before xs) ∙ ap (λ b. p x || b) (in_order_any p before xs)

-- an element passes two tests
filter_any : {X : Type 0} (p q : X → Bool) (xs : List X) → list_any p (filter q xs) ≡ list_any (λ x. q x && p x) xs
filter_any p q [] = refl
filter_any p q (x ∷ xs) = elim (cases_Bool (q x)) [
  | inl t ↦ rw t (ap (λ b. p x || b) (filter_any p q xs))
  | inr f ↦ rw f (filter_any p q xs)
]

-- the component is among the stops
abbrev has : List ℕ → ℕ → Bool
has stops component = list_any (λ stop. nat_eq stop component) stops

-- a duty adds its component to the stops
stop_added : (stops : List ℕ) (duty : Duty) (component : ℕ) → has (with_stop stops duty) component ≡ (has stops component || nat_eq duty.component component)
stop_added stops duty component = elim (cases_Bool (has stops duty.component)) [
  | inl there ↦ rw there (elim (cases_Bool (nat_eq duty.component component)) [
    | inl same ↦ rw (same, subst (λ c. has stops c ≡ true) (eqb-true duty.component component same) there) refl
    | inr differs ↦ rw differs (sym (or-false (has stops component)))
  ])
  | inr new ↦ rw new
      (list_any-append (λ stop. nat_eq stop component) stops (duty.component ∷ []) ∙ rw (or-false (nat_eq duty.component component)) refl)
]

-- each of some duties adds its component to the stops
stops_added : (duties : List Duty) (stops : List ℕ) (component : ℕ) →
    has (fold with_stop stops duties) component ≡ (has stops component || list_any (λ d. nat_eq d.component component) duties)
stops_added [] stops component = sym (or-false (has stops component))
stops_added (duty ∷ duties) stops component =
    stops_added duties (with_stop stops duty) component
    ∙ rw (stop_added stops duty component) (or_assoc (has stops component) (nat_eq duty.component component)
    (list_any (λ d. nat_eq d.component component) duties))

pub stops_are_undone : StopsAreUndone
stops_are_undone duties component =
    stops_added (in_order is_more_urgent (filter (λ d. is_none d.met) duties)) [] component
    ∙ in_order_any (λ d. nat_eq d.component component) is_more_urgent (filter (λ d. is_none d.met) duties)
    ∙ filter_any (λ d. nat_eq d.component component) (λ d. is_none d.met) duties
