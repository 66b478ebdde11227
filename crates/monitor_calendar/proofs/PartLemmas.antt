-- The duties of a component among those of its process unit.
use Rattle.std.proofs.Common.{◌≡◌, ℕ, Bool, true, false, nat_eq, cond, Option, Some, None, IfSome, List, [], ◌∷◌, ◌++◌, filter, refl, sym, ap, ◌∙◌}
use Rattle.std.specs.Option.{option_to_list}
use Rattle.std.specs.List.{AllByRecursion, cons_option, filter_map}
use Rattle.std.proofs.lemmas.Bool.{eq-eqb}
use Rattle.std.proofs.lemmas.List.{append_assoc, append-nil}
use Rattle.std.proofs.lemmas.List.Elements.{filter-append}
use Rattle.list_words.specs.Words.{each_from, each_where}
use Rattle.list_words.proofs.CutLemmas.{filter_all, filter_none}
use Rattle.list_words.proofs.Members.{all_append, all_weaker}
use Rattle.fact_kinds.specs.declared.class.Class.{Class}
use Rattle.fact_kinds.specs.declared.key.Key.{Key}
use Rattle.ldar_law.specs.declared.duty.Duty.{Duty}
use Rattle.ldar_law.specs.declared.equipment.Equipment.{Equipment}
use Rattle.ldar_law.specs.declared.event.Event.{Event}
use Rattle.ldar_law.specs.Duties as law
use Rattle.ldar_law.specs.Units.{Known, due_list}
use Rattle.monitor_calendar.specs.DutiesOfUnit.{own_skipped, PartStandsInList, PartIsOwn}

-- ---- all duties of a component have its number

-- a duty of the component with this number
abbrev Own : ℕ → Duty → Type 0
Own number d = d.component ≡ number

-- an optional duty under a test
given : (number : ℕ) (b : Bool) (d : Duty) → Own number d → IfSome (cond b (Some d) None) (Own number)
given number true d own = own
given number false d own = tt

-- one more duty at the head, if there is one
one_own : (number : ℕ) (o : Option Duty) (ds : List Duty) → IfSome o (Own number) → AllByRecursion (Own number) ds →
    AllByRecursion (Own number) (cons_option o ds)
one_own number None ds own all = all
one_own number (Some d) ds own all = (own, all)

-- a single duty, if there is one
alone_own : (number : ℕ) (o : Option Duty) → IfSome o (Own number) → AllByRecursion (Own number) (option_to_list o)
alone_own number None own = tt
alone_own number (Some d) own = (own, tt)

-- the duties of a range of numbers
numbers_own : (number : ℕ) (f : ℕ → Option Duty) → ((n : ℕ) → IfSome (f n) (Own number)) → (ns : List ℕ) → AllByRecursion (Own number) (filter_map f ns)
numbers_own number f own [] = tt
numbers_own number f own (n ∷ ns) = one_own number (f n) (filter_map f ns) (own n) (numbers_own number f own ns)

-- the duties of events
events_own : (number : ℕ) (f : List Event → Event → List Event → Option Duty) → ((before : List Event) (e : Event) (after : List Event) →
    IfSome (f before e after) (Own number)) →
    (front events : List Event) → AllByRecursion (Own number) (each_from f front events)
events_own number f own front [] = tt
events_own number f own front (e ∷ events) =
    one_own number (f front e events) (each_from f (front ++ e ∷ []) events) (own front e events) (events_own number f own (front ++ e ∷ []) events)

module _ (item : Equipment) (classes : List (Key × Class)) (startup : ℕ) (events : List Event) (skipped : List Bool) (t : ℕ) where
  -- the number of the component
  abbrev number : ℕ
  number = item.component

  -- the first monitoring has its number
  first_own : IfSome (law.first_monitoring item classes startup events skipped t) (Own number)
  unfolding law.first_monitoring
  first_own = given number _ _ refl

  -- a monthly duty has its number
  monthly_own : (month : ℕ) → IfSome (law.monthly item classes startup events skipped t month) (Own number)
  unfolding law.monthly
  monthly_own month = given number _ _ refl

  -- a quarterly duty has its number
  quarterly_own : (month : ℕ) → IfSome (law.quarterly item classes startup events skipped t month) (Own number)
  unfolding law.quarterly
  quarterly_own month = given number _ _ refl

  -- a yearly duty has its number
  yearly_own : (year : ℕ) → IfSome (law.yearly item classes startup events skipped t year) (Own number)
  unfolding law.yearly
  yearly_own year = given number _ _ refl

  -- a duty by a plan has its number
  planned_own : (month : ℕ) → IfSome (law.planned item classes startup events skipped t month) (Own number)
  unfolding law.planned
  planned_own month = given number _ _ refl

  -- a weekly duty has its number
  weekly_own : (week : ℕ) → IfSome (law.weekly item classes startup events skipped t week) (Own number)
  unfolding law.weekly
  weekly_own week = given number _ _ refl

  -- a duty after drips has its number
  drip_own : (before : List Event) (e : Event) (after : List Event) → IfSome (law.drip item classes startup events skipped t before e after) (Own number)
  unfolding law.drip
  drip_own before e after = given number _ _ refl

  -- a duty after a release has its number
  release_own : (before : List Event) (e : Event) (after : List Event) → IfSome (law.release item classes startup events skipped t before e after)
      (Own number)
  unfolding law.release
  release_own before e after = given number _ _ refl

  -- a duty after evidence has its number
  evidence_own : (before : List Event) (e : Event) (after : List Event) → IfSome (law.evidence item classes startup events skipped t before e after)
      (Own number)
  unfolding law.evidence
  evidence_own before e after = given number _ _ refl

  -- each duty of the component has its number
  all_own : AllByRecursion (Own number) (law.duties_of item classes startup events skipped t)
  unfolding law.duties_of
  all_own =
      let monthly = filter_map (law.monthly item classes startup events skipped t) (law.months_after item classes startup events skipped t) in
      let quarterly = filter_map (law.quarterly item classes startup events skipped t) (law.months_after item classes startup events skipped t) in
      let yearly = filter_map (law.yearly item classes startup events skipped t) (law.years_after item classes startup events skipped t) in
      let planned = filter_map (law.planned item classes startup events skipped t) (law.window_ends item classes startup events skipped t) in
      let weekly = filter_map (law.weekly item classes startup events skipped t) (law.weeks_after item classes startup events skipped t) in
      let drip = each_where (law.drip item classes startup events skipped t) events in
      let release = each_where (law.release item classes startup events skipped t) events in
      let evidence = each_where (law.evidence item classes startup events skipped t) events in
      all_append (Own number) (option_to_list (law.first_monitoring item classes startup events skipped t)) (monthly ++ (quarterly ++ (yearly ++
      (planned ++ (weekly ++ (drip ++ (release ++ evidence))))))) (alone_own number
      (law.first_monitoring item classes startup events skipped t) first_own)
      (all_append (Own number) monthly (quarterly ++ (yearly ++ (planned ++ (weekly ++ (drip ++ (release ++ evidence)))))) (numbers_own number
      (law.monthly item classes startup events skipped t) monthly_own (law.months_after item classes startup events skipped t))
      (all_append (Own number) quarterly (yearly ++ (planned ++ (weekly ++ (drip ++ (release ++ evidence))))) (numbers_own number
      (law.quarterly item classes startup events skipped t) quarterly_own (law.months_after item classes startup events skipped t))
      (all_append (Own number) yearly (planned ++ (weekly ++ (drip ++ (release ++ evidence)))) (numbers_own number
      (law.yearly item classes startup events skipped t) yearly_own (law.years_after item classes startup events skipped t))
      (all_append (Own number) planned (weekly ++ (drip ++ (release ++ evidence))) (numbers_own number
      (law.planned item classes startup events skipped t) planned_own (law.window_ends item classes startup events skipped t))
      (all_append (Own number) weekly (drip ++ (release ++ evidence)) (numbers_own number
      (law.weekly item classes startup events skipped t) weekly_own (law.weeks_after item classes startup events skipped t))
      (all_append (Own number) drip (release ++ evidence) (events_own number (law.drip item classes startup events skipped t) drip_own [] events)
      (all_append (Own number) release evidence (events_own number (law.release item classes startup events skipped t) release_own [] events)
      (events_own number (law.evidence item classes startup events skipped t) evidence_own [] events))))))))

-- ---- the list of a unit

module _ (startup t : ℕ) (skipped : List Bool) where
  -- a component's part of the list
  abbrev part : Known → List Duty
  part c = law.duties_of c.item c.classes startup c.events skipped t

  -- the list, split around one component
  around : (before : List Known) (c : Known) (after : List Known) →
      due_list startup t skipped (before ++ c ∷ after) ≡ due_list startup t skipped before ++ (part c ++ due_list startup t skipped after)
  around [] c after = refl
  around (b ∷ bs) c after =
      ap (λ ds. part b ++ ds) (around bs c after)
      ∙ sym (append_assoc (part b) (due_list startup t skipped bs) (part c ++ due_list startup t skipped after))

  -- the duties of other components have other numbers
  others_none : (wanted : ℕ) (cs : List Known) → AllByRecursion (λ c. nat_eq c.item.component wanted ≡ false) cs →
      filter (λ d. nat_eq d.component wanted) (due_list startup t skipped cs) ≡ []
  others_none wanted [] apart = refl
  others_none wanted (c ∷ cs) apart =
      filter-append (λ d. nat_eq d.component wanted) (part c) (due_list startup t skipped cs)
      ∙ ap (λ ds. ds ++ filter (λ d. nat_eq d.component wanted) (due_list startup t skipped cs))
      (filter_none (λ d. nat_eq d.component wanted) (part c)
      (all_weaker (λ d. d.component ≡ c.item.component) (λ d. nat_eq d.component wanted ≡ false) (λ d own. ap (λ n. nat_eq n wanted) own ∙ apart.0) (part c)
      (all_own c.item c.classes startup c.events skipped t)))
      ∙ others_none wanted cs apart.1

  -- all of the component's part has its number
  own_all : (c : Known) → filter (λ d. nat_eq d.component c.item.component) (part c) ≡ part c
  own_all c =
      filter_all (λ d. nat_eq d.component c.item.component) (part c)
      (all_weaker (λ d. d.component ≡ c.item.component) (λ d. nat_eq d.component c.item.component ≡ true)
      (λ d own. eq-eqb d.component c.item.component own) (part c) (all_own c.item c.classes startup c.events skipped t))

  -- the component's duties in the list are its part
  own_among : (before : List Known) (c : Known) (after : List Known) → AllByRecursion (λ other. nat_eq other.item.component c.item.component ≡ false) before →
      AllByRecursion (λ other. nat_eq other.item.component c.item.component ≡ false) after →
      filter (λ d. nat_eq d.component c.item.component) (due_list startup t skipped (before ++ c ∷ after)) ≡ part c
  own_among before c after apart others =
      let p : Duty → Bool = λ d. nat_eq d.component c.item.component in
      ap (filter p) (around before c after)
      ∙ filter-append p (due_list startup t skipped before) (part c ++ due_list startup t skipped after)
      ∙ ap (λ ds. ds ++ filter p (part c ++ due_list startup t skipped after)) (others_none c.item.component before apart)
      ∙ filter-append p (part c) (due_list startup t skipped after)
      ∙ ap (λ ds. ds ++ filter p (due_list startup t skipped after)) (own_all c)
      ∙ ap (λ ds. part c ++ ds) (others_none c.item.component after others)
      ∙ append-nil (part c)

-- the law about the part in the list
pub part_stands_in_list : PartStandsInList
part_stands_in_list unit t facts before c after split =
    ap (due_list unit.startup t (own_skipped unit t facts)) split ∙ around unit.startup t (own_skipped unit t facts) before c after

-- the law about the part itself
pub part_is_own : PartIsOwn
part_is_own unit t facts before c after split apart others =
    ap (λ cs. filter (λ d. nat_eq d.component c.item.component) (due_list unit.startup t (own_skipped unit t facts) cs)) split
    ∙ own_among unit.startup t (own_skipped unit t facts) before c after apart others
