use Rattle.std.proofs.Common.{◌≡◌, ◌↔◌, ◌⊎◌, ℕ, ◌≤◌, Bool, true, false, cond, nat_lt, nat_le, IsTrue, Option, Some, None, List, [], ◌∷◌, ◌++◌, filter}
use Rattle.std.proofs.Common.{count_by, refl, sym, ap, ◌∙◌, subst, inl, inr, arith}
use Rattle.std.specs.List.{AllByRecursion, list_any, filter_map, flat_map, cons_option}
use Rattle.std.proofs.lemmas.Bool.{cases_Bool, or_parts}
use Rattle.list_words.specs.Order.{put_in_order, in_order, put_each, AllApart}
use Rattle.list_words.proofs.Ascending.{put_permutes, in_order_permutes, apart_permutation, put_each_in_order, same_in_order, in_order_forgets}
use Rattle.list_words.proofs.Members.{Among, among_permutation, among_left, among_right, among_append, all_weaker}
use Rattle.list_words.proofs.Narrowing.{filter_map_narrowed}
use Rattle.fact_kinds.specs.declared.batch.Batch.{Batch}
use Rattle.fact_kinds.specs.declared.body.FactBody.{FactBody}
use Rattle.fact_kinds.specs.declared.body.FactBody.TheVariants.{Shutdown}
use Rattle.fact_kinds.specs.declared.key.Key.{Key}
use Rattle.fact_kinds.specs.Facts.{Entry, is_earlier, goes_first, entries_of, facts_of, facts_to}
use Rattle.fact_kinds.specs.Identity.{identities_differ}
use Rattle.fact_kinds.specs.Named.{component_of, unit_of, tested_instrument, reading_instrument, is_numbered}
use Rattle.fact_kinds.proofs.OrderFree.{one_more_batch}
use Rattle.ldar_law.specs.Equipment.{class_at, election_entered, member_entered, members_of, stop_entered, stops_of}
use Rattle.ldar_law.specs.RegisterLaws.{enters_component}
use Rattle.std.proofs.lemmas.List.{append-nil}
use Rattle.std.proofs.lemmas.List.Elements.{filter_map-append}
use Rattle.std.proofs.lemmas.List.Sums.{sum_by-append}
use Rattle.std.specs.List.Sorted.{IsPermutation}
use Rattle.std.proofs.lemmas.List.Sorted.{sum_by-IsPermutation, IsPermutation-trans, IsPermutation-append_comm, IsPermutation-append_left}
use Rattle.ldar_law.specs.Slices.{facts_of_component, is_registered}
use Rattle.ldar_law.proofs.ForceLemmas.{class_keyed}
use Rattle.ldar_law.proofs.Gifts.{among_given, given_among}
use Rattle.ldar_law.proofs.WeakOrder.{InOrder, each_in_order, put_keeps, put_filter, put_front, weak_earlier, weak_goes_first, before_all}
use Rattle.ldar_law.specs.Stirred.{matters}
use Rattle.history_laws.specs.KnownLaws.{HasSameLists}
use Rattle.history_laws.specs.MoreLaws.{with_batch, PartOfMoreFacts, PartStays, ListsGrow, RegisterGrows, MembersGrow, is_shutdown}
use Rattle.history_laws.specs.MoreLaws.{LeavesAlone, LeftAloneIsKnownAlike}
use Rattle.history_laws.proofs.Counting.{strict_lt, count_cons}
use Rattle.history_laws.proofs.RegisterUpTo.{election_is}
use Rattle.history_laws.proofs.KnownLemmas.{same_lists_know_alike}
use Rattle.history_laws.proofs.MemberLemmas.{apart_numbers}
use Rattle.history_laws.proofs.UpTo.{all_of_part, filter_swap}

-- ---- a part of more facts

module _ (test : Entry → Bool) where
  -- a part of facts with more of them inserted
  part_of_more : (more facts : List Entry) → InOrder goes_first facts
      → filter test (put_each goes_first more facts) ≡ put_each goes_first (filter test more) (filter test facts)
  part_of_more [] facts o = refl
  part_of_more (e ∷ more) facts o =
      part_of_more more (put_in_order goes_first e facts) (put_keeps goes_first weak_goes_first e facts o)
      ∙ ap (put_each goes_first (filter test more)) (put_filter goes_first weak_goes_first test e facts o)
      ∙ elim (cases_Bool (test e)) [ inl t ↦ rw t refl | inr f ↦ rw f refl ]

  -- a part is unchanged if the batch has nothing of it
  none_of_it : (more : List Entry) → list_any test more ≡ false → filter test more ≡ []
  none_of_it [] none = refl
  none_of_it (e ∷ more) none = let parts = or_parts (test e) (list_any test more) none in rw parts.0 (none_of_it more parts.1)

pub part_of_more_facts : PartOfMoreFacts
part_of_more_facts test history batch differ =
    ap (filter test) (one_more_batch history batch differ)
    ∙ part_of_more test (entries_of batch) (facts_of history) (each_in_order goes_first weak_goes_first (flat_map entries_of history))

pub part_stays : PartStays
part_stays test history batch differ none =
    part_of_more_facts test history batch differ
    ∙ ap (λ more. put_each goes_first more (filter test (facts_of history))) (none_of_it test (entries_of batch) none)

pub lists_grow : ListsGrow
lists_grow history batch differ = record {
  component = λ number. part_of_more_facts (λ e. is_numbered (component_of e.1.body) number) history batch differ;
  unit = λ number. part_of_more_facts (λ e. is_numbered (unit_of e.1.body) number) history batch differ;
  instrument = λ number. part_of_more_facts (λ e. is_numbered (tested_instrument e.1.body) number) history batch differ;
  readings = λ number. part_of_more_facts (λ e. is_numbered (reading_instrument e.1.body) number) history batch differ;
  register = part_of_more_facts (λ e. is_registered e.1.body) history batch differ;
}

-- ---- values of facts with their keys

module _ {X : Type 0} (key : X → Key) (f : Entry → Option X) (keyed : (e : Entry) (y : X) → f e ≡ Some y → key y ≡ e.0) where
  -- the value with the earlier key is first
  abbrev pub first_given : X → X → Bool
  first_given a b = is_earlier (key a) (key b)

  -- the values of later facts have later keys
  given_all : (x : Entry) (y : X) → key y ≡ x.0 → (es : List Entry) → AllByRecursion (λ e. goes_first x e ≡ true) es
      → AllByRecursion (λ z. first_given y z ≡ true) (filter_map f es)
  given_all x y same [] later = tt
  given_all x y same (e ∷ es) later =
      elim (f e) as (λ o. f e ≡ o → AllByRecursion (λ z. first_given y z ≡ true) (cons_option o (filter_map f es))) [
        | None ↦ λ is. given_all x y same es later.1
        | Some z ↦ λ is. (rw (same, keyed e z is) later.0, given_all x y same es later.1)
      ] refl

  -- one more fact without a value
  put_none : (x : Entry) → f x ≡ None → (es : List Entry) → filter_map f (put_in_order goes_first x es) ≡ filter_map f es
  put_none x none [] = rw none refl
  put_none x none (e ∷ es) =
      elim (cases_Bool (goes_first x e)) [
        | inl t ↦ rw (t, none) refl
        | inr t ↦ rw t (ap (λ ys. cons_option (f e) ys) (put_none x none es))
      ]

  -- a value is inserted after one that is not later
  put_behind : (y : X) (o : Option X) (ys : List X) → ((z : X) → o ≡ Some z → first_given y z ≡ false)
      → cons_option o (put_in_order first_given y ys) ≡ put_in_order first_given y (cons_option o ys)
  put_behind y None ys behind = refl
  put_behind y (Some z) ys behind = rw (behind z refl) refl

  -- one more fact with a value
  put_some : (x : Entry) (y : X) → f x ≡ Some y → (es : List Entry) → InOrder goes_first es
      → filter_map f (put_in_order goes_first x es) ≡ put_in_order first_given y (filter_map f es)
  put_some x y some [] o = rw some refl
  put_some x y some (e ∷ es) o =
      elim (cases_Bool (goes_first x e)) [
        | inl t ↦ rw (t, some)
            (sym (put_front first_given (weak_earlier key) (λ z. true) y (filter_map f (e ∷ es))
            (given_all x y (keyed x y some) (e ∷ es) (before_all goes_first weak_goes_first x e es t o.0))))
        | inr t ↦ rw (t, put_some x y some es o.1) (put_behind y (f e) (filter_map f es) (λ z is. rw (keyed x y some, keyed e z is) t))
      ]

  -- one more fact
  one_given : (x : Entry) (es : List Entry) (o : Option X) → f x ≡ o → InOrder goes_first es
      → filter_map f (put_in_order goes_first x es) ≡ put_each first_given (cons_option o []) (filter_map f es)
  one_given x es None is o = put_none x is es
  one_given x es (Some y) is o = put_some x y is es o

  -- the value of the first fact, and the values of the others
  one_first : (o : Option X) (xs ys : List X)
      → put_each first_given xs (put_each first_given (cons_option o []) ys) ≡ put_each first_given (cons_option o xs) ys
  one_first None xs ys = refl
  one_first (Some x) xs ys = refl

  -- the values of facts with more of them inserted
  given_of_more : (more facts : List Entry) → InOrder goes_first facts
      → filter_map f (put_each goes_first more facts) ≡ put_each first_given (filter_map f more) (filter_map f facts)
  given_of_more [] facts o = refl
  given_of_more (e ∷ more) facts o =
      given_of_more more (put_in_order goes_first e facts) (put_keeps goes_first weak_goes_first e facts o)
      ∙ ap (put_each first_given (filter_map f more)) (one_given e facts (f e) refl o)
      ∙ one_first (f e) (filter_map f more) (filter_map f facts)

  -- the values of facts with one more batch
  pub given_with_batch : (history : List Batch) (batch : Batch) → IsTrue (identities_differ (with_batch history batch))
      → filter_map f (facts_of (with_batch history batch)) ≡ put_each first_given (filter_map f (entries_of batch)) (filter_map f (facts_of history))
  given_with_batch history batch differ =
      ap (filter_map f) (one_more_batch history batch differ)
      ∙ given_of_more (entries_of batch) (facts_of history) (each_in_order goes_first weak_goes_first (flat_map entries_of history))

pub register_grows : RegisterGrows
register_grows history batch differ = record {
  classes = λ number. given_with_batch (λ entered. entered.0) (class_at number) (class_keyed number) history batch differ;
  elections = λ number. given_with_batch (λ election. election.key) (λ e. election_entered number e.0 e.1.body)
      (λ e y is. election_is number e.0 e.1.body y is) history batch differ;
}

-- ---- members

-- a fact is in a list with one more inserted
among_put : (x : Entry) (ys : List Entry) (e : Entry) → Among (put_in_order goes_first x ys) e ↔ Among (x ∷ ys) e
among_put x ys e =
    let moved = put_permutes goes_first x ys in
    let same = among_permutation (x ∷ ys) (put_in_order goes_first x ys) e moved in
    (same.1, same.0)

-- a fact is in a list with more inserted
among_put_each : (more facts : List Entry) (e : Entry) → Among (put_each goes_first more facts) e ↔ (Among facts e ⊎ Among more e)
among_put_each [] facts e = (λ h. inl h, λ h. elim h [ inl held ↦ held | inr none ↦ absurd none ])
among_put_each (x ∷ more) facts e =
    let rest = among_put_each more (put_in_order goes_first x facts) e in
    let one = among_put x facts e in (
      λ h. elim (rest.0 h) [
        | inl there ↦ elim (one.0 there) [ inl here ↦ inr (inl here) | inr held ↦ inl held ]
        | inr later ↦ inr (inr later)
      ],
      λ h. elim h [
        | inl held ↦ rest.1 (inl (one.1 (inr held)))
        | inr new ↦ elim new [ inl here ↦ rest.1 (inl (one.1 (inl here))) | inr later ↦ rest.1 (inr later) ]
      ],
    )

-- the members that facts enter, from the old facts and the inserted ones
module _ (unit : ℕ) (more facts : List Entry) where
  -- the numbers that facts enter
  abbrev entered : List Entry → List ℕ
  entered es = filter_map (λ e. member_entered unit e.1.body) es

  -- the numbers that all facts enter are the same
  entered_alike : (number : ℕ) → Among (entered (put_each goes_first more facts)) number ↔ Among (entered facts ++ entered more) number
  entered_alike number = (
    λ h.
        let found = among_given (λ e. member_entered unit e.1.body) (put_each goes_first more facts) number h in
        elim ((among_put_each more facts found.0).0 found.1) [
          | inl held ↦ among_left (entered facts) (entered more) number (given_among (λ e. member_entered unit e.1.body) facts found.0 number held found.2)
          | inr new ↦ among_right (entered facts) (entered more) number (given_among (λ e. member_entered unit e.1.body) more found.0 number new found.2)
        ],
    λ h. elim (among_append (entered facts) (entered more) number h) [
      | inl held ↦
          let found = among_given (λ e. member_entered unit e.1.body) facts number held in
          given_among (λ e. member_entered unit e.1.body) (put_each goes_first more facts) found.0 number
          ((among_put_each more facts found.0).1 (inl found.1)) found.2
      | inr new ↦
          let found = among_given (λ e. member_entered unit e.1.body) more number new in
          given_among (λ e. member_entered unit e.1.body) (put_each goes_first more facts) found.0 number
          ((among_put_each more facts found.0).1 (inr found.1)) found.2
    ],
  )

-- the number of facts that pass, among the old facts and the inserted ones
count_put_each : (p : Entry → Bool) (more facts : List Entry) → count_by p (put_each goes_first more facts) ≡ count_by p (facts ++ more)
count_put_each p [] facts = ap (count_by p) (sym (append-nil facts))
count_put_each p (x ∷ more) facts =
    let put : count_by p (put_in_order goes_first x facts) ≡ count_by p (x ∷ facts) =
    sum_by-IsPermutation (λ e. cond (p e) 1 0) (x ∷ facts) (put_in_order goes_first x facts) (put_permutes goes_first x facts) in
    let one = count_cons p x facts in
    let left = sum_by-append (λ e. cond (p e) 1 0) (put_in_order goes_first x facts) more in
    let right = sum_by-append (λ e. cond (p e) 1 0) facts (x ∷ more) in
    let two = count_cons p x more in
    count_put_each p more (put_in_order goes_first x facts) ∙ omega (arith, put, one, left, right, two)

-- the tail of a list in another order
moved_behind : (xs ys zs : List ℕ) → IsPermutation ys zs → IsPermutation (xs ++ ys) (xs ++ zs)
moved_behind xs ys zs moved =
    IsPermutation-trans (xs ++ ys) (ys ++ xs) (xs ++ zs) (IsPermutation-append_comm xs ys)
    (IsPermutation-trans (ys ++ xs) (zs ++ xs) (xs ++ zs) (IsPermutation-append_left xs ys zs moved) (IsPermutation-append_comm zs xs))

pub members_grow : MembersGrow
members_grow history batch unit differ once =
    let facts = facts_of history in
    let more = entries_of batch in
    let held = entered unit more facts facts in
    let new = entered unit more facts more in
    let all = entered unit more facts (put_each goes_first more facts) in
    let with_more = one_more_batch history batch differ in
    let few : (number : ℕ) → count_by (λ e. enters_component number e.1.body) (put_each goes_first more facts) ≤ 1 =
    λ number. subst (λ es. count_by (λ e. enters_component number e.1.body) es ≤ 1) with_more (once.components number) in
    let apart : AllApart nat_lt (held ++ new) =
    subst (AllApart nat_lt) (filter_map-append (λ e. member_entered unit e.1.body) facts more)
    (apart_numbers unit (facts ++ more) (λ number. subst (λ n. n ≤ 1) (count_put_each (λ e. enters_component number e.1.body) more facts) (few number))) in
    let moved = moved_behind held new (in_order nat_lt new) (in_order_permutes nat_lt new) in
    let sorted : AllApart nat_lt (held ++ in_order nat_lt new) = apart_permutation nat_lt (held ++ new) (held ++ in_order nat_lt new) moved apart in
    ap (members_of unit) with_more
    ∙ same_in_order nat_lt strict_lt all (held ++ new) (apart_numbers unit (put_each goes_first more facts) few) apart (entered_alike unit more facts)
    ∙ sym (in_order_forgets nat_lt strict_lt (held ++ new) (held ++ in_order nat_lt new) apart moved)
    ∙ sym (put_each_in_order nat_lt strict_lt (in_order nat_lt new) held sorted)

-- ---- a component that a batch does not affect

-- a fact that is no shutdown of the unit enters none
not_shut : (number day : ℕ) (body : FactBody) → is_shutdown number body ≡ false → stop_entered number day body ≡ None
not_shut number day (Shutdown other days) out = rw out refl
not_shut number day _ out = refl

-- the shutdowns of a unit come only from its shutdown facts
stops_by_shutdowns : (number : ℕ) (facts : List Entry) → stops_of number (filter (λ e. is_shutdown number e.1.body) facts) ≡ stops_of number facts
stops_by_shutdowns number facts =
    filter_map_narrowed (λ e. stop_entered number e.0.day e.1.body) (λ e. is_shutdown number e.1.body) (λ e out. not_shut number e.0.day e.1.body out) facts

module _ (t : ℕ) (history : List Batch) (batch : Batch) (differ : IsTrue (identities_differ (with_batch history batch))) where
  -- a part of the facts up to a day
  part_stays_to : (test : Entry → Bool) → list_any test (entries_of batch) ≡ false
      → filter test (facts_to t (with_batch history batch)) ≡ filter test (facts_to t history)
  part_stays_to test none =
      let q : Entry → Bool = λ e. nat_le e.0.day t in
      filter_swap test q (facts_of (with_batch history batch))
      ∙ ap (filter q) (part_stays test history batch differ none)
      ∙ sym (filter_swap test q (facts_of history))

  -- the lists of a component that a batch does not affect
  same_lists : (number unit : ℕ) → LeavesAlone number unit history batch → HasSameLists number unit (facts_to t history) (facts_to t (with_batch history batch))
  same_lists number unit alone =
      let q : Entry → Bool = λ e. nat_le e.0.day t in
      let untested : Entry → Type 0 = λ e. (instrument : ℕ) → reading_instrument e.1.body ≡ Some instrument
      → list_any (matters instrument e.0.day) (entries_of batch) ≡ false in
      let own : AllByRecursion untested (facts_of_component number (facts_to t history)) =
      subst (AllByRecursion untested) (sym (filter_swap (λ e. is_numbered (component_of e.1.body) number) q (facts_of history)))
      (all_of_part untested q (facts_of_component number (facts_of history)) alone.tests) in
      record {
        same = record {
          own = part_stays_to (λ e. is_numbered (component_of e.1.body) number) alone.component;
          tests = all_weaker untested (λ e. (instrument : ℕ) → reading_instrument e.1.body ≡ Some instrument
              → filter (matters instrument e.0.day) (facts_to t (with_batch history batch)) ≡ filter (matters instrument e.0.day) (facts_to t history))
              (λ e none instrument read. part_stays_to (matters instrument e.0.day) (none instrument read))
              (facts_of_component number (facts_to t history)) own;
        };
        of_unit = ap (λ stops. record { stops = stops })
            (sym (stops_by_shutdowns unit (facts_to t (with_batch history batch)))
            ∙ ap (stops_of unit) (part_stays_to (λ e. is_shutdown unit e.1.body) alone.shutdowns)
            ∙ stops_by_shutdowns unit (facts_to t history));
      }

pub left_alone_is_known_alike : LeftAloneIsKnownAlike
left_alone_is_known_alike t item history batch differ alone =
    same_lists_know_alike item (facts_to t history) (facts_to t (with_batch history batch)) (same_lists t history batch differ item.component item.unit alone)
