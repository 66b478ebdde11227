use Rattle.std.proofs.Common.{◌≡◌, Bool, true, false, cond, Option, Some, None, List, [], ◌∷◌, refl, sym, ap, ◌∙◌, inl, inr}
use Rattle.std.specs.Prelude.{filter}
use Rattle.std.specs.List.{AllByRecursion, filter_map, cons_option}
use Rattle.std.specs.Option.{option_or}
use Rattle.std.specs.Ordering.{is_lt, ordering_reverse}
use Rattle.std.specs.declared.cmp.Ordering.{Ordering}
use Rattle.std.specs.declared.cmp.Ordering.TheVariants.{Less, Equal, Greater}
use Rattle.std.proofs.lemmas.Bool.{cases_Bool, false≢true}
use Rattle.list_words.specs.Order.{put_in_order, in_order, put_each, later_of}
use Rattle.list_words.specs.Words.{last_such}
use Rattle.list_words.proofs.Ascending.{all_put}
use Rattle.list_words.proofs.Members.{all_weaker}
use Rattle.list_words.proofs.Narrowing.{filter_narrowed}
use Rattle.list_words.proofs.WordLemmas.{last_such-cons, option_or-None}
use Rattle.fact_kinds.specs.declared.key.Key.{Key}
use Rattle.fact_kinds.specs.Facts.{Entry, key_cmp, is_earlier, goes_first}
use Rattle.fact_kinds.proofs.KeyOrder.{key_cmp_total}

-- ---- lists in which no element is before an earlier one

-- no element is before an earlier one
abbrev pub InOrder : {X : Type 0} → (X → X → Bool) → List X → Type 0
InOrder before [] = Unit {0}
InOrder before (x ∷ xs) = AllByRecursion (λ y. before y x ≡ false) xs × InOrder before xs

-- an order in which an element before another is not after it, and is before every element that is not before that other
pub record IsWeakOrder {X : Type 0} (before : X → X → Bool) : Type 0 where
  pub asymmetric : (x y : X) → before x y ≡ true → before y x ≡ false
  pub carries : (x y z : X) → before x y ≡ true → before z y ≡ false → before x z ≡ true

module _ {X : Type 0} (before : X → X → Bool) (weak : IsWeakOrder before) where
  -- an element before the first of a list in order is before all of it
  pub before_all : (x y : X) (ys : List X) → before x y ≡ true → AllByRecursion (λ z. before z y ≡ false) ys → AllByRecursion (λ z. before x z ≡ true) (y ∷ ys)
  before_all x y ys e later = (e, all_weaker (λ z. before z y ≡ false) (λ z. before x z ≡ true) (λ z h. weak.carries x y z e h) ys later)

  pub put_keeps : (x : X) (ys : List X) → InOrder before ys → InOrder before (put_in_order before x ys)
  put_keeps x [] o = (tt, tt)
  put_keeps x (y ∷ ys) o =
      elim (cases_Bool (before x y)) [
        | inl e ↦ rw e (all_weaker (λ z. before x z ≡ true) (λ z. before z x ≡ false) (λ z h. weak.asymmetric x z h) (y ∷ ys) (before_all x y ys e o.0), o)
        | inr e ↦ rw e (all_put (λ z. before z y ≡ false) before x ys e o.0, put_keeps x ys o.1)
      ]

  pub each_in_order : (xs : List X) → InOrder before (in_order before xs)
  each_in_order [] = tt
  each_in_order (x ∷ xs) = put_keeps x (in_order before xs) (each_in_order xs)

  later_step : (x y : X) (b : Bool) (o : Option X) → before x y ≡ true → option_or o (Some x) ≡ later_of before x o →
      option_or (option_or o (cond b (Some y) None)) (Some x) ≡ later_of before x (option_or o (cond b (Some y) None))
  later_step x y true None e same = rw e refl
  later_step x y false None e same = refl
  later_step x y b (Some z) e same = same

  -- the last element that passes, of those after an element, is later than it
  later_than : (p : X → Bool) (x : X) (xs : List X) → AllByRecursion (λ y. before x y ≡ true) xs →
      option_or (last_such p xs) (Some x) ≡ later_of before x (last_such p xs)
  later_than p x [] all = refl
  later_than p x (y ∷ ys) all = rw (last_such-cons p y ys) (later_step x y (p y) (last_such p ys) all.0 (later_than p x ys all.1))

  later_behind : (x y : X) (b : Bool) (o : Option X) → before x y ≡ false →
      option_or (later_of before x o) (cond b (Some y) None) ≡ later_of before x (option_or o (cond b (Some y) None))
  later_behind x y true None e = rw e refl
  later_behind x y false None e = refl
  later_behind x y b (Some z) e = elim (cases_Bool (before x z)) [ inl back ↦ rw back refl | inr not_back ↦ rw not_back refl ]

  -- the last element that passes, after one more: the later of the new one and the old one
  pub last_such-put : (p : X → Bool) (x : X) (xs : List X) → InOrder before xs →
      last_such p (put_in_order before x xs) ≡ cond (p x) (later_of before x (last_such p xs)) (last_such p xs)
  last_such-put p x [] o = refl
  last_such-put p x (y ∷ ys) o =
      elim (cases_Bool (before x y)) [
        | inl e ↦ rw e (last_such-cons p x (y ∷ ys)
            ∙ elim (cases_Bool (p x)) [
              | inl new ↦ rw new (later_than p x (y ∷ ys) (before_all x y ys e o.0))
              | inr old ↦ rw old (option_or-None (last_such p (y ∷ ys)))
            ])
        | inr e ↦ rw (e, last_such-cons p y (put_in_order before x ys), last_such-cons p y ys, last_such-put p x ys o.1)
            (elim (cases_Bool (p x)) [
              | inl new ↦ rw new (later_behind x y (p y) (last_such p ys) e)
              | inr old ↦ rw old refl
            ])
      ]

  module _ (q : X → Bool) where
    all_filter : (P : X → Type 0) (ys : List X) → AllByRecursion P ys → AllByRecursion P (filter q ys)
    all_filter P [] all = tt
    all_filter P (y ∷ ys) all =
        elim (cases_Bool (q y)) [
          | inl e ↦ rw e (all.0, all_filter P ys all.1)
          | inr e ↦ rw e (all_filter P ys all.1)
        ]

    filter_keeps : (ys : List X) → InOrder before ys → InOrder before (filter q ys)
    filter_keeps [] o = tt
    filter_keeps (y ∷ ys) o =
        elim (cases_Bool (q y)) [
          | inl e ↦ rw e (all_filter (λ z. before z y ≡ false) ys o.0, filter_keeps ys o.1)
          | inr e ↦ rw e (filter_keeps ys o.1)
        ]

    -- an element before all others goes to the front
    pub put_front : (x : X) (ys : List X) → AllByRecursion (λ z. before x z ≡ true) ys → put_in_order before x ys ≡ x ∷ ys
    put_front x [] all = refl
    put_front x (y ∷ ys) all = rw all.0 refl

    -- the elements that pass, of a list with one more
    pub put_filter : (x : X) (ys : List X) → InOrder before ys
        → filter q (put_in_order before x ys) ≡ cond (q x) (put_in_order before x (filter q ys)) (filter q ys)
    put_filter x [] o = refl
    put_filter x (y ∷ ys) o =
        elim (cases_Bool (before x y)) [
          | inl e ↦ rw (e, put_front x (filter q (y ∷ ys)) (all_filter (λ z. before x z ≡ true) (y ∷ ys) (before_all x y ys e o.0))) refl
          | inr e ↦ elim (cases_Bool (q y)) [
            | inl passes ↦ elim (cases_Bool (q x)) [
              | inl put ↦ rw (e, passes, put_filter x ys o.1, put, e) refl
              | inr left ↦ rw (e, passes, put_filter x ys o.1, left) refl
            ]
            | inr fails ↦ rw (e, fails, put_filter x ys o.1) refl
          ]
        ]

    -- two lists with the same passing elements still have them after more elements are added
    put_each_filter : (more xs ys : List X) → InOrder before xs → InOrder before ys → filter q xs ≡ filter q ys
        → filter q (put_each before more xs) ≡ filter q (put_each before more ys)
    put_each_filter [] xs ys o p e = e
    put_each_filter (x ∷ more) xs ys o p e =
        let same : filter q (put_in_order before x xs) ≡ filter q (put_in_order before x ys) =
        put_filter x xs o ∙ ap (λ l. cond (q x) (put_in_order before x l) l) e ∙ sym (put_filter x ys p) in
        put_each_filter more (put_in_order before x xs) (put_in_order before x ys) (put_keeps x xs o) (put_keeps x ys p) same

    -- adding elements only to the passing part gives the passing part of the whole
    pub put_each_passing : (more xs : List X) → InOrder before xs → filter q (put_each before more (filter q xs)) ≡ filter q (put_each before more xs)
    put_each_passing more xs o =
        put_each_filter more (filter q xs) xs (filter_keeps xs o) o (filter_narrowed q q (λ x h. h) xs)

-- ---- the order of keys

less_is : (o : Ordering) → is_lt o ≡ true → o ≡ Less
less_is Less e = refl
less_is Equal e = cc
less_is Greater e = cc

module _ (a b c : Key) where
  -- a key before another is before every key that is not before that other
  answer_carries : (o p : Ordering) → key_cmp a b ≡ o → key_cmp c b ≡ p → is_lt o ≡ true → is_lt p ≡ false → is_lt (key_cmp a c) ≡ true
  answer_carries o Less x y e f = absurd (false≢true (sym f))
  answer_carries o Equal x y e f =
      let back : key_cmp c a ≡ key_cmp b a = key_cmp_total.congr c b a y in
      ap is_lt (key_cmp_total.antisymm a c ∙ ap ordering_reverse back ∙ sym (key_cmp_total.antisymm a b) ∙ x ∙ less_is o e)
  answer_carries o Greater x y e f =
      let later : key_cmp b c ≡ Less = key_cmp_total.antisymm b c ∙ ap ordering_reverse y in
      ap is_lt (key_cmp_total.trans a b c (x ∙ less_is o e) later)

not_behind : (a b : Key) → is_lt (key_cmp a b) ≡ true → is_lt (key_cmp b a) ≡ false
not_behind a b e = ap is_lt (key_cmp_total.antisymm b a ∙ ap ordering_reverse (less_is (key_cmp a b) e))

-- elements with keys are in a weak order by them
pub weak_earlier : {X : Type 0} (key : X → Key) → IsWeakOrder (λ a b. is_earlier (key a) (key b))
weak_earlier key = record {
  asymmetric = λ x y e. not_behind (key x) (key y) e;
  carries = λ x y z e f. answer_carries (key x) (key y) (key z) (key_cmp (key x) (key y)) (key_cmp (key z) (key y)) refl refl e f;
}

pub weak_goes_first : IsWeakOrder goes_first
weak_goes_first = weak_earlier (λ e. e.0)

-- The values of facts, with their keys, are in order if the facts are.
module _ {C : Type 0} (f : Entry → Option (Key × C)) (keyed : (e : Entry) (y : Key × C) → f e ≡ Some y → y.0 ≡ e.0) where
  -- the value with the earlier key is first
  abbrev given_first : Key × C → Key × C → Bool
  given_first a b = is_earlier a.0 b.0

  -- the values of later facts have later keys
  given_all : (x : Entry) (y : Key × C) → y.0 ≡ x.0 → (es : List Entry) → AllByRecursion (λ e. goes_first x e ≡ true) es →
      AllByRecursion (λ z. given_first y z ≡ true) (filter_map f es)
  given_all x y same [] later = tt
  given_all x y same (e ∷ es) later =
      elim (f e) as (λ o. f e ≡ o → AllByRecursion (λ z. given_first y z ≡ true) (cons_option o (filter_map f es))) [
        | None ↦ λ is. given_all x y same es later.1
        | Some z ↦ λ is. (rw (same, keyed e z is) later.0, given_all x y same es later.1)
      ] refl

  -- the values of facts that are not earlier do not have earlier keys
  given_none_before : (x : Entry) (y : Key × C) → y.0 ≡ x.0 → (es : List Entry) → AllByRecursion (λ e. goes_first e x ≡ false) es →
      AllByRecursion (λ z. given_first z y ≡ false) (filter_map f es)
  given_none_before x y same [] later = tt
  given_none_before x y same (e ∷ es) later =
      elim (f e) as (λ o. f e ≡ o → AllByRecursion (λ z. given_first z y ≡ false) (cons_option o (filter_map f es))) [
        | None ↦ λ is. given_none_before x y same es later.1
        | Some z ↦ λ is. (rw (same, keyed e z is) later.0, given_none_before x y same es later.1)
      ] refl

  pub given_in_order : (es : List Entry) → InOrder goes_first es → InOrder given_first (filter_map f es)
  given_in_order [] o = tt
  given_in_order (e ∷ es) o =
      elim (f e) as (λ g. f e ≡ g → InOrder given_first (cons_option g (filter_map f es))) [
        | None ↦ λ is. given_in_order es o.1
        | Some z ↦ λ is. (given_none_before e z (keyed e z is) es o.0, given_in_order es o.1)
      ] refl

  -- one more fact without a value
  pub given-put_none : (x : Entry) → f x ≡ None → (es : List Entry) → filter_map f (put_in_order goes_first x es) ≡ filter_map f es
  given-put_none x none [] = rw none refl
  given-put_none x none (e ∷ es) =
      elim (cases_Bool (goes_first x e)) [
        | inl t ↦ rw (t, none) refl
        | inr t ↦ rw t (ap (λ ys. cons_option (f e) ys) (given-put_none x none es))
      ]

  put_behind : (y : Key × C) (o : Option (Key × C)) (ys : List (Key × C)) → ((z : Key × C) → o ≡ Some z → given_first y z ≡ false) →
      cons_option o (put_in_order given_first y ys) ≡ put_in_order given_first y (cons_option o ys)
  put_behind y None ys behind = refl
  put_behind y (Some z) ys behind = rw (behind z refl) refl

  front_put : (y : Key × C) (ys : List (Key × C)) → AllByRecursion (λ z. given_first y z ≡ true) ys → put_in_order given_first y ys ≡ y ∷ ys
  front_put y [] all = refl
  front_put y (z ∷ zs) all = rw all.0 refl

  -- one more fact with a value
  pub given-put_some : (x : Entry) (y : Key × C) → f x ≡ Some y → (es : List Entry) → InOrder goes_first es →
      filter_map f (put_in_order goes_first x es) ≡ put_in_order given_first y (filter_map f es)
  given-put_some x y some [] o = rw some refl
  given-put_some x y some (e ∷ es) o =
      elim (cases_Bool (goes_first x e)) [
        | inl t ↦ rw (t, some)
            (sym (front_put y (filter_map f (e ∷ es))
            (given_all x y (keyed x y some) (e ∷ es) (before_all goes_first weak_goes_first x e es t o.0))))
        | inr t ↦ rw (t, given-put_some x y some es o.1)
            (put_behind y (f e) (filter_map f es) (λ z is. rw (keyed x y some, keyed e z is) t))
      ]
