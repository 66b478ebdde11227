-- The first mend of the last leak that passes a test settles all leaks that pass it.
use Rattle.std.proofs.Common.{◌≡◌, Bool, true, false, not, ◌&&◌, ◌||◌, Option, Some, None, option_and_then, List, [], ◌∷◌, ◌++◌, find}
use Rattle.std.proofs.Common.{refl, sym, ap, ◌∙◌, inl, inr}
use Rattle.std.specs.List.{AllByRecursion, list_any}
use Rattle.std.specs.Option.{option_map_or}
use Rattle.std.proofs.lemmas.Bool.{cases_Bool, and_parts}
use Rattle.pump_seals.specs.Moments.{MomentsRise}
use Rattle.pump_seals.specs.Repairs.{is_attempted, settles, is_unsettled}
use Rattle.pump_seals.specs.Runs.{source, first_mend}
use Rattle.pump_seals.proofs.MomentOrder.{IsLinear, clash, both_fail, not_back, up_to, IsFront, before_front, fails_on}

-- ---- lists and tests

-- a test that nothing passes
pub none_pass : {M : Type 0} (p : M → Bool) → ((v : M) → p v ≡ false) → (vs : List M) → list_any p vs ≡ false
none_pass p none [] = refl
none_pass p none (v ∷ vs) = rw (none v) (none_pass p none vs)

-- two tests that agree
pub same_any : {M : Type 0} (p q : M → Bool) → ((v : M) → p v ≡ q v) → (vs : List M) → list_any p vs ≡ list_any q vs
same_any p q same [] = refl
same_any p q same (v ∷ vs) = rw (same v) (ap (λ r. q v || r) (same_any p q same vs))

-- a disjunction whose first test fails
pub or_rest : (a b : Bool) → a ≡ false → (a || b) ≡ true → b ≡ true
or_rest true b e f = clash true refl e
or_rest false b e f = f

-- a conjunction of two tests that hold
pub both_hold : (a b : Bool) → a ≡ true → b ≡ true → (a && b) ≡ true
both_hold a b e f = rw (e, f) refl

-- a conjunction that fails although its second test holds
pub first_fails : (a b : Bool) → b ≡ true → (a && b) ≡ false → a ≡ false
first_fails true b e f = clash b e f
first_fails false b e f = refl

-- a conjunction with a test that holds
pub and_true : (a : Bool) → (a && true) ≡ a
and_true true = refl
and_true false = refl

-- a conjunction with a test that fails
pub and_false : (a : Bool) → (a && false) ≡ false
and_false true = refl
and_false false = refl

-- a weaker test
pub more_pass : {M : Type 0} (p q : M → Bool) → ((v : M) → p v ≡ true → q v ≡ true) → (vs : List M) → list_any p vs ≡ true → list_any q vs ≡ true
more_pass p q more [] e = e
more_pass p q more (v ∷ vs) e = elim (cases_Bool (q v)) [
  | inl f ↦ rw f refl
  | inr f ↦ elim (cases_Bool (p v)) [
    | inl g ↦ clash (q v) (more v g) f
    | inr g ↦ rw f (more_pass p q more vs (or_rest (p v) (list_any p vs) g e))
  ]
]

-- an element of a list that passes
pub some_pass : {M : Type 0} (p : M → Bool) (front : List M) (x : M) (rest : List M) → p x ≡ true → list_any p (front ++ x ∷ rest) ≡ true
some_pass p [] x rest e = rw e refl
some_pass p (y ∷ front) x rest e = elim (cases_Bool (p y)) [
  | inl f ↦ rw f refl
  | inr f ↦ rw f (some_pass p front x rest e)
]

module _ {M : Type 0} (before : M → M → Bool) (linear : IsLinear before) where
  -- after a moment at which such a test fails, nothing passes
  none_later : (c : M → Bool) → IsFront before linear c → (s u : M) (vs : List M) → c u ≡ false → AllByRecursion (λ y. before y u ≡ false) vs
      → list_any (λ v. before s v && c v) vs ≡ false
  none_later c front s u [] f all = refl
  none_later c front s u (v ∷ vs) f all =
      both_fail (before s v) (c v) (list_any (λ v. before s v && c v) vs) (fails_on before linear c front v u all.0 f)
      (none_later c front s u vs f all.1)

  -- some moment after another one passes such a test exactly if the first one after it does
  pub first_decides : (c : M → Bool) → IsFront before linear c → (s : M) (vs : List M) → MomentsRise before vs
      → list_any (λ v. before s v && c v) vs ≡ option_map_or c (find (before s) vs) false
  first_decides c front s [] rise = refl
  first_decides c front s (u ∷ us) rise = elim (cases_Bool (before s u)) [
    | inl e ↦ elim (cases_Bool (c u)) [
      | inl f ↦ rw (e, f) refl
      | inr f ↦ rw (e, f) (none_later c front s u us f rise.0)
    ]
    | inr e ↦ rw e (first_decides c front s us rise.1)
  ]

  -- ---- one leak and a mend, with no leak between them

  -- no leak is strictly between two moments
  abbrev pub NoneBetween : List M → M → M → Type 0
  NoneBetween leaks x v = AllByRecursion (λ y. (before x y && before y v) ≡ false) leaks

  -- no leak is between a moment after the first one and the second one
  none_after : (x a v : M) → before x a ≡ true → (leaks : List M) → NoneBetween leaks x v → list_any (λ y. before a y && before y v) leaks ≡ false
  none_after x a v e [] none = refl
  none_after x a v e (y ∷ leaks) none = elim (cases_Bool (before a y)) [
    | inl f ↦ elim (cases_Bool (before y v)) [
      | inl g ↦ clash (before x y && before y v) (rw (linear.strict.transitive x a y e f, g) refl) none.0
      | inr g ↦ rw (f, g) (none_after x a v e leaks none.1)
    ]
    | inr f ↦ rw f (none_after x a v e leaks none.1)
  ]

  -- if no leak is between a leak and a mend, the leak is attempted exactly if some attempt is between them
  attempted_between : (leaks attempts mends : List M) (x v : M) → NoneBetween leaks x v → (some : List M)
      → list_any (λ a. before x a && (before a v && not (list_any (λ y. before a y && before y v) leaks))) some
      ≡ list_any (λ a. before x a && before a v) some
  attempted_between leaks attempts mends x v none [] = refl
  attempted_between leaks attempts mends x v none (a ∷ some) = elim (cases_Bool (before x a)) [
    | inl e ↦ elim (cases_Bool (before a v)) [
      | inl f ↦ rw (e, f, none_after x a v e leaks none) refl
      | inr f ↦ rw (e, f) (attempted_between leaks attempts mends x v none some)
    ]
    | inr e ↦ rw e (attempted_between leaks attempts mends x v none some)
  ]

  -- nothing is between two moments if the first is not before the second
  nothing_between : (x v a : M) → before x v ≡ false → (before x a && before a v) ≡ false
  nothing_between x v a e = elim (cases_Bool (before x a && before a v)) [
    | inl f ↦ let parts = and_parts (before x a) (before a v) f in clash (before x v) (linear.strict.transitive x a v parts.0 parts.1) e
    | inr f ↦ f
  ]

  -- if something is between two moments, the first is before the second
  between_guards : (x v : M) (some : List M) → (before x v && list_any (λ a. before x a && before a v) some) ≡ list_any (λ a. before x a && before a v) some
  between_guards x v some = elim (cases_Bool (before x v)) [
    | inl e ↦ rw e refl
    | inr e ↦ rw e (sym (none_pass (λ a. before x a && before a v) (λ a. nothing_between x v a e) some))
  ]

  -- if no leak is between, a mend settles the leak exactly if it is after the moment from which the leak can be settled
  settles_is : (by_attempt : Bool) (leaks attempts mends : List M) → MomentsRise before attempts → (x v : M) → NoneBetween leaks x v
      → settles before by_attempt leaks attempts mends x v
      ≡ option_map_or (λ s. before s v) (source before by_attempt leaks attempts mends by_attempt x) false
  settles_is false leaks attempts mends rise x v none = and_true (before x v)
  settles_is true leaks attempts mends rise x v none =
      ap (λ b. before x v && b) (attempted_between leaks attempts mends x v none attempts)
      ∙ between_guards x v attempts
      ∙ first_decides (λ a. before a v) (before_front before linear v) x attempts rise

  -- a mend that settles a leak settles each leak that is not after it
  settles_earlier : (by_attempt : Bool) (leaks attempts mends : List M) (x y v : M) → before x y ≡ false
      → settles before by_attempt leaks attempts mends x v ≡ true → settles before by_attempt leaks attempts mends y v ≡ true
  settles_earlier false leaks attempts mends x y v e holds =
      let parts = and_parts (before x v) true holds in
      ap (λ b. b && true) (up_to before linear y x v e parts.0)
  settles_earlier true leaks attempts mends x y v e holds =
      let parts = and_parts (before x v) (is_attempted before true leaks attempts mends x v) holds in
      let first : before y v ≡ true = up_to before linear y x v e parts.0 in
      let rest : is_attempted before true leaks attempts mends y v ≡ true =
      more_pass
      (λ a. before x a && (before a v && not (list_any (λ z. before a z && before z v) leaks)))
      (λ a. before y a && (before a v && not (list_any (λ z. before a z && before z v) leaks)))
      (λ a passes. let both = and_parts (before x a) (before a v && not (list_any (λ z. before a z && before z v) leaks)) passes in
      both_hold (before y a) (before a v && not (list_any (λ z. before a z && before z v) leaks)) (up_to before linear y x a e both.0) both.1)
      attempts parts.1 in
      both_hold (before y v) (is_attempted before true leaks attempts mends y v) first rest

  -- ---- all leaks that pass a test

  -- no leak that passes is after this one
  abbrev pub IsLast : (M → Bool) → M → List M → Type 0
  IsLast c x leaks = AllByRecursion (λ y. (before x y && c y) ≡ false) leaks

  -- a leak between this one and a moment that passes would pass
  none_here : (c : M → Bool) → IsFront before linear c → (x v y : M) → c v ≡ true → (before x y && c y) ≡ false → (before x y && before y v) ≡ false
  none_here c front x v y e last = elim (cases_Bool (before x y && before y v)) [
    | inl f ↦
        let parts = and_parts (before x y) (before y v) f in
        clash (before x y && c y) (both_hold (before x y) (c y) parts.0 (front v y (not_back before linear y v parts.1) e)) last
    | inr f ↦ f
  ]

  -- no leak is between the last one that passes and a moment that passes
  none_between : (c : M → Bool) → IsFront before linear c → (x v : M) → c v ≡ true → (leaks : List M) → IsLast c x leaks → NoneBetween leaks x v
  none_between c front x v e [] last = tt
  none_between c front x v e (y ∷ leaks) last = (none_here c front x v y e last.0, none_between c front x v e leaks last.1)

  -- each leak that passes is settled if the last one is
  all_settled : (by_attempt : Bool) (all attempts mends : List M) (c : M → Bool) (x : M)
      → list_any (λ v. settles before by_attempt all attempts mends x v && c v) mends ≡ true → (leaks : List M) → IsLast c x leaks
      → list_any (λ y. c y && not (list_any (λ v. settles before by_attempt all attempts mends y v && c v) mends)) leaks ≡ false
  all_settled by all attempts mends c x holds [] last = refl
  all_settled by all attempts mends c x holds (y ∷ leaks) last = elim (cases_Bool (c y)) [
    | inl e ↦
        let not_later : before x y ≡ false = first_fails (before x y) (c y) e last.0 in
        let settled : list_any (λ v. settles before by all attempts mends y v && c v) mends ≡ true =
        more_pass (λ v. settles before by all attempts mends x v && c v) (λ v. settles before by all attempts mends y v && c v)
        (λ v passes. let both = and_parts (settles before by all attempts mends x v) (c v) passes in
        both_hold (settles before by all attempts mends y v) (c v) (settles_earlier by all attempts mends x y v not_later both.0) both.1)
        mends holds in
        rw (e, settled) (all_settled by all attempts mends c x holds leaks last.1)
    | inr e ↦ rw e (all_settled by all attempts mends c x holds leaks last.1)
  ]

  -- a passing moment settles the last leak exactly if it is after the moment from which the leak can be settled
  by_source : (by_attempt : Bool) (leaks attempts mends : List M) (c : M → Bool) → IsFront before linear c → (x v : M) → IsLast c x leaks
      → MomentsRise before attempts
      → (settles before by_attempt leaks attempts mends x v && c v)
      ≡ (option_map_or (λ s. before s v) (source before by_attempt leaks attempts mends by_attempt x) false && c v)
  by_source by leaks attempts mends c front x v last rise = elim (cases_Bool (c v)) [
    | inl e ↦ ap (λ b. b && c v) (settles_is by leaks attempts mends rise x v (none_between c front x v e leaks last))
    | inr e ↦ rw e (and_false (settles before by leaks attempts mends x v)
        ∙ sym (and_false (option_map_or (λ s. before s v) (source before by leaks attempts mends by x) false)))
  ]

  -- some passing mend is after a moment exactly if the first mend after it passes
  from_source : (c : M → Bool) → IsFront before linear c → (o : Option M) (mends : List M) → MomentsRise before mends
      → list_any (λ v. option_map_or (λ s. before s v) o false && c v) mends
      ≡ option_map_or c (option_and_then (λ s. find (before s) mends) o) false
  from_source c front None mends rise = none_pass (λ v. false && c v) (λ v. refl) mends
  from_source c front (Some s) mends rise = first_decides c front s mends rise

  -- some passing mend settles the last leak that passes exactly if its first mend passes
  settled_last : (by_attempt : Bool) (leaks attempts mends : List M) (c : M → Bool) → IsFront before linear c → (x : M) → IsLast c x leaks
      → MomentsRise before attempts → MomentsRise before mends
      → list_any (λ v. settles before by_attempt leaks attempts mends x v && c v) mends
      ≡ option_map_or c (first_mend before by_attempt leaks attempts mends x) false
  unfolding first_mend
  settled_last by leaks attempts mends c front x last rise_a rise_m =
      same_any (λ v. settles before by leaks attempts mends x v && c v)
      (λ v. option_map_or (λ s. before s v) (source before by leaks attempts mends by x) false && c v)
      (λ v. by_source by leaks attempts mends c front x v last rise_a) mends
      ∙ from_source c front (source before by leaks attempts mends by x) mends rise_m

  -- all leaks that pass are settled exactly if the first mend of the last one passes
  pub unsettled_is : (by_attempt : Bool) (front : List M) (x : M) (rest attempts mends : List M) (c : M → Bool) → IsFront before linear c → c x ≡ true
      → IsLast c x (front ++ x ∷ rest) → MomentsRise before attempts → MomentsRise before mends
      → not (is_unsettled before by_attempt (front ++ x ∷ rest) attempts mends c)
      ≡ option_map_or c (first_mend before by_attempt (front ++ x ∷ rest) attempts mends x) false
  unsettled_is by front x rest attempts mends c is_front passes last rise_a rise_m =
      let leaks = front ++ x ∷ rest in
      let settled = settled_last by leaks attempts mends c is_front x last rise_a rise_m in
      elim (cases_Bool (list_any (λ v. settles before by leaks attempts mends x v && c v) mends)) [
        | inl e ↦ ap not (all_settled by leaks attempts mends c x e leaks last) ∙ sym e ∙ settled
        | inr e ↦
            ap not (some_pass (λ y. c y && not (list_any (λ v. settles before by leaks attempts mends y v && c v) mends)) front x rest
            (both_hold (c x) (not (list_any (λ v. settles before by leaks attempts mends x v && c v) mends)) passes (ap not e)))
            ∙ sym e ∙ settled
      ]
