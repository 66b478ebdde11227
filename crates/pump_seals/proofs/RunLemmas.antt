-- A walk over the leaks of one kind, from one leak to the next.
use Rattle.std.proofs.Common.{◌≡◌, Bool, true, false, not, ◌&&◌, ◌||◌, Option, Some, None, option_and_then, List, [], ◌∷◌, ◌++◌, find, cond}
use Rattle.std.proofs.Common.{refl, sym, ap, ◌∙◌, inl, inr, subst}
use Rattle.std.specs.List.{AllByRecursion, list_any}
use Rattle.std.specs.Option.{option_map_or}
use Rattle.std.proofs.lemmas.Bool.{cases_Bool, false≢true}
use Rattle.list_words.proofs.Members.{all_append}
use Rattle.pump_seals.specs.Moments.{MomentsRise}
use Rattle.pump_seals.specs.Repairs.{is_attempted, settles, is_unsettled, opens_tag, closing_of}
use Rattle.pump_seals.specs.Runs.{source, first_mend, is_settled_before, IsInRun}
use Rattle.pump_seals.proofs.MomentOrder.{IsLinear, not_back, up_to, on_from, all_the_way, before_front, up_to_front}
use Rattle.pump_seals.proofs.SettlingLemmas.{none_pass, some_pass, both_hold, and_false, IsLast, unsettled_is}

-- the first element found, if the head passes and if it fails
found_head : {M : Type 0} (b : Bool) (v w : M) (o : Option M) → b ≡ true → cond b (Some v) o ≡ Some w → v ≡ w
found_head true v w o e f = cc
found_head false v w o e f = absurd (false≢true e)

found_later : {M : Type 0} (b : Bool) (v w : M) (o : Option M) → b ≡ false → cond b (Some v) o ≡ Some w → o ≡ Some w
found_later true v w o e f = absurd (false≢true (sym e))
found_later false v w o e f = f

-- a weaker property of each element
each : {M : Type 0} (P Q : M → Type 0) → ((z : M) → P z → Q z) → (xs : List M) → AllByRecursion P xs → AllByRecursion Q xs
each P Q so [] all = tt
each P Q so (x ∷ xs) all = (so x all.0, each P Q so xs all.1)

-- a property of each element holds of one of them
at_place : {M : Type 0} (P : M → Type 0) (front : List M) (x : M) (rest : List M) → AllByRecursion P (front ++ x ∷ rest) → P x
at_place P [] x rest all = all.0
at_place P (y ∷ front) x rest all = at_place P front x rest all.1

-- some element passes if the second of two adjacent ones does
some_pass_next : {M : Type 0} (p : M → Bool) (front : List M) (x y : M) (back : List M) → p y ≡ true → list_any p (front ++ x ∷ y ∷ back) ≡ true
some_pass_next p [] x y back e = elim (cases_Bool (p x)) [
  | inl f ↦ rw f refl
  | inr f ↦ rw (f, e) refl
]
some_pass_next p (z ∷ front) x y back e = elim (cases_Bool (p z)) [
  | inl f ↦ rw f refl
  | inr f ↦ rw f (some_pass_next p front x y back e)
]

-- a conjunction that includes a test and its negation fails
and_not : (a b : Bool) → ((a && b) && not a) ≡ false
and_not true b = and_false b
and_not false b = refl

-- equal options have equal values
some_is : {M : Type 0} (x s : M) → Some x ≡ Some s → x ≡ s
some_is x s e = cc

-- an optional value that passes exists
pub settled_by : {M : Type 0} (c : M → Bool) (o : Option M) → option_map_or c o false ≡ true → (w : M) × (o ≡ Some w) × (c w ≡ true)
settled_by c None e = absurd (false≢true e)
settled_by c (Some w) e = (w, refl, e)

-- ---- the first element that passes

-- nothing is found if nothing passes
find_none : {M : Type 0} (q : M → Bool) → ((v : M) → q v ≡ false) → (vs : List M) → find q vs ≡ None
find_none q none [] = refl
find_none q none (v ∷ vs) = rw (none v) (find_none q none vs)

-- tests that agree find the same element
find_same : {M : Type 0} (p q : M → Bool) → ((v : M) → p v ≡ q v) → (vs : List M) → find p vs ≡ find q vs
find_same p q same [] = refl
find_same p q same (v ∷ vs) = rw (same v, find_same p q same vs) refl

-- the element that is found passes
find_passes : {M : Type 0} (p : M → Bool) (w : M) (vs : List M) → find p vs ≡ Some w → p w ≡ true
find_passes p w [] e = absurd cc
find_passes p w (v ∷ vs) e = elim (cases_Bool (p v)) [
  | inl f ↦ subst (λ m. p m ≡ true) (found_head (p v) v w (find p vs) f e) f
  | inr f ↦ find_passes p w vs (found_later (p v) v w (find p vs) f e)
]

module _ {M : Type 0} (before : M → M → Bool) (linear : IsLinear before) where
  -- the first moment after s is the first that passes a test, if it passes and no earlier one does
  find_first : (s w : M) (q : M → Bool) → before s w ≡ true → ((v : M) → before v w ≡ true → q v ≡ false) → q w ≡ true → (vs : List M)
      → find (before s) vs ≡ Some w → find q vs ≡ Some w
  find_first s w q after fails passes [] e = absurd cc
  find_first s w q after fails passes (u ∷ us) e = elim (cases_Bool (before s u)) [
    | inl f ↦
        let is : u ≡ w = found_head (before s u) u w (find (before s) us) f e in
        let holds : q u ≡ true = subst (λ m. q m ≡ true) (sym is) passes in
        rw holds (ap Some is)
    | inr f ↦
        let no_pass : q u ≡ false = fails u (up_to before linear u s w f after) in
        rw no_pass (find_first s w q after fails passes us (found_later (before s u) u w (find (before s) us) f e))
  ]

  -- the moment from which a leak can be settled is not before the leak
  source_later : (by_attempt : Bool) (leaks attempts mends : List M) (x s : M) → source before by_attempt leaks attempts mends by_attempt x ≡ Some s
      → before s x ≡ false
  source_later true leaks attempts mends x s e = not_back before linear x s (find_passes (before x) s attempts e)
  source_later false leaks attempts mends x s e = subst (λ m. before m x ≡ false) (some_is x s e) (linear.strict.irreflexive x)

  mend_of : (o : Option M) (mends : List M) (w : M) → option_and_then (λ s. find (before s) mends) o ≡ Some w
      → (s : M) × (o ≡ Some s) × (find (before s) mends ≡ Some w)
  mend_of None mends w e = absurd cc
  mend_of (Some s) mends w e = (s, refl, e)

  mend_source : (by_attempt : Bool) (leaks attempts mends : List M) (x w : M) → first_mend before by_attempt leaks attempts mends x ≡ Some w
      → (s : M) × (before s w ≡ true) × (before s x ≡ false) × (find (before s) mends ≡ Some w)
  unfolding first_mend
  mend_source by_attempt leaks attempts mends x w e =
      let (s, from, found) = mend_of (source before by_attempt leaks attempts mends by_attempt x) mends w e in
      (s, find_passes (before s) w mends found, source_later by_attempt leaks attempts mends x s from, found)

  -- a mend that is not before y is after each moment that is before y
  late_mend : (y v : M) → before v y ≡ true → (o : Option M) → option_map_or (λ w. before w y) o false ≡ false
      → option_map_or (λ z. not (before v z)) o false ≡ false
  late_mend y v e None late = refl
  late_mend y v e (Some w) late = ap not (on_from before linear v y w e late)

  -- if no element is before x, no element before x passes
  none_earlier : (x : M) (g : M → Bool) (leaks : List M) → AllByRecursion (λ z. before z x ≡ false) leaks → list_any (λ z. before z x && g z) leaks ≡ false
  none_earlier x g [] all = refl
  none_earlier x g (z ∷ leaks) all = rw all.0 (none_earlier x g leaks all.1)

  -- a tag opens at the first leak
  opens_first : (by_attempt : Bool) (x : M) (rest attempts mends : List M) → MomentsRise before (x ∷ rest)
      → opens_tag before by_attempt (x ∷ rest) attempts mends x ≡ true
  unfolding opens_tag
  opens_first by_attempt x rest attempts mends rise =
      ap not (none_earlier x (λ z. not (list_any (λ v. settles before by_attempt (x ∷ rest) attempts mends z v && before v x) mends)) (x ∷ rest)
      (linear.strict.irreflexive x, rise.0))

  -- the elements before and after a place of a list in which no element is before an earlier one
  rise_front : (front : List M) (x : M) (rest : List M) → MomentsRise before (front ++ x ∷ rest) → AllByRecursion (λ z. before x z ≡ false) front
  rise_front [] x rest rise = tt
  rise_front (y ∷ front) x rest rise = (at_place (λ z. before z y ≡ false) front x rest rise.0, rise_front front x rest rise.1)

  rise_rest : (front : List M) (x : M) (rest : List M) → MomentsRise before (front ++ x ∷ rest) → MomentsRise before (x ∷ rest)
  rise_rest [] x rest rise = rise
  rise_rest (y ∷ front) x rest rise = rise_rest front x rest rise.1

  -- a leak is the last that passes if all leaks after it fail
  last_passing : (c : M → Bool) (front : List M) (x : M) (rest : List M) → MomentsRise before (front ++ x ∷ rest) → AllByRecursion (λ z. c z ≡ false) rest
      → IsLast before linear c x (front ++ x ∷ rest)
  last_passing c front x rest rise fail =
      all_append (λ z. (before x z && c z) ≡ false) front (x ∷ rest)
      (each (λ z. before x z ≡ false) (λ z. (before x z && c z) ≡ false) (λ z e. ap (λ b. b && c z) e) front (rise_front front x rest rise)) (
        ap (λ b. b && c x) (linear.strict.irreflexive x),
        each (λ z. c z ≡ false) (λ z. (before x z && c z) ≡ false) (λ z e. ap (λ b. before x z && b) e ∙ and_false (before x z)) rest fail,
      )

  module _ (by_attempt : Bool) (front : List M) (x : M) (rest attempts mends : List M) (rise : MomentsRise before (front ++ x ∷ rest))
      (rise_a : MomentsRise before attempts) (rise_m : MomentsRise before mends) where
    -- at a moment after a leak and before all later ones, nothing is unsettled exactly if the first mend of the leak has come
    settled_at : (v : M) → before x v ≡ true → AllByRecursion (λ z. before v z ≡ true) rest
        → not (is_unsettled before by_attempt (front ++ x ∷ rest) attempts mends (λ z. not (before v z)))
        ≡ option_map_or (λ z. not (before v z)) (first_mend before by_attempt (front ++ x ∷ rest) attempts mends x) false
    settled_at v later others =
        unsettled_is before linear by_attempt front x rest attempts mends (λ z. not (before v z)) (up_to_front before linear v)
        (ap not (not_back before linear x v later))
        (last_passing (λ z. not (before v z)) front x rest rise (each (λ z. before v z ≡ true) (λ z. not (before v z) ≡ false) (λ z e. ap not e) rest others))
        rise_a rise_m

    -- the tag at a leak closes at the first mend of the leak, if that is before all later leaks
    closes_at : (w : M) → first_mend before by_attempt (front ++ x ∷ rest) attempts mends x ≡ Some w → AllByRecursion (λ z. before w z ≡ true) rest
        → closing_of before by_attempt (front ++ x ∷ rest) attempts mends x ≡ Some w
    unfolding closing_of
    closes_at w is others =
        let leaks = front ++ x ∷ rest in
        let (s, after, not_after, found) = mend_source by_attempt leaks attempts mends x w is in
        find_first s w (λ v. before x v && not (is_unsettled before by_attempt leaks attempts mends (λ z. not (before v z)))) after
        (λ v earlier. elim (cases_Bool (before x v)) [
          | inl e ↦
              ap (λ b. before x v && b)
              (settled_at v e (each (λ z. before w z ≡ true) (λ z. before v z ≡ true) (λ z f. linear.strict.transitive v w z earlier f) rest others)
              ∙ ap (λ o. option_map_or (λ z. not (before v z)) o false) is ∙ ap not earlier)
              ∙ and_false (before x v)
          | inr e ↦ ap (λ b. b && not (is_unsettled before by_attempt leaks attempts mends (λ z. not (before v z)))) e
        ])
        (
        let later = up_to before linear x s w not_after after in
        both_hold (before x w) (not (is_unsettled before by_attempt leaks attempts mends (λ z. not (before w z)))) later
        (settled_at w later others ∙ ap (λ o. option_map_or (λ z. not (before w z)) o false) is ∙ ap not (linear.strict.irreflexive w))
        )
        mends found

  module _ (by_attempt : Bool) (front : List M) (x : M) (attempts mends : List M) (rise : MomentsRise before (front ++ x ∷ []))
      (rise_a : MomentsRise before attempts) (rise_m : MomentsRise before mends) where
    -- the tag at the last leak closes at the first mend of the leak
    closes_last_of : (o : Option M) → first_mend before by_attempt (front ++ x ∷ []) attempts mends x ≡ o
        → closing_of before by_attempt (front ++ x ∷ []) attempts mends x ≡ o
    unfolding closing_of
    closes_last_of None is =
        let leaks = front ++ x ∷ [] in
        find_none (λ v. before x v && not (is_unsettled before by_attempt leaks attempts mends (λ z. not (before v z))))
        (λ v. elim (cases_Bool (before x v)) [
          | inl e ↦
              ap (λ b. before x v && b)
              (settled_at by_attempt front x [] attempts mends rise rise_a rise_m v e tt
              ∙ ap (λ o. option_map_or (λ z. not (before v z)) o false) is)
              ∙ and_false (before x v)
          | inr e ↦ ap (λ b. b && not (is_unsettled before by_attempt leaks attempts mends (λ z. not (before v z)))) e
        ])
        mends
    closes_last_of (Some w) is = closes_at by_attempt front x [] attempts mends rise rise_a rise_m w is tt

    pub closes_last : closing_of before by_attempt (front ++ x ∷ []) attempts mends x ≡ first_mend before by_attempt (front ++ x ∷ []) attempts mends x
    closes_last = closes_last_of (first_mend before by_attempt (front ++ x ∷ []) attempts mends x) refl

  -- a leak and the next one
  module _ (by_attempt : Bool) (front : List M) (x y : M) (back attempts mends : List M) (rise : MomentsRise before (front ++ x ∷ y ∷ back))
      (rise_a : MomentsRise before attempts) (rise_m : MomentsRise before mends) where
    -- the leaks after the second one are not before it
    later_ones : AllByRecursion (λ z. before z y ≡ false) back
    later_ones = (rise_rest front x (y ∷ back) rise).1.0

    -- the second leak is not before the first
    not_before : before y x ≡ false
    not_before = (rise_rest front x (y ∷ back) rise).0.0

    -- a moment before the second leak is before all later ones
    before_all : (v : M) → before v y ≡ true → AllByRecursion (λ z. before v z ≡ true) (y ∷ back)
    before_all v e = (e, each (λ z. before z y ≡ false) (λ z. before v z ≡ true) (λ z f. on_from before linear v y z e f) back later_ones)

    -- the tag at the first leak closes at its first mend, if the leak is settled before the second
    pub closes_here : is_settled_before before by_attempt (front ++ x ∷ y ∷ back) attempts mends x y ≡ true
        → closing_of before by_attempt (front ++ x ∷ y ∷ back) attempts mends x ≡ first_mend before by_attempt (front ++ x ∷ y ∷ back) attempts mends x
    closes_here settled =
        let leaks = front ++ x ∷ y ∷ back in
        let (w, is, earlier) = settled_by (λ m. before m y) (first_mend before by_attempt leaks attempts mends x) settled in
        closes_at by_attempt front x (y ∷ back) attempts mends rise rise_a rise_m w is (before_all w earlier) ∙ sym is

    -- at the moment of a leak, that leak is unsettled
    unsettled_at_leak : is_unsettled before by_attempt (front ++ x ∷ y ∷ back) attempts mends (λ z. not (before y z)) ≡ true
    unsettled_at_leak =
        let leaks = front ++ x ∷ y ∷ back in
        some_pass_next (λ z. not (before y z) && not (list_any (λ v. settles before by_attempt leaks attempts mends z v && not (before y v)) mends)) front x y back
        (both_hold (not (before y y)) (not (list_any (λ v. settles before by_attempt leaks attempts mends y v && not (before y v)) mends))
        (ap not (linear.strict.irreflexive y))
        (ap not (none_pass (λ v. settles before by_attempt leaks attempts mends y v && not (before y v))
        (λ v. and_not (before y v) (not by_attempt || is_attempted before by_attempt leaks attempts mends y v)) mends)))

    -- if the first leak is not settled before the second, the tags at both close at the same moment
    closing_same : is_settled_before before by_attempt (front ++ x ∷ y ∷ back) attempts mends x y ≡ false → (v : M)
        → (before x v && not (is_unsettled before by_attempt (front ++ x ∷ y ∷ back) attempts mends (λ z. not (before v z))))
        ≡ (before y v && not (is_unsettled before by_attempt (front ++ x ∷ y ∷ back) attempts mends (λ z. not (before v z))))
    closing_same unsettled v =
        let leaks = front ++ x ∷ y ∷ back in
        let u = not (is_unsettled before by_attempt leaks attempts mends (λ z. not (before v z))) in
        elim (cases_Bool (before y v)) [
          | inl e ↦ ap (λ b. b && u) (up_to before linear x y v not_before e ∙ sym e)
          | inr e ↦ elim (cases_Bool (before x v)) [
            | inl f ↦
                ap (λ b. before x v && b) (elim (cases_Bool (before v y)) [
                  | inl g ↦
                      settled_at by_attempt front x (y ∷ back) attempts mends rise rise_a rise_m v f (before_all v g)
                      ∙ late_mend y v g (first_mend before by_attempt leaks attempts mends x) unsettled
                  | inr g ↦
                      subst (λ m. not (is_unsettled before by_attempt leaks attempts mends (λ z. not (before m z))) ≡ false) (sym (linear.apart v y g e))
                      (ap not unsettled_at_leak)
                ])
                ∙ and_false (before x v) ∙ sym (ap (λ b. b && u) e)
            | inr f ↦ ap (λ b. b && u) (f ∙ sym e)
          ]
        ]

    pub goes_on : is_settled_before before by_attempt (front ++ x ∷ y ∷ back) attempts mends x y ≡ false
        → closing_of before by_attempt (front ++ x ∷ y ∷ back) attempts mends x ≡ closing_of before by_attempt (front ++ x ∷ y ∷ back) attempts mends y
    unfolding closing_of
    goes_on unsettled =
        let leaks = front ++ x ∷ y ∷ back in
        find_same (λ v. before x v && not (is_unsettled before by_attempt leaks attempts mends (λ z. not (before v z))))
        (λ v. before y v && not (is_unsettled before by_attempt leaks attempts mends (λ z. not (before v z))))
        (closing_same unsettled) mends

    -- a tag opens at a later leak exactly if the leak before it is settled by then
    opens_next : before x y ≡ true → opens_tag before by_attempt (front ++ x ∷ y ∷ back) attempts mends y
        ≡ is_settled_before before by_attempt (front ++ x ∷ y ∷ back) attempts mends x y
    unfolding opens_tag
    opens_next later =
        unsettled_is before linear by_attempt front x (y ∷ back) attempts mends (λ z. before z y) (before_front before linear y) later
        (last_passing (λ z. before z y) front x (y ∷ back) rise (linear.strict.irreflexive y, later_ones)) rise_a rise_m

    -- a leak that is settled before the next one is before it
    settled_later : is_settled_before before by_attempt (front ++ x ∷ y ∷ back) attempts mends x y ≡ true → before x y ≡ true
    settled_later settled =
        let leaks = front ++ x ∷ y ∷ back in
        let (w, is, earlier) = settled_by (λ m. before m y) (first_mend before by_attempt leaks attempts mends x) settled in
        let (s, after, not_after, found) = mend_source by_attempt leaks attempts mends x w is in
        linear.strict.transitive x w y (up_to before linear x s w not_after after) earlier

    -- if a leak is settled before the next one, a run begins at the next one
    pub run_begins : is_settled_before before by_attempt (front ++ x ∷ y ∷ back) attempts mends x y ≡ true → (closed : Option M)
        → closing_of before by_attempt (front ++ x ∷ y ∷ back) attempts mends y ≡ closed
        → IsInRun before by_attempt (front ++ x ∷ y ∷ back) attempts mends y closed y
    run_begins settled closed is = record {
      opens = opens_next (settled_later settled) ∙ settled ∙ sym (ap not (linear.strict.irreflexive y));
      closes = is;
      from_first = linear.strict.irreflexive y;
    }

    -- if a leak is not settled before the next one, its run continues
    pub run_goes_on : is_settled_before before by_attempt (front ++ x ∷ y ∷ back) attempts mends x y ≡ false → (first : M) (closed : Option M)
        → IsInRun before by_attempt (front ++ x ∷ y ∷ back) attempts mends first closed x
        → IsInRun before by_attempt (front ++ x ∷ y ∷ back) attempts mends first closed y
    run_goes_on unsettled first closed run =
        let leaks = front ++ x ∷ y ∷ back in
        record {
          opens = elim (cases_Bool (before x y)) [
            | inl e ↦ opens_next e ∙ unsettled ∙ sym (ap not (up_to before linear first x y run.from_first e))
            | inr e ↦ subst (λ m. opens_tag before by_attempt leaks attempts mends m ≡ not (before first m)) (linear.apart x y e not_before) run.opens
          ];
          closes = sym (goes_on unsettled) ∙ run.closes;
          from_first = all_the_way before linear first x y run.from_first not_before;
        }

  -- a run begins at the first leak
  pub run_first : (by_attempt : Bool) (x : M) (rest attempts mends : List M) → MomentsRise before (x ∷ rest) → (closed : Option M)
      → closing_of before by_attempt (x ∷ rest) attempts mends x ≡ closed → IsInRun before by_attempt (x ∷ rest) attempts mends x closed x
  run_first by_attempt x rest attempts mends rise closed is = record {
    opens = opens_first by_attempt x rest attempts mends rise ∙ sym (ap not (linear.strict.irreflexive x));
    closes = is;
    from_first = linear.strict.irreflexive x;
  }
