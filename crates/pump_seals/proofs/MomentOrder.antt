-- A linear order of moments, and tests that pass every moment up to one that passes.
use Rattle.std.proofs.Common.{◌≡◌, Bool, true, false, not, ◌&&◌, ◌||◌, List, [], ◌∷◌, refl, sym, ap, ◌∙◌, inl, inr, subst}
use Rattle.std.specs.List.{AllByRecursion, list_any}
use Rattle.std.proofs.lemmas.Bool.{cases_Bool, false≢true}
use Rattle.list_words.specs.Order.{IsStrictOrder}

-- a strict order in which two moments are equal if neither is before the other
pub record IsLinear {M : Type 0} (before : M → M → Bool) : Type 0 where
  pub strict : IsStrictOrder before
  pub apart : (x y : M) → before x y ≡ false → before y x ≡ false → x ≡ y

-- no truth value is both true and false
pub clash : {A : Type 0} (b : Bool) → b ≡ true → b ≡ false → A
clash b holds fails = absurd (false≢true (sym fails ∙ holds))

-- a value whose negation is true is false
pub not_true : (b : Bool) → not b ≡ true → b ≡ false
not_true true e = absurd (false≢true e)
not_true false e = refl

-- a conjunction or a third test fails if the second part and the third test do
pub both_fail : (a b r : Bool) → b ≡ false → r ≡ false → ((a && b) || r) ≡ false
both_fail true b r e f = rw (e, f) refl
both_fail false b r e f = f

module _ {M : Type 0} (before : M → M → Bool) (linear : IsLinear before) where
  -- the first of two moments is not after the second
  pub not_back : (x y : M) → before x y ≡ true → before y x ≡ false
  not_back x y e = elim (cases_Bool (before y x)) [
    | inl f ↦ clash (before x x) (linear.strict.transitive x y x e f) (linear.strict.irreflexive x)
    | inr f ↦ f
  ]

  -- if x is not after y, and y is before z, x is before z
  pub up_to : (x y z : M) → before y x ≡ false → before y z ≡ true → before x z ≡ true
  up_to x y z e f = elim (cases_Bool (before x y)) [
    | inl g ↦ linear.strict.transitive x y z g f
    | inr g ↦ subst (λ m. before m z ≡ true) (linear.apart y x e g) f
  ]

  -- if x is before y, and z is not before y, x is before z
  pub on_from : (x y z : M) → before x y ≡ true → before z y ≡ false → before x z ≡ true
  on_from x y z e f = elim (cases_Bool (before y z)) [
    | inl g ↦ linear.strict.transitive x y z e g
    | inr g ↦ subst (λ m. before x m ≡ true) (linear.apart y z g f) e
  ]

  -- if y is not before x, and z is not before y, z is not before x
  pub all_the_way : (x y z : M) → before y x ≡ false → before z y ≡ false → before z x ≡ false
  all_the_way x y z e f = elim (cases_Bool (before z x)) [
    | inl g ↦ clash (before z y) (on_from z x y g e) f
    | inr g ↦ g
  ]

  -- the test passes each moment that is not after one that passes
  abbrev pub IsFront : (M → Bool) → Type 0
  IsFront c = (v w : M) → before v w ≡ false → c v ≡ true → c w ≡ true

  -- being before a moment is such a test
  pub before_front : (m : M) → IsFront (λ x. before x m)
  before_front m v w e f = up_to w v m e f

  -- not being after a moment is such a test
  pub up_to_front : (m : M) → IsFront (λ x. not (before m x))
  up_to_front m v w e f = ap not (all_the_way w v m e (not_true (before m v) f))

  -- a moment fails such a test if an earlier or equal one does
  pub fails_on : (c : M → Bool) → IsFront c → (v w : M) → before v w ≡ false → c w ≡ false → c v ≡ false
  fails_on c front v w e f = elim (cases_Bool (c v)) [
    | inl g ↦ clash (c w) (front v w e g) f
    | inr g ↦ g
  ]
