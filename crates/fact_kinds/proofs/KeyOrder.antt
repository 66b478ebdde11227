use Rattle.std.proofs.Common.{◌≡◌, ℕ, ◌<◌, true, false, ◌||◌, Ordering, refl, subst, ap}
use Rattle.std.proofs.lemmas.Bool.{false≢true}
use Rattle.std.specs.Ordering.{is_lt, is_eq, ordering_reverse, ordering_then, nat_cmp, MatchOrdering}
use Rattle.std.specs.declared.cmp.Ordering.TheVariants.{Less, Equal, Greater}
use Rattle.std.proofs.lemmas.Cmp.{tied_itself, ranked}
use Rattle.list_words.specs.Order.{IsStrictOrder}
use Rattle.fact_kinds.specs.declared.key.Key.{Key}
use Rattle.fact_kinds.specs.Facts.{key_cmp, is_earlier, goes_first}
pub use Rattle.fact_kinds.specs.KeyLaws.{key_cmp_total}

-- an ordering for which `is_lt` is true is Less
less_is : (o : Ordering) → is_lt o ≡ true → o ≡ Less
less_is Less e = refl
less_is Equal e = cc
less_is Greater e = cc

-- being earlier, by the keys of any elements, is a strict order
pub strict_earlier : {X : Type 0} (key : X → Key) → IsStrictOrder (λ a b. is_earlier (key a) (key b))
strict_earlier key =
    record {
      irreflexive = λ x. ap is_lt (tied_itself key_cmp_total (key x));
      transitive = λ x y z e f. ap is_lt (key_cmp_total.trans (key x) (key y) (key z) (less_is _ e) (less_is _ f));
    }

-- going first is a strict order
pub strict_goes_first : IsStrictOrder goes_first
strict_goes_first = strict_earlier (λ e. e.0)

-- of an ordering that is not Equal and its reverse, one is Less
apart_answer : (o p : Ordering) → o ≡ ordering_reverse p → ¬ (o ≡ Equal) → (is_lt o || is_lt p) ≡ true
apart_answer Less p e differ = refl
apart_answer Equal p e differ = absurd (differ refl)
apart_answer Greater Less e differ = refl
apart_answer Greater Equal e differ = cc
apart_answer Greater Greater e differ = cc

-- of two keys that do not tie, one is earlier
pub apart_keys : (a b : Key) → ¬ (key_cmp a b ≡ Equal) → (is_earlier a b || is_earlier b a) ≡ true
apart_keys a b differ = apart_answer (key_cmp a b) (key_cmp b a) (key_cmp_total.antisymm a b) differ

-- an ordering is not Equal if it or its reverse is Less
answer_apart : (o p : Ordering) → o ≡ ordering_reverse p → (is_lt o || is_lt p) ≡ true → is_eq o ≡ false
answer_apart Less p e apart = refl
answer_apart Equal Less e apart = cc
answer_apart Equal Equal e apart = absurd (false≢true apart)
answer_apart Equal Greater e apart = cc
answer_apart Greater p e apart = refl

-- two keys do not tie if one is earlier
pub no_tie : (a b : Key) → (is_earlier a b || is_earlier b a) ≡ true → is_eq (key_cmp a b) ≡ false
no_tie a b apart = answer_apart (key_cmp a b) (key_cmp b a) (key_cmp_total.antisymm a b) apart

-- if two comparisons together say Equal, each does
then_tied : (o p : Ordering) → ordering_then o p ≡ Equal → (o ≡ Equal) × (p ≡ Equal)
then_tied Less p e = cc
then_tied Equal p e = (refl, e)
then_tied Greater p e = cc

-- numbers that compare as equal are equal
nat_tied : (x y : ℕ) → nat_cmp x y ≡ Equal → x ≡ y
nat_tied x y e = subst (λ o. MatchOrdering o (x < y) (x ≡ y) (y < x)) e (ranked x y (nat_cmp x y) refl)

-- two keys have equal parts
pub record Tied (a b : Key) : Type 0 where
  pub day : a.day ≡ b.day
  pub minute : a.minute ≡ b.minute
  pub handheld : a.handheld ≡ b.handheld
  pub number : a.number ≡ b.number
  pub index : a.index ≡ b.index

-- keys that compare as equal have equal parts
pub tied_keys : (a b : Key) → key_cmp a b ≡ Equal → Tied a b
tied_keys a b e =
    let days = then_tied (nat_cmp a.day b.day) _ e in
    let minutes = then_tied (nat_cmp a.minute b.minute) _ days.1 in
    let handhelds = then_tied (nat_cmp a.handheld b.handheld) _ minutes.1 in
    let numbers = then_tied (nat_cmp a.number b.number) _ handhelds.1 in
    record {
      day = nat_tied a.day b.day days.0;
      minute = nat_tied a.minute b.minute minutes.0;
      handheld = nat_tied a.handheld b.handheld handhelds.0;
      number = nat_tied a.number b.number numbers.0;
      index = nat_tied a.index b.index numbers.1;
    }
