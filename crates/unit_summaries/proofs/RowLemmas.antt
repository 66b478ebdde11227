-- Elements and flags at numbers.
use Rattle.std.proofs.Common.{◌≡◌, ℕ, zero, suc, ◌<◌, ◌≤◌, true, false, Bool, cond, nat_eq, Option, Some, None, List, [], ◌∷◌, ◌++◌, length, take, get_or, set, refl, sym, ap, ◌∙◌, subst, inl, inr, ◌+◌, ◌&&◌, ◌||◌, not, arith}
use Rattle.std.specs.List.{AllByRecursion, list_any}
use Rattle.std.proofs.lemmas.Bool.{cases_Bool, eqb-true}
use Rattle.std.proofs.lemmas.Bool.Decides.{nat_tests}
use Rattle.std.proofs.lemmas.List.{take_more}
use Rattle.std.proofs.lemmas.List.Folds.{list_any-append}
use Rattle.fact_store.specs.Lists.{value_at}
use Rattle.touched_readings.specs.Flags.{flag_of}
use Rattle.unit_summaries.specs.Rows.{PutsRow, RenewsRows, Rows, SameRows, Stales, is_fresh, row_of, slot_in}

-- one empty place more
pub slot_push : {X : Type 0} (slots : List (Option X)) (n : ℕ) → slot_in (slots ++ None ∷ []) n ≡ slot_in slots n
slot_push [] zero = refl
slot_push [] (suc n) = refl
slot_push (slot ∷ slots) zero = refl
slot_push (slot ∷ slots) (suc n) = slot_push slots n

-- an element at a place
pub slot_set : {X : Type 0} (slots : List (Option X)) (place : ℕ) (x : X) (n : ℕ) → place < length slots
    → slot_in (set slots place (Some x)) n ≡ cond (nat_eq n place) (Some x) (slot_in slots n)
slot_set [] place x n within = absurd (omega (arith, within))
slot_set (slot ∷ slots) zero x zero within = refl
slot_set (slot ∷ slots) zero x (suc n) within =
    let other : nat_eq (suc n) zero ≡ false = grind (arith, nat_tests) in
    rw other refl
slot_set (slot ∷ slots) (suc place) x zero within =
    let other : nat_eq zero (suc place) ≡ false = grind (arith, nat_tests) in
    rw other refl
slot_set (slot ∷ slots) (suc place) x (suc n) within =
    let same : nat_eq (suc n) (suc place) ≡ nat_eq n place = grind (arith, nat_tests) in
    rw same (slot_set slots place x n (omega (arith, within)))

-- one cleared flag more
pub flag_push : (flags : List Bool) (n : ℕ) → flag_of (flags ++ false ∷ []) n ≡ flag_of flags n
flag_push [] zero = refl
flag_push [] (suc n) = refl
flag_push (flag ∷ flags) zero = refl
flag_push (flag ∷ flags) (suc n) = flag_push flags n

-- a flag that is set
pub flag_set : (flags : List Bool) (place n : ℕ) → place < length flags → flag_of (set flags place true) n ≡ cond (nat_eq n place) true (flag_of flags n)
flag_set [] place n within = absurd (omega (arith, within))
flag_set (flag ∷ flags) zero zero within = refl
flag_set (flag ∷ flags) zero (suc n) within =
    let other : nat_eq (suc n) zero ≡ false = grind (arith, nat_tests) in
    rw other refl
flag_set (flag ∷ flags) (suc place) zero within =
    let other : nat_eq zero (suc place) ≡ false = grind (arith, nat_tests) in
    rw other refl
flag_set (flag ∷ flags) (suc place) (suc n) within =
    let same : nat_eq (suc n) (suc place) ≡ nat_eq n place = grind (arith, nat_tests) in
    rw same (flag_set flags place n (omega (arith, within)))

-- the flag at a place
pub flag_get : (flags : List Bool) (place n : ℕ) → place ≡ n → place < length flags → get_or flags place false ≡ flag_of flags n
flag_get flags place n same within = flag_here flags place within ∙ ap (flag_of flags) same
  where
    flag_here : (flags : List Bool) (n : ℕ) → n < length flags → get_or flags n false ≡ flag_of flags n
    flag_here [] n within = absurd (omega (arith, within))
    flag_here (flag ∷ flags) zero within = refl
    flag_here (flag ∷ flags) (suc n) within = flag_here flags n (omega (arith, within))

-- .. and past the end
pub flag_past : (flags : List Bool) (n : ℕ) → length flags ≤ n → flag_of flags n ≡ false
flag_past [] n past = refl
flag_past (flag ∷ flags) zero past = absurd (omega (arith, past))
flag_past (flag ∷ flags) (suc n) past = flag_past flags n (omega (arith, past))

-- the number of facts of one place more
pub count_push : (counts : List ℕ) (n : ℕ) → value_at (λ c. c) 0 (counts ++ 0 ∷ []) n ≡ value_at (λ c. c) 0 counts n
count_push [] zero = refl
count_push [] (suc n) = refl
count_push (c ∷ counts) zero = refl
count_push (c ∷ counts) (suc n) = count_push counts n

pub count_set : (counts : List ℕ) (place n c : ℕ) → place < length counts
    → value_at (λ k. k) 0 (set counts place c) n ≡ cond (nat_eq n place) c (value_at (λ k. k) 0 counts n)
count_set [] place n c within = absurd (omega (arith, within))
count_set (k ∷ counts) zero zero c within = refl
count_set (k ∷ counts) zero (suc n) c within =
    let other : nat_eq (suc n) zero ≡ false = grind (arith, nat_tests) in
    rw other refl
count_set (k ∷ counts) (suc place) zero c within =
    let other : nat_eq zero (suc place) ≡ false = grind (arith, nat_tests) in
    rw other refl
count_set (k ∷ counts) (suc place) (suc n) c within =
    let same : nat_eq (suc n) (suc place) ≡ nat_eq n place = grind (arith, nat_tests) in
    rw same (count_set counts place n c (omega (arith, within)))

-- ---- rows that are renewed

module _ {T : Type 0} (says : ℕ → T → Type 0) where
  pub renews_same : (old new : Rows T) → SameRows old new → RenewsRows says old new
  renews_same old new same = record {
    fresh = λ n was. same.fresh n ∙ was;
    row = λ n is. inl (sym (same.fresh n) ∙ is, same.row n);
  }

  pub renews_put : (number : ℕ) (x : T) (old mid new : Rows T) → SameRows old mid → PutsRow number x mid new → says number x → RenewsRows says old new
  renews_put number x old mid new same puts said = record {
    fresh = λ n was. elim (cases_Bool (nat_eq n number)) [
      | inl here ↦ puts.fresh n ∙ ap (λ b. cond b true (is_fresh mid n)) here
      | inr else ↦ puts.fresh n ∙ ap (λ b. cond b true (is_fresh mid n)) else ∙ same.fresh n ∙ was
    ];
    row = λ n is. elim (cases_Bool (nat_eq n number)) [
      | inl here ↦ inr (x, puts.row n ∙ ap (λ b. cond b (Some x) (row_of mid n)) here, subst (λ m. says m x) (sym (eqb-true n number here)) said)
      | inr else ↦
          inl (
            sym (puts.fresh n ∙ ap (λ b. cond b true (is_fresh mid n)) else ∙ same.fresh n) ∙ is,
            puts.row n ∙ ap (λ b. cond b (Some x) (row_of mid n)) else ∙ same.row n,
          )
    ];
  }

  pub renews_then : (a b c : Rows T) → RenewsRows says a b → RenewsRows says b c → RenewsRows says a c
  renews_then a b c first second = record {
    fresh = λ n was. second.fresh n (first.fresh n was);
    row = λ n is. elim (second.row n is) [
      | inl kept ↦ elim (first.row n kept.0) [
        | inl was ↦ inl (was.0, kept.1 ∙ was.1)
        | inr put ↦ inr (put.0, kept.1 ∙ put.1, put.2)
      ]
      | inr put ↦ inr put
    ];
  }

-- ---- rows that are no more up to date

pub stales_none : {T : Type 0} (rows : Rows T) → Stales (λ n. false) rows rows
stales_none rows = record { row = λ n. refl; fresh = λ n. kept (is_fresh rows n) }
  where
    kept : (b : Bool) → b ≡ (b && true)
    kept true = refl
    kept false = refl

pub stales_then : {T : Type 0} (p q r : ℕ → Bool) (a b c : Rows T) → Stales p a b → Stales q b c → ((n : ℕ) → r n ≡ (p n || q n)) → Stales r a c
stales_then p q r a b c first second both = record {
  row = λ n. second.row n ∙ first.row n;
  fresh = λ n.
      second.fresh n ∙ ap (λ x. x && not (q n)) (first.fresh n) ∙ two_gone (is_fresh a n) (p n) (q n)
      ∙ ap (λ x. is_fresh a n && not x) (sym (both n));
}
  where
    two_gone : (a b c : Bool) → ((a && not b) && not c) ≡ (a && not (b || c))
    two_gone false b c = refl
    two_gone true true c = refl
    two_gone true false c = refl

-- with the next fact
pub any_next : {X : Type 0} (p : X → Bool) (xs : List X) (i : ℕ) (x : X) → i < length xs → x ≡ get_or xs i x
    → list_any p (take (i + 1) xs) ≡ (list_any p (take i xs) || p x)
any_next p xs i x within is =
    ap (list_any p) (take_more xs i x within) ∙ list_any-append p (take i xs) (get_or xs i x ∷ [])
    ∙ ap (λ y. list_any p (take i xs) || (p y || false)) (sym is) ∙ ap (λ b. list_any p (take i xs) || b) (or_false (p x))
  where
    or_false : (b : Bool) → (b || false) ≡ b
    or_false true = refl
    or_false false = refl

-- the first of some, with the next
pub all_next : (P : ℕ → Type 0) (xs : List ℕ) (i x : ℕ) → i < length xs → x ≡ get_or xs i x → AllByRecursion P (take i xs) → P x
    → AllByRecursion P (take (i + 1) xs)
all_next P xs i x within is all this =
    subst (AllByRecursion P) (sym (take_more xs i x within ∙ ap (λ y. take i xs ++ y ∷ []) (sym is))) (all_joined P (take i xs) x all this)
  where
    all_joined : (P : ℕ → Type 0) (xs : List ℕ) (x : ℕ) → AllByRecursion P xs → P x → AllByRecursion P (xs ++ x ∷ [])
    all_joined P [] x all this = (this, tt)
    all_joined P (y ∷ ys) x all this = (all.0, all_joined P ys x all.1 this)

pub all_weaker : (P Q : ℕ → Type 0) → ((n : ℕ) → P n → Q n) → (xs : List ℕ) → AllByRecursion P xs → AllByRecursion Q xs
all_weaker P Q weaker [] all = tt
all_weaker P Q weaker (x ∷ xs) all = (weaker x all.0, all_weaker P Q weaker xs all.1)
