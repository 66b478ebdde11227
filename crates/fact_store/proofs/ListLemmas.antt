use Rattle.std.proofs.Common.{◌+◌, ◌≡◌, ℕ, zero, suc, ◌-◌, ◌<◌, ◌≤◌, cond, nat_eq, Vec, Some, None}
use Rattle.std.proofs.Common.{List, [], ◌∷◌, ◌++◌, length, get_or, set, refl, sym, ap, ◌∙◌, inl, inr}
use Rattle.std.proofs.Common.{arith}
use Rattle.std.specs.List.{insert}
use Rattle.std.specs.Vec.{vec_len, vec_capacity}
use Rattle.std.proofs.lemmas.Bool.{ne_eqb, eq-eqb, cases_eq, cases_lt}
use Rattle.std.proofs.lemmas.Bool.Decides.{nat_tests}
use Rattle.fact_store.specs.Lists.{value_at, items_in, room_in, OnlyGrow, PutsIn, Pushes}

-- the value of the element at a place
pub value_at-read : {V Y : Type 0} (f : V → Y) (none : Y) (vs : List V) (i : ℕ) (v : V) → i < length vs → v ≡ get_or vs i v → value_at f none vs i ≡ f v
value_at-read f none [] i v within e = absurd (omega arith)
value_at-read f none (w ∷ ws) zero v within e = ap f (sym e)
value_at-read f none (w ∷ ws) (suc i) v within e = value_at-read f none ws i v (omega arith) e

-- the default past the end
pub value_at-past : {V Y : Type 0} (f : V → Y) (none : Y) (vs : List V) (i : ℕ) → length vs ≤ i → value_at f none vs i ≡ none
value_at-past f none [] i past = refl
value_at-past f none (w ∷ ws) zero past = absurd (omega arith)
value_at-past f none (w ∷ ws) (suc i) past = value_at-past f none ws i (omega arith)

-- a test of two numbers is that of their successors
same_test : {Y : Type 0} (n i : ℕ) (x y : Y) → cond (nat_eq n i) x y ≡ cond (nat_eq (suc n) (suc i)) x y
same_test n i x y = grind (arith, nat_tests)

-- the value at a place after a write
pub value_at-set : {V Y : Type 0} (f : V → Y) (none : Y) (vs : List V) (n : ℕ) (v : V) (i : ℕ) → n < length vs
    → value_at f none (set vs n v) i ≡ cond (nat_eq n i) (f v) (value_at f none vs i)
value_at-set f none [] n v i within = absurd (omega arith)
value_at-set f none (w ∷ ws) zero v zero within = refl
value_at-set f none (w ∷ ws) zero v (suc i) within = rw (ne_eqb 0 (suc i) (λ e. absurd (omega arith))) refl
value_at-set f none (w ∷ ws) (suc n) v zero within = rw (ne_eqb (suc n) 0 (λ e. absurd (omega arith))) refl
value_at-set f none (w ∷ ws) (suc n) v (suc i) within = value_at-set f none ws n v i (omega arith) ∙ same_test n i _ _

-- an appended element with the default value changes no value
pub value_at-push : {V Y : Type 0} (f : V → Y) (none : Y) (vs : List V) (v : V) (i : ℕ) → f v ≡ none → value_at f none (vs ++ v ∷ []) i ≡ value_at f none vs i
value_at-push f none [] v zero e = e
value_at-push f none [] v (suc i) e = refl
value_at-push f none (w ∷ ws) v zero e = refl
value_at-push f none (w ∷ ws) v (suc i) e = value_at-push f none ws v i e

-- ---- lists that only grow

-- the value at a place after an element was appended
pub value_at-append : {V Y : Type 0} (f : V → Y) (none : Y) (vs : List V) (v : V) (i : ℕ)
    → value_at f none (vs ++ v ∷ []) i ≡ cond (nat_eq (length vs) i) (f v) (value_at f none vs i)
value_at-append f none [] v zero = refl
value_at-append f none [] v (suc i) = rw (ne_eqb 0 (suc i) (λ e. absurd (omega arith))) refl
value_at-append f none (w ∷ ws) v zero = rw (ne_eqb (length (w ∷ ws)) 0 (λ e. absurd (omega arith))) refl
value_at-append f none (w ∷ ws) v (suc i) = value_at-append f none ws v i ∙ same_test (length ws) i _ _

-- the counts after one more of a number
pub counted_more : (counts : List ℕ) (at count : ℕ) → at < length counts → count ≡ get_or counts at count → (n : ℕ)
    → value_at (λ c. c) 0 (set counts at (count + 1)) n ≡ value_at (λ c. c) 0 counts n + cond (nat_eq at n) 1 0
counted_more counts at count within read n =
    value_at-set (λ c. c) 0 counts at (count + 1) n within
    ∙ elim (cases_eq at n) [
      | inl e ↦ rw (eq-eqb at n e, sym e, value_at-read (λ c. c) 0 counts at count within read) refl
      | inr other ↦ rw (ne_eqb at n other) (omega arith)
    ]

module _ {X Z : Type 0} where
  -- an appended list takes no room away
  room_push : (lists : List (Vec X Z)) (list : Vec X Z) (i : ℕ) → room_in lists i ≤ room_in (lists ++ list ∷ []) i
  room_push [] list i = omega arith
  room_push (v ∷ vs) list zero = omega arith
  room_push (v ∷ vs) list (suc i) = room_push vs list i

  -- lists only grow from themselves
  pub grows_same : (lists : List (Vec X Z)) → OnlyGrow lists lists
  grows_same lists = record { items = λ number. refl; room = λ number. omega arith }

  -- growing is transitive
  pub grows_on : (a b c : List (Vec X Z)) → OnlyGrow a b → OnlyGrow b c → OnlyGrow a c
  grows_on a b c first more =
      record {
        items = λ number. more.items number ∙ first.items number;
        room = λ number. omega (arith, first.room number, more.room number);
      }

  -- appending an empty list only grows the lists
  pub grows_push : (lists : List (Vec X Z)) (list : Vec X Z) → list.items ≡ [] → OnlyGrow lists (lists ++ list ∷ [])
  grows_push lists list empty =
      record {
        items = λ number. value_at-push (λ v. v.items) [] lists list number empty;
        room = λ number. room_push lists list number;
      }

  -- so does writing a list with the same elements and no less room
  pub grows_set : (lists : List (Vec X Z)) (n : ℕ) (old new : Vec X Z) → n < length lists → old ≡ get_or lists n old → new.items ≡ old.items
      → vec_len new ≡ vec_len old → vec_capacity old ≤ vec_capacity new → OnlyGrow lists (set lists n new)
  grows_set lists n old new within read items len capacity =
      record {
        items = λ number. value_at-set (λ v. v.items) [] lists n new number within
            ∙ elim (cases_eq n number) [
              | inl e ↦ rw (eq-eqb n number e) (items ∙ sym (value_at-read (λ v. v.items) [] lists n old within read) ∙ ap (items_in lists) e)
              | inr other ↦ rw (ne_eqb n number other) refl
            ];
        room = λ number. let here : room_in lists n ≡ vec_capacity old - vec_len old = value_at-read
            (λ v. vec_capacity v - vec_len v) 0 lists n old within read in
            rw (value_at-set (λ v. vec_capacity v - vec_len v) 0 lists n new number within)
            (elim (cases_eq n number) [
              | inl e ↦ rw (eq-eqb n number e, sym e) (omega (arith, here))
              | inr other ↦ rw (ne_eqb n number other) (omega arith)
            ]);
      }

  -- the room of a list that was written
  pub room_set : (lists : List (Vec X Z)) (n : ℕ) (new : Vec X Z) → n < length lists → room_in (set lists n new) n ≡ vec_capacity new - vec_len new
  room_set lists n new within = value_at-set (λ v. vec_capacity v - vec_len v) 0 lists n new n within ∙ rw (eq-eqb n n refl) refl

  -- ---- inserting an element

  -- a list with room exists
  pub room_within : (lists : List (Vec X Z)) (n : ℕ) → 0 < room_in lists n → n < length lists
  room_within lists n roomy =
      elim (cases_lt n (length lists)) [
        | inl within ↦ within
        | inr past ↦ absurd (omega (arith, value_at-past (λ v. vec_capacity v - vec_len v) 0 lists n past))
      ]

  -- writing a list with one more element is an insertion
  pub puts_set : (lists : List (Vec X Z)) (number index : ℕ) (element : X) (old new : Vec X Z) → number < length lists → old ≡ get_or lists number old
      → new.items ≡ insert old.items index element → vec_len new ≡ vec_len old + 1 → vec_capacity old ≤ vec_capacity new
      → PutsIn number index element lists (set lists number new)
  puts_set lists number index element old new within read items len capacity =
      let here : items_in lists number ≡ old.items = value_at-read (λ v. v.items) [] lists number old within read in
      let room : room_in lists number ≡ vec_capacity old - vec_len old = value_at-read (λ v. vec_capacity v - vec_len v) 0 lists number old within read in
      record {
        items = λ n. rw (value_at-set (λ v. v.items) [] lists number new n within)
            (elim (cases_eq number n) [
              | inl e ↦ rw (eq-eqb number n e, sym e, here) items
              | inr other ↦ rw (ne_eqb number n other) refl
            ]);
        room = λ n. rw (value_at-set (λ v. vec_capacity v - vec_len v) 0 lists number new n within)
            (elim (cases_eq number n) [
              | inl e ↦ rw (eq-eqb number n e, sym e, room) (omega arith)
              | inr other ↦ rw (ne_eqb number n other) (omega arith)
            ]);
      }

  -- ---- making room, and filling lists

  -- room for one more count
  pub roomy_more : (counts : List ℕ) (at count : ℕ) (old new : List (Vec X Z)) → at < length counts → count ≡ get_or counts at count → OnlyGrow old new
      → count ≤ room_in new at → ((n : ℕ) → n < at → value_at (λ c. c) 0 counts n ≤ room_in old n)
      → (n : ℕ) → n < at + 1 → value_at (λ c. c) 0 counts n ≤ room_in new n
  roomy_more counts at count old new within read grows room before n below =
      elim (cases_eq n at) [
        | inl e ↦ rw (e, value_at-read (λ c. c) 0 counts at count within read) room
        | inr other ↦ omega (arith, before n (omega (arith, below, other)), grows.room n)
      ]

  -- room for all counts
  pub roomy_all : (counts : List ℕ) (at : ℕ) (lists : List (Vec X Z)) → length counts ≤ at
      → ((n : ℕ) → n < at → value_at (λ c. c) 0 counts n ≤ room_in lists n) → (n : ℕ) → value_at (λ c. c) 0 counts n ≤ room_in lists n
  roomy_all counts at lists all before n =
      elim (cases_lt n at) [
        | inl below ↦ before n below
        | inr past ↦ rw (value_at-past (λ c. c) 0 counts n (omega (arith, past, all))) (omega arith)
      ]

  -- writing a list with one more element at its end is an append
  pub pushes_set : (lists : List (Vec X Z)) (number : ℕ) (element : X) (old new : Vec X Z) → number < length lists → old ≡ get_or lists number old
      → new.items ≡ old.items ++ element ∷ [] → vec_len new ≡ vec_len old + 1 → vec_capacity new ≡ vec_capacity old
      → Pushes (Some number) element lists (set lists number new)
  pushes_set lists number element old new within read items len capacity =
      let here : items_in lists number ≡ old.items = value_at-read (λ v. v.items) [] lists number old within read in
      let room : room_in lists number ≡ vec_capacity old - vec_len old = value_at-read (λ v. vec_capacity v - vec_len v) 0 lists number old within read in
      record {
        items = λ n. rw (value_at-set (λ v. v.items) [] lists number new n within)
            (elim (cases_eq number n) [
              | inl e ↦ rw (eq-eqb number n e, sym e, here) items
              | inr other ↦ rw (ne_eqb number n other) refl
            ]);
        room = λ n. rw (value_at-set (λ v. vec_capacity v - vec_len v) 0 lists number new n within)
            (elim (cases_eq number n) [
              | inl e ↦ rw (eq-eqb number n e, sym e, room) (omega arith)
              | inr other ↦ rw (ne_eqb number n other) (omega arith)
            ]);
      }

  -- without a number the lists are unchanged
  pub pushes_none : (lists : List (Vec X Z)) (element : X) → Pushes None element lists lists
  pushes_none lists element = record { items = λ n. refl; room = λ n. omega arith }
