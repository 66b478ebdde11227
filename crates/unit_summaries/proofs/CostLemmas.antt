-- Instruments that are ready, and the facts that a renewal reads.
use Rattle.std.proofs.Common.{◌≡◌, ◌⊎◌, ℕ, zero, suc, ◌+◌, ◌<◌, ◌≤◌, Bool, true, false, not, ◌||◌, cond, nat_eq, Option, Some, None, List, [], ◌∷◌, ◌++◌, length, take, filter, get_or, refl, sym, ap, ◌∙◌, subst, inl, inr, arith}
use Rattle.std.specs.Prelude.{sum_by, Contains}
use Rattle.std.specs.List.{cons_option, filter_map, flat_map}
use Rattle.std.proofs.lemmas.Bool.{cases_Bool, eqb-true, false≢true}
use Rattle.std.proofs.lemmas.Bool.Decides.{nat_tests}
use Rattle.std.proofs.lemmas.List.{take_more}
use Rattle.std.proofs.lemmas.List.Folds.{list_any-append}
use Rattle.std.proofs.lemmas.List.Elements.{filter-append}
use Rattle.std.proofs.lemmas.List.Sums.{sum_by-append, sum_by-cons}
use Rattle.fact_kinds.specs.Facts.{Entry}
use Rattle.fact_kinds.specs.Named.{reading_instrument}
use Rattle.ldar_law.specs.Equipment.{members_of}
use Rattle.ldar_law.specs.Slices.{facts_of_component, facts_of_instrument, facts_of_unit}
use Rattle.ldar_law.specs.Stirred.{each_once, instruments_read, is_touched, stirred, touched}
use Rattle.method21_reading.specs.Instruments.{Apart, AreThoseOf}
use Rattle.unit_summaries.specs.Cost.{AreReady, AreTouched, IsPool, UsesOnly, cost_left, cost_of, is_among, is_there, members_cost, own_cost, unit_cost}
use Rattle.unit_summaries.specs.Rows.{Rows, is_fresh, slot_in}
use Rattle.unit_summaries.specs.Sound.{is_known}

-- with one instrument more
pub ready_with : (old new : List (Option Apart)) (facts : List Entry) (number : ℕ) (instrument : Apart) → AreReady old facts
    → AreThoseOf (facts_of_instrument number facts) instrument
    → ((n : ℕ) → slot_in new n ≡ cond (nat_eq n number) (Some instrument) (slot_in old n)) → AreReady new facts
ready_with old new facts number instrument ready those updates n other is =
    elim (cases_Bool (nat_eq n number)) [
      | inl here ↦
          let found : Some instrument ≡ Some other = ap (λ b. cond b (Some instrument) (slot_in old n)) (sym here) ∙ sym (updates n) ∙ is in
          let same : instrument ≡ other = cc in
          subst (λ m. AreThoseOf (facts_of_instrument m facts) other) (sym (eqb-true n number here))
          (subst (AreThoseOf (facts_of_instrument number facts)) same those)
      | inr elsewhere ↦ ready n other (ap (λ b. cond b (Some instrument) (slot_in old n)) (sym elsewhere) ∙ sym (updates n) ∙ is)
    ]

-- ---- what is left to read of instruments

module _ (facts : List Entry) (old new : List (Option Apart)) (number : ℕ) (instrument : Apart)
    (updates : (n : ℕ) → slot_in new n ≡ cond (nat_eq n number) (Some instrument) (slot_in old n)) where
  cost_here : (n : ℕ) → nat_eq n number ≡ true → cost_of facts new n ≡ 0
  cost_here n here = ap (λ o. cond (is_there o) 0 (length (facts_of_instrument n facts))) (updates n ∙ ap (λ b. cond b (Some instrument) (slot_in old n)) here)

  cost_else : (n : ℕ) → nat_eq n number ≡ false → cost_of facts new n ≡ cost_of facts old n
  cost_else n else = ap (λ o. cond (is_there o) 0 (length (facts_of_instrument n facts))) (updates n ∙ ap (λ b. cond b (Some instrument) (slot_in old n)) else)

  no_more : (n : ℕ) → cost_of facts new n ≤ cost_of facts old n
  no_more n = elim (cases_Bool (nat_eq n number)) [
    | inl here ↦ omega (arith, cost_here n here)
    | inr else ↦ omega (arith, cost_else n else)
  ]

  less_left : (pool : List ℕ) → cost_left facts pool new ≤ cost_left facts pool old
  less_left [] = omega arith
  less_left (n ∷ pool) =
      omega (arith, no_more n, less_left pool, sum_by-cons (cost_of facts new) n pool, sum_by-cons (cost_of facts old) n pool)

  -- after an instrument was made ready
  pub left_after : (pool : List ℕ) → slot_in old number ≡ None → is_among pool number ≡ true
      → cost_left facts pool new + length (facts_of_instrument number facts) ≤ cost_left facts pool old
  left_after [] none among = absurd cc
  left_after (n ∷ pool) none among =
      elim (cases_Bool (nat_eq n number)) [
        | inl here ↦
            let whole : cost_of facts old number ≡ length (facts_of_instrument number facts) =
            ap (λ o. cond (is_there o) 0 (length (facts_of_instrument number facts))) none in
            let this : cost_of facts old n ≡ cost_of facts old number = ap (cost_of facts old) (eqb-true n number here) in
            omega (
              arith,
              whole,
              this,
              cost_here n here,
              less_left pool,
              sum_by-cons (cost_of facts new) n pool,
              sum_by-cons (cost_of facts old) n pool,
            )
        | inr else ↦
            let there : is_among pool number ≡ true = rw else at among in
            omega (
              arith,
              no_more n,
              left_after pool none there,
              sum_by-cons (cost_of facts new) n pool,
              sum_by-cons (cost_of facts old) n pool,
            )
      ]

-- no more is read of an instrument than is left
pub within_left : (facts : List Entry) (ready : List (Option Apart)) (number : ℕ) (pool : List ℕ) → slot_in ready number ≡ None
    → is_among pool number ≡ true → length (facts_of_instrument number facts) ≤ cost_left facts pool ready
within_left facts ready number [] none among = absurd cc
within_left facts ready number (n ∷ pool) none among =
    elim (cases_Bool (nat_eq n number)) [
      | inl here ↦
          let whole : cost_of facts ready number ≡ length (facts_of_instrument number facts) =
          ap (λ o. cond (is_there o) 0 (length (facts_of_instrument number facts))) none in
          omega (arith, whole, ap (cost_of facts ready) (eqb-true n number here), sum_by-cons (cost_of facts ready) n pool)
      | inr else ↦
          let there : is_among pool number ≡ true = rw else at among in
          omega (arith, within_left facts ready number pool none there, sum_by-cons (cost_of facts ready) n pool)
    ]

-- where no instrument is ready, all is left
pub all_left : (facts : List Entry) (pool : List ℕ) → cost_left facts pool [] ≡ sum_by (λ n. length (facts_of_instrument n facts)) pool
all_left facts [] = refl
all_left facts (n ∷ pool) =
    sum_by-cons (cost_of facts []) n pool ∙ ap (λ k. length (facts_of_instrument n facts) + k) (all_left facts pool)
    ∙ sym (sum_by-cons (λ n. length (facts_of_instrument n facts)) n pool)

-- ---- the instruments of touched components

or_either : (a b : Bool) → (a || b) ≡ true → (a ≡ true) ⊎ (b ≡ true)
or_either true b is = inl refl
or_either false b is = inr is

or_second : (a b : Bool) → b ≡ true → (a || b) ≡ true
or_second true b is = refl
or_second false b is = is

among_append : (xs ys : List ℕ) (n : ℕ) → (is_among xs n ≡ true) ⊎ (is_among ys n ≡ true) → is_among (xs ++ ys) n ≡ true
among_append xs ys n (inl first) = list_any-append (λ m. nat_eq m n) xs ys ∙ rw first refl
among_append xs ys n (inr second) = list_any-append (λ m. nat_eq m n) xs ys ∙ or_second (is_among xs n) (is_among ys n) second

among_others : (x n : ℕ) (xs : List ℕ) → nat_eq x n ≡ false → is_among xs n ≡ true → is_among (filter (λ m. not (nat_eq m x)) xs) n ≡ true
among_others x n [] other among = absurd cc
among_others x n (m ∷ xs) other among =
    elim (cases_Bool (nat_eq m x)) [
      | inl same ↦
          let gone : nat_eq m n ≡ false = subst (λ k. nat_eq k n ≡ false) (sym (eqb-true m x same)) other in
          let there : is_among xs n ≡ true = rw gone at among in
          rw same (among_others x n xs other there)
      | inr differs ↦
          rw differs
          (elim (cases_Bool (nat_eq m n)) [
            | inl here ↦ rw here refl
            | inr else ↦ let there : is_among xs n ≡ true = rw else at among in rw else (among_others x n xs other there)
          ])
    ]

among_once : (xs : List ℕ) (n : ℕ) → is_among xs n ≡ true → is_among (each_once xs) n ≡ true
among_once [] n among = among
among_once (x ∷ xs) n among =
    elim (cases_Bool (nat_eq x n)) [
      | inl here ↦ rw here refl
      | inr else ↦ let there : is_among xs n ≡ true = rw else at among in rw else (among_others x n (each_once xs) else (among_once xs n there))
    ]

among_each : (f : ℕ → List ℕ) (numbers : List ℕ) (number n : ℕ) → is_among numbers number ≡ true → is_among (f number) n ≡ true
    → is_among (flat_map f numbers) n ≡ true
among_each f [] number n among there = absurd cc
among_each f (m ∷ numbers) number n among there =
    elim (cases_Bool (nat_eq m number)) [
      | inl here ↦ among_append (f m) (flat_map f numbers) n (inl (subst (λ k. is_among (f k) n ≡ true) (sym (eqb-true m number here)) there))
      | inr else ↦
          let later : is_among numbers number ≡ true = rw else at among in
          among_append (f m) (flat_map f numbers) n (inr (among_each f numbers number n later there))
    ]

uses_given : (pool : List ℕ) (own : List Entry) → ((n : ℕ) → is_among (filter_map (λ e. reading_instrument e.1.body) own) n ≡ true → is_among pool n ≡ true)
    → UsesOnly pool own
uses_given pool [] within = tt
uses_given pool (e ∷ own) within =
    let rest = filter_map (λ e. reading_instrument e.1.body) own in (
      λ n is. within n (ap (λ o. is_among (cons_option o rest) n) is ∙ same_among n rest),
      uses_given pool own (λ n there. within n (one_more (reading_instrument e.1.body) n rest there)),
    )
  where
    same_among : (n : ℕ) (rest : List ℕ) → is_among (n ∷ rest) n ≡ true
    same_among n rest = let here : nat_eq n n ≡ true = grind (arith, nat_tests) in rw here refl

    one_more : (o : Option ℕ) (n : ℕ) (rest : List ℕ) → is_among rest n ≡ true → is_among (cons_option o rest) n ≡ true
    one_more None n rest there = there
    one_more (Some m) n rest there = or_second (nat_eq m n) (is_among rest n) there

-- the instruments that read a touched component are among those read of touched components
pub touched_uses : (facts news : List Entry) (unit number : ℕ) → is_among (touched facts news unit) number ≡ true
    → UsesOnly (instruments_read facts news (touched facts news unit)) (facts_of_component number facts)
touched_uses facts news unit number among =
    let f : ℕ → List ℕ = λ n. filter_map (λ e. reading_instrument e.1.body) (facts_of_component n facts) in
    uses_given (instruments_read facts news (touched facts news unit)) (facts_of_component number facts)
    (λ n there. among_once (flat_map f (touched facts news unit)) n (among_each f (touched facts news unit) number n among there))

-- ---- the members so far

among_part : (p : ℕ → Bool) (xs : List ℕ) (i n : ℕ) → i < length xs → n ≡ get_or xs i n → p n ≡ true → is_among (filter p xs) n ≡ true
among_part p [] i n within is passes = absurd (omega (arith, within))
among_part p (x ∷ xs) zero n within is passes =
    let same : n ≡ x = is in
    let keeps : p x ≡ true = subst (λ k. p k ≡ true) same passes in
    let here : nat_eq x n ≡ true = grind (arith, nat_tests, same) in
    rw (keeps, here) refl
among_part p (x ∷ xs) (suc i) n within is passes =
    let there = among_part p xs i n (omega (arith, within)) is passes in
    elim (cases_Bool (p x)) [ inl keeps ↦ rw keeps (or_second (nat_eq x n) (is_among (filter p xs) n) there) | inr drops ↦ rw drops there ]

-- a touched member is among the touched ones
pub member_touched : (facts news : List Entry) (unit : ℕ) (members : List ℕ) (i n : ℕ) → i < length members → n ≡ get_or members i n
    → is_touched facts news n ≡ true → is_among (filter (is_touched facts news) members) n ≡ true
member_touched facts news unit members i n within is passes = among_part (is_touched facts news) members i n within is passes

-- with one member more
pub sum_next : (f : ℕ → ℕ) (p : ℕ → Bool) (members : List ℕ) (i n : ℕ) → i < length members → n ≡ get_or members i n
    → sum_by f (filter p (take (i + 1) members)) ≡ sum_by f (filter p (take i members)) + cond (p n) (f n) 0
sum_next f p members i n within is =
    ap (λ xs. sum_by f (filter p xs)) (take_more members i n within ∙ ap (λ m. take i members ++ m ∷ []) (sym is))
    ∙ ap (sum_by f) (filter-append p (take i members) (n ∷ []))
    ∙ sum_by-append f (filter p (take i members)) (filter p (n ∷ []))
    ∙ ap (λ k. sum_by f (filter p (take i members)) + k) (one_sum (p n))
  where
    one_sum : (b : Bool) → sum_by f (cond b (n ∷ []) []) ≡ cond b (f n) 0
    one_sum true = sum_by-cons f n [] ∙ omega arith
    one_sum false = refl

pub sum_front : (f : ℕ → ℕ) (p : ℕ → Bool) (i : ℕ) (members : List ℕ) → sum_by f (filter p (take i members)) ≤ sum_by f (filter p members)
sum_front f p zero members = omega arith
sum_front f p (suc i) [] = omega arith
sum_front f p (suc i) (m ∷ members) =
    elim (cases_Bool (p m)) [
      | inl keeps ↦
          rw keeps
          (omega (arith, sum_front f p i members, sum_by-cons f m (filter p (take i members)), sum_by-cons f m (filter p members)))
      | inr drops ↦ rw drops (sum_front f p i members)
    ]

-- ---- renewing a member

pub uses_at : (pool : List ℕ) (own : List Entry) (i : ℕ) (e : Entry) → i < length own → e ≡ get_or own i e → UsesOnly pool own
    → (number : ℕ) → reading_instrument e.1.body ≡ Some number → is_among pool number ≡ true
uses_at pool [] i e within is uses number named = absurd (omega (arith, within))
uses_at pool (x ∷ own) zero e within is uses number named =
    let same : e ≡ x = is in uses.0 number (subst (λ (y : Entry). reading_instrument y.1.body ≡ Some number) same named)
uses_at pool (x ∷ own) (suc i) e within is uses number named = uses_at pool own i e (omega (arith, within)) is uses.1 number named

-- the facts that name a component whose summary is not up to date
pub whole_cost : {T : Type 0} (facts : List Entry) (rows : Rows T) (n : ℕ) → is_fresh rows n ≡ false
    → own_cost facts rows n ≡ length (facts_of_component n facts)
whole_cost facts rows n stale = ap (λ b. cond b 0 (length (facts_of_component n facts))) stale

pub whole_unit_cost : {T : Type 0} (facts : List Entry) (rows : Rows T) (u : ℕ) → is_fresh rows u ≡ false
    → unit_cost facts rows u ≡ length (facts_of_unit u facts)
whole_unit_cost facts rows u stale = ap (λ b. cond b 0 (length (facts_of_unit u facts))) stale

module _ {T : Type 0} (facts news : List Entry) (unit : ℕ) (initial rows : Rows T) (members : List ℕ) (are : members ≡ members_of unit facts)
    (i n : ℕ) (within : i < length members) (is : n ≡ get_or members i n) (kept : (m : ℕ) → is_fresh initial m ≡ true → is_fresh rows m ≡ true)
    (touch : AreTouched facts news unit initial) where
  abbrev pub pool : List ℕ
  pool = instruments_read facts news (touched facts news unit)

  was_stale : is_fresh rows n ≡ false → is_fresh initial n ≡ false
  was_stale stale = elim (cases_Bool (is_fresh initial n)) [
    | inl fresh ↦ absurd (false≢true (sym stale ∙ kept n fresh))
    | inr old ↦ old
  ]

  member_is : Contains (members_of unit facts) n
  member_is = subst (λ ms. Contains ms n) are (i, within, sym is)

  touched_is : is_fresh rows n ≡ false → is_touched facts news n ≡ true
  touched_is stale = touch n member_is (was_stale stale)

  pub pool_is : IsPool pool n rows facts
  pool_is stale =
      touched_uses facts news unit n
      (subst (λ ms. is_among (filter (is_touched facts news) ms) n ≡ true) are (member_touched facts news unit members i n within is (touched_is stale)))

  own_less : own_cost facts rows n ≤ cond (is_touched facts news n) (length (facts_of_component n facts)) 0
  own_less = elim (cases_Bool (is_fresh rows n)) [
    | inl fresh ↦
        let none : own_cost facts rows n ≡ 0 = ap (λ b. cond b 0 (length (facts_of_component n facts))) fresh in
        omega (arith, none)
    | inr stale ↦
        let this : cond (is_touched facts news n) (length (facts_of_component n facts)) 0 ≡ length (facts_of_component n facts) =
        ap (λ b. cond b (length (facts_of_component n facts)) 0) (touched_is stale) in
        omega (arith, whole_cost facts rows n stale, this)
  ]

  abbrev pub so_far : ℕ → ℕ
  so_far k = sum_by (λ m. length (facts_of_component m facts)) (filter (is_touched facts news) (take k members))

  -- the facts read with one member more
  pub next_sum : own_cost facts rows n + so_far i ≤ so_far (i + 1)
  next_sum = omega (arith, own_less, sum_next (λ m. length (facts_of_component m facts)) (is_touched facts news) members i n within is)

  -- .. are no more than those of all members
  pub next_fits : own_cost facts rows n + so_far i + cost_left facts pool [] ≤ members_cost facts news unit
  next_fits =
      let whole : so_far (i + 1) ≤ sum_by (λ m. length (facts_of_component m facts)) (touched facts news unit) =
      subst (λ ms. so_far (i + 1) ≤ sum_by (λ m. length (facts_of_component m facts)) (filter (is_touched facts news) ms)) are
      (sum_front (λ m. length (facts_of_component m facts)) (is_touched facts news) (i + 1) members) in
      omega (arith, next_sum, whole, all_left facts pool)

-- the facts read for the members so far are no more than those of all members
pub all_fits : (facts news : List Entry) (unit : ℕ) (members : List ℕ) → members ≡ members_of unit facts → (i : ℕ)
    → sum_by (λ m. length (facts_of_component m facts)) (filter (is_touched facts news) (take i members))
    + cost_left facts (instruments_read facts news (touched facts news unit)) []
    ≤ members_cost facts news unit
all_fits facts news unit members are i =
    let whole : sum_by (λ m. length (facts_of_component m facts)) (filter (is_touched facts news) (take i members))
    ≤ sum_by (λ m. length (facts_of_component m facts)) (touched facts news unit) =
    subst (λ ms. sum_by (λ m. length (facts_of_component m facts)) (filter (is_touched facts news) (take i members))
    ≤ sum_by (λ m. length (facts_of_component m facts)) (filter (is_touched facts news) ms)) are
    (sum_front (λ m. length (facts_of_component m facts)) (is_touched facts news) i members) in
    omega (arith, whole, all_left facts (instruments_read facts news (touched facts news unit)))

-- an element does not depend on the default
pub any_default : (xs : List ℕ) (i d e : ℕ) → i < length xs → get_or xs i d ≡ get_or xs i e
any_default [] i d e within = absurd (omega (arith, within))
any_default (x ∷ xs) zero d e within = refl
any_default (x ∷ xs) (suc i) d e within = any_default xs i d e (omega (arith, within))

-- ---- renewing a process unit

-- the stirred facts are those of the members, and those that name the unit if a new fact does
pub stirred_is : (facts news : List Entry) (unit : ℕ)
    → stirred facts news unit ≡ members_cost facts news unit + cond (is_known news unit) (length (facts_of_unit unit facts)) 0
unfolding stirred
stirred_is facts news unit = refl

-- what is read for a process unit and its members is no more than what is stirred
pub unit_fits : {T : Type 0} (facts news : List Entry) (unit : ℕ) (rows : Rows T) → (is_fresh rows unit ≡ false → is_known news unit ≡ true)
    → unit_cost facts rows unit + members_cost facts news unit ≤ stirred facts news unit
unit_fits facts news unit rows unread = elim (cases_Bool (is_fresh rows unit)) [
  | inl fresh ↦
      let none : unit_cost facts rows unit ≡ 0 = ap (λ b. cond b 0 (length (facts_of_unit unit facts))) fresh in
      omega (arith, none, stirred_is facts news unit)
  | inr stale ↦
      let this : cond (is_known news unit) (length (facts_of_unit unit facts)) 0 ≡ length (facts_of_unit unit facts) =
      ap (λ b. cond b (length (facts_of_unit unit facts)) 0) (unread stale) in
      omega (arith, whole_unit_cost facts rows unit stale, this, stirred_is facts news unit)
]
