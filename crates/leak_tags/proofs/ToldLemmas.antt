-- The summary of the leaks of one kind, in three steps: some are settled, a delay is added, a leak is added.
use Rattle.std.proofs.Common.{◌≡◌, ℕ, ◌+◌, ◌≤◌, Bool, true, false, not, ◌&&◌, ◌||◌, nat_le, Option, Some, None, IfSome, refl, sym, ap, ◌∙◌, inl, inr, arith}
use Rattle.std.specs.Prelude.{is_some}
use Rattle.std.proofs.lemmas.Bool.{cases_Bool, and_right, leb-true, leb-false, lt-leb, le-leb}
use Rattle.ldar_law.specs.declared.numbers.TheConstants.{REPAIR_DAYS}
use Rattle.leak_tags.specs.declared.leaks.Days.{Days}
use Rattle.leak_tags.specs.declared.leaks.Leaks.{Leaks}
use Rattle.leak_tags.specs.OpenLeaks.{has_leaks, reaches, misses, missed_by, first_with, settled, reached, opened}
use Rattle.leak_tags.specs.Telling.{Told}
use Rattle.leak_tags.proofs.AfterLemmas.{or_false, and_true, and_false, and_over}

-- a test of some of many: it depends only on the values, distributes over disjunction, and fails for a test that never passes
pub record Sums (some : (Bool → ℕ → Bool) → Bool) : Type 0 where
  pub same : (p q : Bool → ℕ → Bool) → ((late : Bool) (from : ℕ) → p late from ≡ q late from) → some p ≡ some q
  pub either : (p q : Bool → ℕ → Bool) → some (λ late from. p late from || q late from) ≡ (some p || some q)
  pub none : some (λ _ _. false) ≡ false

-- a test under a condition that is a test too
pub sums_under : (some : (Bool → ℕ → Bool) → Bool) → Sums some → (t : Bool → ℕ → Bool) → Sums (λ p. some (λ late from. t late from && p late from))
sums_under some sums t = record {
  same = λ p q agree. sums.same (λ late from. t late from && p late from) (λ late from. t late from && q late from)
      (λ late from. ap (λ b. t late from && b) (agree late from));
  either = λ p q.
      sums.same (λ late from. t late from && (p late from || q late from)) (λ late from. (t late from && p late from) || (t late from && q late from))
      (λ late from. and_over (t late from) (p late from) (q late from))
      ∙ sums.either (λ late from. t late from && p late from) (λ late from. t late from && q late from);
  none = sums.same (λ late from. t late from && false) (λ _ _. false) (λ late from. and_false (t late from)) ∙ sums.none;
}

-- equal tests have the same summary
pub told_same : (some other : (Bool → ℕ → Bool) → Bool) (leaks : Leaks) (today : ℕ) → ((p : Bool → ℕ → Bool) → some p ≡ other p) → Told other leaks today →
    Told some leaks today
told_same some other leaks today same told = record {
  delayed = same (λ late _. late) ∙ told.delayed;
  reached = λ day le. same (λ late from. not late && nat_le day (from + REPAIR_DAYS)) ∙ told.reached day le;
  missed = λ day le. same (λ late from. not late && not (nat_le day (from + REPAIR_DAYS))) ∙ told.missed day le;
  in_order = told.in_order;
}

-- a property of an optional value that follows from another
if_some : {X : Type 0} (P Q : X → Type 0) (o : Option X) → ((x : X) → P x → Q x) → IfSome o P → IfSome o Q
if_some P Q None implies h = h
if_some P Q (Some x) implies h = implies x h

-- ---- some are settled

-- a conjunction with the negation
not_both : (b : Bool) → (not b && b) ≡ false
not_both true = refl
not_both false = refl

-- a conjunction with a repeated test
twice : (a b : Bool) → (a && (a && b)) ≡ (a && b)
twice true b = refl
twice false b = refl

-- the summary when all are settled, or only the delayed ones
pub told_settled : (some : (Bool → ℕ → Bool) → Bool) (leaks : Leaks) (today : ℕ) → Sums some → Told some leaks today → (all late : Bool) →
    Told (λ p. some (λ l from. not (all || (late && l)) && p l from)) (settled leaks all late) today
told_settled some leaks today sums told true late = record {
  delayed = sums.none;
  reached = λ day le. sums.none;
  missed = λ day le. sums.none;
  in_order = tt;
}
told_settled some leaks today sums told false true = record {
  delayed = sums.same (λ l _. not l && l) (λ _ _. false) (λ l _. not_both l) ∙ sums.none ∙ sym (and_false leaks.delayed);
  reached = λ day le.
      sums.same (λ l from. not l && (not l && nat_le day (from + REPAIR_DAYS))) (λ l from. not l && nat_le day (from + REPAIR_DAYS))
      (λ l from. twice (not l) (nat_le day (from + REPAIR_DAYS)))
      ∙ told.reached day le;
  missed = λ day le.
      sums.same (λ l from. not l && (not l && not (nat_le day (from + REPAIR_DAYS)))) (λ l from. not l && not (nat_le day (from + REPAIR_DAYS)))
      (λ l from. twice (not l) (not (nat_le day (from + REPAIR_DAYS))))
      ∙ told.missed day le;
  in_order = told.in_order;
}
told_settled some leaks today sums told false false = record {
  delayed = told.delayed ∙ sym (and_true leaks.delayed);
  reached = λ day le. told.reached day le;
  missed = λ day le. told.missed day le;
  in_order = told.in_order;
}

-- ---- a delay is added

-- delayed now or before
now_or_before : (a l : Bool) → (a || l) ≡ (l || (not l && a))
now_or_before true true = refl
now_or_before true false = refl
now_or_before false true = refl
now_or_before false false = refl

-- what an earlier delay does not reach, a later one does not reach
not_later : (t day from : ℕ) (l : Bool) → t ≤ day → (not (nat_le t from || l) && nat_le day from) ≡ false
not_later t day from l le = elim (cases_Bool (nat_le t from)) [
  | inl by ↦ rw by refl
  | inr past ↦ and_right (not (nat_le t from || l)) (nat_le day from) (lt-leb day from (omega (arith, le, leb-false t from past)))
]

-- a later delay misses exactly what the earlier one missed
missed_still : (t day from : ℕ) (l : Bool) → t ≤ day → (not (nat_le t from || l) && not (nat_le day from)) ≡ (not l && not (nat_le t from))
missed_still t day from l le = elim (cases_Bool (nat_le t from)) [
  | inl by ↦ rw by (sym (and_false (not l)))
  | inr past ↦ let later : nat_le day from ≡ false = lt-leb day from (omega (arith, le, leb-false t from past)) in rw (past, later) refl
]

-- leaks that a delay has missed are reached by no later one
none_reached : (waiting : Option Days) (t day : ℕ) → t ≤ day → reaches (missed_by waiting t) day ≡ false
none_reached None t day le = refl
none_reached (Some days) t day le = elim (cases_Bool (nat_le t (days.first + REPAIR_DAYS))) [
  | inl by ↦ rw by refl
  | inr past ↦
      let later : nat_le day (days.first + REPAIR_DAYS) ≡ false =
      lt-leb day (days.first + REPAIR_DAYS) (omega (arith, le, leb-false t (days.first + REPAIR_DAYS) past)) in
      rw (past, later) refl
]

-- leaks that a delay has missed are missed by each later one
all_missed : (waiting : Option Days) (t day : ℕ) → t ≤ day → misses waiting t ≡ misses (missed_by waiting t) day
all_missed None t day le = refl
all_missed (Some days) t day le = elim (cases_Bool (nat_le t (days.first + REPAIR_DAYS))) [
  | inl by ↦ rw by refl
  | inr past ↦
      let later : nat_le day (days.first + REPAIR_DAYS) ≡ false =
      lt-leb day (days.first + REPAIR_DAYS) (omega (arith, le, leb-false t (days.first + REPAIR_DAYS) past)) in
      rw (past, later) refl
]

-- the days of the missed leaks
missed_in_order : (waiting : Option Days) (today t : ℕ) → today ≤ t → IfSome waiting (λ days. (days.first ≤ days.last) × (days.last ≤ today)) →
    IfSome (missed_by waiting t) (λ days. (days.first ≤ days.last) × (days.last ≤ t))
missed_in_order None today t le h = tt
missed_in_order (Some days) today t le h = elim (cases_Bool (nat_le t (days.first + REPAIR_DAYS))) [
  | inl by ↦ rw by tt
  | inr past ↦ rw past (omega arith, omega (arith, h.0, h.1, le))
]

-- the summary after a delay, if there is one
pub told_reached : (some : (Bool → ℕ → Bool) → Bool) (leaks : Leaks) (today t : ℕ) → Sums some → today ≤ t → Told some leaks today → (delays : Bool) →
    Told (λ p. some (λ l from. p ((delays && nat_le t (from + REPAIR_DAYS)) || l) from)) (reached leaks delays t) t
told_reached some leaks today t sums le told true = record {
  delayed =
      sums.same (λ l from. nat_le t (from + REPAIR_DAYS) || l) (λ l from. l || (not l && nat_le t (from + REPAIR_DAYS)))
      (λ l from. now_or_before (nat_le t (from + REPAIR_DAYS)) l)
      ∙ sums.either (λ l _. l) (λ l from. not l && nat_le t (from + REPAIR_DAYS))
      ∙ ap (λ b. b || some (λ l from. not l && nat_le t (from + REPAIR_DAYS))) told.delayed
      ∙ ap (λ b. leaks.delayed || b) (told.reached t le);
  reached = λ day at.
      sums.same (λ l from. not (nat_le t (from + REPAIR_DAYS) || l) && nat_le day (from + REPAIR_DAYS)) (λ _ _. false)
      (λ l from. not_later t day (from + REPAIR_DAYS) l at)
      ∙ sums.none
      ∙ sym (none_reached leaks.waiting t day at);
  missed = λ day at.
      sums.same (λ l from. not (nat_le t (from + REPAIR_DAYS) || l) && not (nat_le day (from + REPAIR_DAYS)))
      (λ l from. not l && not (nat_le t (from + REPAIR_DAYS)))
      (λ l from. missed_still t day (from + REPAIR_DAYS) l at)
      ∙ told.missed t le
      ∙ all_missed leaks.waiting t day at;
  in_order = missed_in_order leaks.waiting today t le told.in_order;
}
told_reached some leaks today t sums le told false = record {
  delayed = told.delayed;
  reached = λ day at. told.reached day (omega (arith, le, at));
  missed = λ day at. told.missed day (omega (arith, le, at));
  in_order =
      if_some (λ days. (days.first ≤ days.last) × (days.last ≤ today)) (λ days. (days.first ≤ days.last) × (days.last ≤ t)) leaks.waiting
      (λ days h. (h.0, omega (arith, h.1, le))) told.in_order;
}

-- ---- a leak is added

-- a bound by one of two numbers is a bound by the larger
up_to_larger : (day a b : ℕ) → a ≤ b → (nat_le day a || nat_le day b) ≡ nat_le day b
up_to_larger day a b le = elim (cases_Bool (nat_le day a)) [
  | inl by ↦ let more : nat_le day b ≡ true = le-leb day b (omega (arith, le, leb-true day a by)) in rw (by, more) refl
  | inr past ↦ rw past refl
]

-- a number past one of two numbers is past the smaller
past_smaller : (day a b : ℕ) → a ≤ b → (not (nat_le day a) || not (nat_le day b)) ≡ not (nat_le day a)
past_smaller day a b le = elim (cases_Bool (nat_le day a)) [
  | inl by ↦ let more : nat_le day b ≡ true = le-leb day b (omega (arith, le, leb-true day a by)) in rw (by, more) refl
  | inr past ↦ rw past refl
]

module _ (t : ℕ) where
  -- a delay reaches some waiting leak, with one more
  reaches_more : (waiting : Option Days) (day : ℕ) → IfSome waiting (λ days. (days.first ≤ days.last) × (days.last ≤ t)) →
      (reaches waiting day || nat_le day (t + REPAIR_DAYS)) ≡ nat_le day (t + REPAIR_DAYS)
  reaches_more None day h = refl
  reaches_more (Some days) day h = up_to_larger day (days.last + REPAIR_DAYS) (t + REPAIR_DAYS) (omega (arith, h.1))

  -- a delay misses some waiting leak, with one more
  misses_more : (waiting : Option Days) (day : ℕ) → IfSome waiting (λ days. (days.first ≤ days.last) × (days.last ≤ t)) →
      (misses waiting day || not (nat_le day (t + REPAIR_DAYS))) ≡ not (nat_le day (first_with waiting t + REPAIR_DAYS))
  misses_more None day h = refl
  misses_more (Some days) day h = past_smaller day (days.first + REPAIR_DAYS) (t + REPAIR_DAYS) (omega (arith, h.0, h.1))

  -- the first of them
  first_by : (waiting : Option Days) → IfSome waiting (λ days. (days.first ≤ days.last) × (days.last ≤ t)) → first_with waiting t ≤ t
  first_by None h = omega arith
  first_by (Some days) h = omega (arith, h.0, h.1)

-- the summary with one more leak, if one is found
pub told_opened : (some : (Bool → ℕ → Bool) → Bool) (leaks : Leaks) (t : ℕ) → Told some leaks t → (opens : Bool) →
    Told (λ p. some p || (opens && p false t)) (opened leaks opens t) t
told_opened some leaks t told true = record {
  delayed = or_false (some (λ l _. l)) ∙ told.delayed;
  reached = λ day at. ap (λ b. b || nat_le day (t + REPAIR_DAYS)) (told.reached day at) ∙ reaches_more t leaks.waiting day told.in_order;
  missed = λ day at. ap (λ b. b || not (nat_le day (t + REPAIR_DAYS))) (told.missed day at) ∙ misses_more t leaks.waiting day told.in_order;
  in_order = (first_by t leaks.waiting told.in_order, omega arith);
}
told_opened some leaks t told false = record {
  delayed = or_false (some (λ l _. l)) ∙ told.delayed;
  reached = λ day at. or_false (some (λ l from. not l && nat_le day (from + REPAIR_DAYS))) ∙ told.reached day at;
  missed = λ day at. or_false (some (λ l from. not l && not (nat_le day (from + REPAIR_DAYS)))) ∙ told.missed day at;
  in_order = told.in_order;
}

-- ---- whether there is a leak

-- delayed, or reached, or missed
one_of_three : (l a : Bool) → true ≡ (l || ((not l && a) || (not l && not a)))
one_of_three true a = refl
one_of_three false true = refl
one_of_three false false = refl

-- a waiting leak is reached or missed
waiting_is : (waiting : Option Days) (today : ℕ) → IfSome waiting (λ days. (days.first ≤ days.last) × (days.last ≤ today)) →
    (reaches waiting today || misses waiting today) ≡ is_some waiting
waiting_is None today h = refl
waiting_is (Some days) today h = elim (cases_Bool (nat_le today (days.last + REPAIR_DAYS))) [
  | inl by ↦ rw by refl
  | inr past ↦
      let later : nat_le today (days.first + REPAIR_DAYS) ≡ false =
      lt-leb today (days.first + REPAIR_DAYS) (omega (arith, h.0, leb-false today (days.last + REPAIR_DAYS) past)) in
      rw (past, later) refl
]

-- some leak exists
pub told_any : (some : (Bool → ℕ → Bool) → Bool) (leaks : Leaks) (today : ℕ) → Sums some → Told some leaks today → some (λ _ _. true) ≡ has_leaks leaks
told_any some leaks today sums told =
    let near : Bool → ℕ → Bool = λ l from. not l && nat_le today (from + REPAIR_DAYS) in
    let far : Bool → ℕ → Bool = λ l from. not l && not (nat_le today (from + REPAIR_DAYS)) in
    sums.same (λ _ _. true) (λ l from. l || (near l from || far l from)) (λ l from. one_of_three l (nat_le today (from + REPAIR_DAYS)))
    ∙ sums.either (λ l _. l) (λ l from. near l from || far l from)
    ∙ ap (λ b. some (λ l _. l) || b) (sums.either near far)
    ∙ ap (λ b. b || (some near || some far)) told.delayed
    ∙ ap (λ b. leaks.delayed || (b || some far)) (told.reached today (omega arith))
    ∙ ap (λ b. leaks.delayed || (reaches leaks.waiting today || b)) (told.missed today (omega arith))
    ∙ ap (λ b. leaks.delayed || b) (waiting_is leaks.waiting today told.in_order)
