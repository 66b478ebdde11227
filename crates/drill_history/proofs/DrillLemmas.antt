-- The batches of a drill pass one after the other.
use Rattle.std.proofs.Common.{◌≡◌, ℕ, zero, suc, ◌+◌, ◌<◌, ◌≤◌, true, false, ◌||◌, nat_eq, nat_lt, List, [], ◌∷◌, ◌++◌, length, take, drop}
use Rattle.std.proofs.Common.{refl, sym, ap, ◌∙◌, subst, inl, inr, arith, reverse, codes}
use Rattle.std.proofs.lemmas.Bool.{or_left, or_right, cases_lt, eq-eqb, ne_eqb}
use Rattle.std.proofs.lemmas.List.{append-nil, append_assoc}
use Rattle.std.proofs.lemmas.Grind.{reverse_onto}
use Rattle.std.specs.List.{AllByRecursion, list_any, flat_map}
use Rattle.list_words.specs.Parts.{cut_up_to, cut}
use Rattle.list_words.proofs.Members.{all_append}
use Rattle.list_words.proofs.PartLemmas.{cut_joins}
use Rattle.ldar_days.specs.Calendar.{first_day, month_length, month_of}
use Rattle.fact_kinds.specs.declared.batch.Batch.{Batch}
use Rattle.fact_kinds.specs.declared.limits.TheConstants.{BATCH_FACTS}
use Rattle.fact_kinds.specs.Stated.{Stated}
use Rattle.ldar_law.specs.declared.numbers.TheConstants.{LAST_FACT_DAY}
use Rattle.ldar_law.specs.RegisterLaws.{enters_component, enters_unit}
use Rattle.history_laws.proofs.Counting.{list_any-append}
use Rattle.drill_history.specs.declared.numbers.TheConstants.{STARTUP, BEGIN, MONTHS}
use Rattle.drill_history.specs.Drill.{unit_fact, valve_fact, valves, register_facts_of, day_in, precision_in, calibration_in, reading_of, readings, month_facts, ppm_of}
use Rattle.drill_history.specs.Drill.{month_parts, numbered, register_batches, month_batches, drill_history}
use Rattle.drill_history.proofs.FactLemmas.{excludes, test_passes, calibration_passes, unit_passes, valve_passes, reading_passes}
use Rattle.drill_history.proofs.TurnLemmas.{Passes, PassInTurn, BatchesPass}

-- ---- lists that pass

turn_append : (done : List Stated) (handheld : ℕ) (xs ys : List Stated) → PassInTurn done handheld xs → PassInTurn (done ++ xs) handheld ys
    → PassInTurn done handheld (xs ++ ys)
turn_append done handheld [] ys first then = subst (λ front. PassInTurn front handheld ys) (append-nil done) then
turn_append done handheld (x ∷ xs) ys first then = (
  first.0,
  turn_append (done ++ x ∷ []) handheld xs ys first.1 (subst (λ front. PassInTurn front handheld ys) (sym (append_assoc done (x ∷ []) xs)) then),
)

turn_parts : (done : List Stated) (handheld : ℕ) (xs ys : List Stated) → PassInTurn done handheld (xs ++ ys)
    → PassInTurn done handheld xs × PassInTurn (done ++ xs) handheld ys
turn_parts done handheld [] ys pass = (tt, subst (λ front. PassInTurn front handheld ys) (sym (append-nil done)) pass)
turn_parts done handheld (x ∷ xs) ys pass =
    let rest = turn_parts (done ++ x ∷ []) handheld xs ys pass.1 in
    ((pass.0, rest.0), subst (λ front. PassInTurn front handheld ys) (append_assoc done (x ∷ []) xs) rest.1)

-- facts that pass one after the other do so in batches too
parts_pass : (done : List Stated) (handheld number : ℕ) (parts : List (List Stated)) → PassInTurn done handheld (flat_map (λ part. part) parts)
    → BatchesPass done (numbered handheld number parts)
parts_pass done handheld number [] pass = tt
parts_pass done handheld number (part ∷ parts) pass =
    let both = turn_parts done handheld part (flat_map (λ p. p) parts) pass in
    (both.0, parts_pass (done ++ part) handheld (number + 1) parts both.1)

-- the facts of some batches, one batch after the other
abbrev stated_in : List Batch → List Stated
stated_in batches = flat_map (λ b. b.facts) batches

batches_append : (done : List Stated) (front rest : List Batch) → BatchesPass done front → BatchesPass (done ++ stated_in front) rest
    → BatchesPass done (front ++ rest)
batches_append done [] rest first then = subst (λ d. BatchesPass d rest) (append-nil done) then
batches_append done (b ∷ front) rest first then = (
  first.0,
  batches_append (done ++ b.facts) front rest first.1 (subst (λ d. BatchesPass d rest) (sym (append_assoc done b.facts (stated_in front))) then),
)

-- the facts of numbered batches are those of their parts
numbered_state : (handheld number : ℕ) (parts : List (List Stated)) → stated_in (numbered handheld number parts) ≡ flat_map (λ part. part) parts
numbered_state handheld number [] = refl
numbered_state handheld number (part ∷ parts) = ap (λ rest. part ++ rest) (numbered_state handheld (number + 1) parts)

-- ---- the register

unit_there : (size : ℕ) → list_any (λ f. enters_unit 1 f.body) (unit_fact ∷ valves size) ≡ true
unit_there size = refl

-- the first valves have no greater number
no_valve : (size number : ℕ) → size < number → list_any (λ f. enters_component number f.body) (valves size) ≡ false
no_valve zero number less = refl
no_valve (suc size) number less =
    list_any-append (λ f. enters_component number f.body) (valves size) (valve_fact (suc size) ∷ [])
    ∙ rw (no_valve size number (omega arith), ne_eqb (suc size) number (omega arith)) refl

-- a number up to the size is that of a valve
some_valve : (size number : ℕ) → 1 ≤ number → number ≤ size → list_any (λ f. enters_component number f.body) (valves size) ≡ true
some_valve zero number low high = absurd (omega arith)
some_valve (suc size) number low high =
    list_any-append (λ f. enters_component number f.body) (valves size) (valve_fact (suc size) ∷ [])
    ∙ elim (cases_lt number (suc size)) [
      | inl below ↦ rw (some_valve size number low (omega (arith, below))) refl
      | inr last ↦ or_right (list_any (λ f. enters_component number f.body) (valves size)) (nat_eq (suc size) number || false)
          (or_left (nat_eq (suc size) number) false (eq-eqb (suc size) number (omega (arith, last, high))))
    ]

-- the unit and the valves exclude nothing
none_excluded : (size : ℕ) → list_any (λ f. excludes f.body) (valves size) ≡ false
none_excluded zero = refl
none_excluded (suc size) =
    list_any-append (λ f. excludes f.body) (valves size) (valve_fact (suc size) ∷ [])
    ∙ rw (none_excluded size) refl

unit_pass : Passes [] 0 unit_fact
unit_pass held earlier later key day own states =
    unit_passes [] held earlier later key (ap (nat_lt LAST_FACT_DAY) day) states STARTUP 0 1 false (codes "DRILL") own refl

valve_pass : (size : ℕ) → Passes (unit_fact ∷ valves size) 0 (valve_fact (suc size))
valve_pass size held earlier later key day own states =
    valve_passes (unit_fact ∷ valves size) held earlier later key (ap (nat_lt LAST_FACT_DAY) day) states BEGIN 0 (suc size) 1 own refl
    (no_valve size (suc size) (omega arith))

valves_pass : (size : ℕ) → PassInTurn (unit_fact ∷ []) 0 (valves size)
valves_pass zero = tt
valves_pass (suc size) = turn_append (unit_fact ∷ []) 0 (valves size) (valve_fact (suc size) ∷ []) (valves_pass size) (valve_pass size, tt)

register_pass : (size : ℕ) → BatchesPass [] (register_batches size)
unfolding register_batches
register_pass size =
    parts_pass [] 0 1 (cut BATCH_FACTS (register_facts_of size))
    (subst (PassInTurn [] 0) (sym (cut_joins Stated BATCH_FACTS (register_facts_of size) (omega arith))) (unit_pass, valves_pass size))

register_states : (size : ℕ) → stated_in (register_batches size) ≡ register_facts_of size
unfolding register_batches
register_states size =
    numbered_state 0 1 (cut BATCH_FACTS (register_facts_of size)) ∙ cut_joins Stated BATCH_FACTS (register_facts_of size) (omega arith)

-- ---- the months

-- the days of the months are early enough
days_in_time : (month : ℕ) → month ≤ 12 → nat_lt LAST_FACT_DAY (day_in month) ≡ false
unfolding first_day month_length month_of
days_in_time zero h = refl
days_in_time (suc zero) h = refl
days_in_time (suc (suc zero)) h = refl
days_in_time (suc (suc (suc zero))) h = refl
days_in_time (suc (suc (suc (suc zero)))) h = refl
days_in_time (suc (suc (suc (suc (suc zero))))) h = refl
days_in_time (suc (suc (suc (suc (suc (suc zero)))))) h = refl
days_in_time (suc (suc (suc (suc (suc (suc (suc zero))))))) h = refl
days_in_time (suc (suc (suc (suc (suc (suc (suc (suc zero)))))))) h = refl
days_in_time (suc (suc (suc (suc (suc (suc (suc (suc (suc zero))))))))) h = refl
days_in_time (suc (suc (suc (suc (suc (suc (suc (suc (suc (suc zero)))))))))) h = refl
days_in_time (suc (suc (suc (suc (suc (suc (suc (suc (suc (suc (suc zero))))))))))) h = refl
days_in_time (suc (suc (suc (suc (suc (suc (suc (suc (suc (suc (suc (suc zero)))))))))))) h = refl
days_in_time (suc (suc (suc (suc (suc (suc (suc (suc (suc (suc (suc (suc (suc month))))))))))))) h = absurd (omega arith)

-- the facts have the register's in front, and exclude nothing
pub record IsReady (size : ℕ) (done : List Stated) : Type 0 where
  pub valves : (number : ℕ) → 1 ≤ number → number ≤ size → list_any (λ f. enters_component number f.body) done ≡ true
  pub none : list_any (λ f. excludes f.body) done ≡ false

register_ready : (size : ℕ) → IsReady size (register_facts_of size)
register_ready size = record { valves = λ number low high. some_valve size number low high; none = none_excluded size }

-- a fact that passes whenever the register was entered, and enters nothing
pub record IsOfMonth (size : ℕ) (fact : Stated) : Type 0 where
  pub passes : (done : List Stated) → IsReady size done → Passes done 1 fact
  pub none : excludes fact.body ≡ false

ready_more : (size : ℕ) (done : List Stated) (fact : Stated) → IsReady size done → excludes fact.body ≡ false → IsReady size (done ++ fact ∷ [])
ready_more size done fact ready none = record {
  valves = λ number low high.
      list_any-append (λ f. enters_component number f.body) done (fact ∷ [])
      ∙ or_left (list_any (λ f. enters_component number f.body) done) (list_any (λ f. enters_component number f.body) (fact ∷ []))
      (ready.valves number low high);
  none = list_any-append (λ f. excludes f.body) done (fact ∷ []) ∙ rw (ready.none, none) refl;
}

facts_pass : (size : ℕ) (done facts : List Stated) → IsReady size done → AllByRecursion (IsOfMonth size) facts → PassInTurn done 1 facts
facts_pass size done [] ready all = tt
facts_pass size done (fact ∷ facts) ready all =
    (all.0.passes done ready, facts_pass size (done ++ fact ∷ []) facts (ready_more size done fact ready all.0.none) all.1)

ready_after : (size : ℕ) (done facts : List Stated) → IsReady size done → AllByRecursion (IsOfMonth size) facts → IsReady size (done ++ facts)
ready_after size done [] ready all = subst (IsReady size) (sym (append-nil done)) ready
ready_after size done (fact ∷ facts) ready all =
    subst (IsReady size) (append_assoc done (fact ∷ []) facts)
    (ready_after size (done ++ fact ∷ []) facts (ready_more size done fact ready all.0.none) all.1)

-- a batch of handheld 1 with facts of months
abbrev IsMonthBatch : ℕ → Batch → Type 0
IsMonthBatch size batch = (batch.handheld ≡ 1) × AllByRecursion (IsOfMonth size) batch.facts

months_pass : (size : ℕ) (done : List Stated) (batches : List Batch) → IsReady size done → AllByRecursion (IsMonthBatch size) batches → BatchesPass done batches
months_pass size done [] ready all = tt
months_pass size done (b ∷ batches) ready all = (
  subst (λ h. PassInTurn done h b.facts) (sym all.0.0) (facts_pass size done b.facts ready all.0.1),
  months_pass size (done ++ b.facts) batches (ready_after size done b.facts ready all.0.1) all.1,
)

reading_of_month : (size seed month number : ℕ) → month ≤ 12 → 1 ≤ number → number ≤ size → IsOfMonth size (reading_of seed month number)
reading_of_month size seed month number in_year low high = record {
  passes = λ done ready held earlier later key day own states.
      reading_passes done held earlier later key (ap (nat_lt LAST_FACT_DAY) day ∙ days_in_time month in_year) states (day_in month) 60 number (ppm_of seed month number)
      (ready.valves number low high) ready.none;
  none = refl;
}

precision_of_month : (size month : ℕ) → month ≤ 12 → IsOfMonth size (precision_in month)
precision_of_month size month in_year = record {
  passes = λ done ready held earlier later key day own states.
      test_passes done held earlier later key (ap (nat_lt LAST_FACT_DAY) day ∙ days_in_time month in_year) states (day_in month) 1 1 500 (500, 500, 500);
  none = refl;
}

calibration_of_month : (size month : ℕ) → month ≤ 12 → IsOfMonth size (calibration_in month)
calibration_of_month size month in_year = record {
  passes = λ done ready held earlier later key day own states.
      calibration_passes done held earlier later key (ap (nat_lt LAST_FACT_DAY) day ∙ days_in_time month in_year) states (day_in month) 2 1 500;
  none = refl;
}

readings_of_month : (size seed month count : ℕ) → month ≤ 12 → count ≤ size → AllByRecursion (IsOfMonth size) (readings seed month count)
readings_of_month size seed month zero in_year within = tt
readings_of_month size seed month (suc count) in_year within =
    all_append (IsOfMonth size) (readings seed month count) (reading_of seed month (suc count) ∷ [])
    (readings_of_month size seed month count in_year (omega arith))
    (reading_of_month size seed month (suc count) in_year (omega arith) within, tt)

facts_of_month : (size seed month : ℕ) → month ≤ 12 → AllByRecursion (IsOfMonth size) (month_facts seed size month)
facts_of_month size seed month in_year =
    (precision_of_month size month in_year, (calibration_of_month size month in_year, readings_of_month size seed month size in_year (omega arith)))

module _ {X : Type 0} (P : X → Type 0) where
  all_taken : (n : ℕ) (xs : List X) → AllByRecursion P xs → AllByRecursion P (take n xs)
  all_taken zero xs all = tt
  all_taken (suc n) [] all = tt
  all_taken (suc n) (x ∷ xs) all = (all.0, all_taken n xs all.1)

  all_dropped : (n : ℕ) (xs : List X) → AllByRecursion P xs → AllByRecursion P (drop n xs)
  all_dropped zero xs all = all
  all_dropped (suc n) [] all = tt
  all_dropped (suc n) (x ∷ xs) all = all_dropped n xs all.1

  -- a property of all elements is one of all elements of each part
  pub all_cut_up_to : (most n : ℕ) (xs : List X) → AllByRecursion P xs → AllByRecursion (AllByRecursion P) (cut_up_to most n xs)
  all_cut_up_to zero n xs all = tt
  all_cut_up_to (suc most) n [] all = tt
  all_cut_up_to (suc most) n (x ∷ xs) all = (all_taken n (x ∷ xs) all, all_cut_up_to most n (drop n (x ∷ xs)) (all_dropped n (x ∷ xs) all))

  pub all_reversed : (xs : List X) → AllByRecursion P xs → AllByRecursion P (reverse xs)
  all_reversed [] all = tt
  all_reversed (x ∷ xs) all = subst (AllByRecursion P) (sym (reverse_onto xs x [])) (all_append P (reverse xs) (x ∷ []) (all_reversed xs all.1) (all.0, tt))

parts_of_months : (size seed count : ℕ) → count ≤ 12 → AllByRecursion (AllByRecursion (IsOfMonth size)) (month_parts seed size count)
unfolding month_parts
parts_of_months size seed zero in_year = tt
parts_of_months size seed (suc count) in_year =
    all_append (AllByRecursion (IsOfMonth size)) (month_parts seed size count) (cut BATCH_FACTS (month_facts seed size (suc count)))
    (parts_of_months size seed count (omega arith))
    (all_cut_up_to (IsOfMonth size) (length (month_facts seed size (suc count))) BATCH_FACTS (month_facts seed size (suc count))
    (facts_of_month size seed (suc count) in_year))

numbered_months : (size number : ℕ) (parts : List (List Stated)) → AllByRecursion (AllByRecursion (IsOfMonth size)) parts
    → AllByRecursion (IsMonthBatch size) (numbered 1 number parts)
numbered_months size number [] all = tt
numbered_months size number (part ∷ parts) all = ((refl, all.0), numbered_months size (number + 1) parts all.1)

month_batches_are : (seed size : ℕ) → AllByRecursion (IsMonthBatch size) (month_batches seed size)
unfolding month_batches
month_batches_are seed size = numbered_months size 1 (month_parts seed size MONTHS) (parts_of_months size seed MONTHS (omega arith))

-- ---- all batches

-- the batches pass one after the other
pub drill_passes : (seed size : ℕ) → BatchesPass [] (drill_history seed size)
unfolding drill_history
drill_passes seed size =
    batches_append [] (register_batches size) (reverse (month_batches seed size)) (register_pass size)
    (subst (λ done. BatchesPass done (reverse (month_batches seed size))) (sym (register_states size))
    (months_pass size (register_facts_of size) (reverse (month_batches seed size)) (register_ready size)
    (all_reversed (IsMonthBatch size) (month_batches seed size) (month_batches_are seed size))))
