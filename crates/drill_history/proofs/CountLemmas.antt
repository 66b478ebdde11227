-- The number of facts of a drill.
use Rattle.std.proofs.Common.{◌≡◌, ℕ, zero, suc, ◌+◌, ◌*◌, List, [], ◌∷◌, length, refl, sym, ap, ◌∙◌, arith, length-append, reverse}
use Rattle.std.specs.List.{sum_by}
use Rattle.std.proofs.lemmas.List.Concat.{length-flat_map}
use Rattle.std.proofs.lemmas.List.Sums.{sum_by-cons, sum_by-append}
use Rattle.std.proofs.lemmas.List.Sorted.{sum_by-IsPermutation, IsPermutation-reverse}
use Rattle.list_words.specs.Parts.{cut}
use Rattle.list_words.proofs.PartLemmas.{cut_joins}
use Rattle.fact_kinds.specs.declared.batch.Batch.{Batch}
use Rattle.fact_kinds.specs.declared.limits.TheConstants.{BATCH_FACTS}
use Rattle.fact_kinds.specs.Stated.{Stated}
use Rattle.fact_kinds.proofs.OrderFree.{facts_count}
use Rattle.drill_history.specs.declared.numbers.TheConstants.{MONTHS}
use Rattle.drill_history.specs.Drill.{valve_fact, valves, register_facts_of, reading_of, readings, month_facts, month_parts, numbered}
use Rattle.drill_history.specs.Drill.{register_batches, month_batches, drill_history}
use Rattle.drill_history.specs.Laws.{DrillCounts}

abbrev facts_in : List Batch → ℕ
facts_in batches = sum_by (λ b. length b.facts) batches

abbrev facts_in_parts : List (List Stated) → ℕ
facts_in_parts parts = sum_by (λ part. length part) parts

-- numbered batches have as many facts as their parts
numbered_count : (handheld number : ℕ) (parts : List (List Stated)) → facts_in (numbered handheld number parts) ≡ facts_in_parts parts
numbered_count handheld number [] = refl
numbered_count handheld number (part ∷ parts) =
    sum_by-cons (λ b. length b.facts) (record { handheld = handheld; number = number; facts = part }) (numbered handheld (number + 1) parts)
    ∙ ap (λ n. length part + n) (numbered_count handheld (number + 1) parts)
    ∙ sym (sum_by-cons (λ p. length p) part parts)

-- the parts of a list have as many facts as the list
cut_count : (facts : List Stated) → facts_in_parts (cut BATCH_FACTS facts) ≡ length facts
cut_count facts = sym (length-flat_map (λ part. part) (cut BATCH_FACTS facts)) ∙ ap length (cut_joins Stated BATCH_FACTS facts (omega arith))

pub valves_count : (size : ℕ) → length (valves size) ≡ size
valves_count zero = refl
valves_count (suc size) = omega (arith, length-append (valves size) (valve_fact (suc size) ∷ []), valves_count size)

pub readings_count : (seed month count : ℕ) → length (readings seed month count) ≡ count
readings_count seed month zero = refl
readings_count seed month (suc count) =
    omega (arith, length-append (readings seed month count) (reading_of seed month (suc count) ∷ []), readings_count seed month count)

months_count : (seed size count : ℕ) → facts_in_parts (month_parts seed size count) ≡ count * (size + 2)
unfolding month_parts
months_count seed size zero = omega arith
months_count seed size (suc count) =
    let split = sum_by-append (λ part. length part) (month_parts seed size count) (cut BATCH_FACTS (month_facts seed size (suc count))) in
    let last = cut_count (month_facts seed size (suc count)) in
    let length_of = readings_count seed (suc count) size in
    let more : suc count * (size + 2) ≡ count * (size + 2) + (size + 2) = omega arith in
    omega (arith, split, last, length_of, more, months_count seed size count)

pub drill_counts : DrillCounts
unfolding drill_history register_batches month_batches
drill_counts seed size =
    let all = facts_count (drill_history seed size) in
    let split = sum_by-append (λ (b : Batch). length b.facts) (register_batches size) (reverse (month_batches seed size)) in
    let register = numbered_count 0 1 (cut BATCH_FACTS (register_facts_of size)) ∙ cut_count (register_facts_of size) in
    let months =
    sum_by-IsPermutation (λ (b : Batch). length b.facts) (month_batches seed size) (reverse (month_batches seed size)) (IsPermutation-reverse (month_batches seed size))
    ∙ numbered_count 1 1 (month_parts seed size MONTHS)
    ∙ months_count seed size MONTHS in
    omega (arith, all, split, register, months, valves_count size)
