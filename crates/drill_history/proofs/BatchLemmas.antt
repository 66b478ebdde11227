-- Batches with consecutive numbers.
use Rattle.std.proofs.Common.{◌≡◌, ℕ, suc, ◌+◌, ◌<◌, min, List, [], ◌∷◌, ◌++◌, length, take, drop, refl, sym, ap, ◌∙◌, inl, inr, arith, append_assoc, length-append}
use Rattle.std.proofs.lemmas.Bool.{cases_lt}
use Rattle.std.proofs.lemmas.List.{take_all, drop_all}
use Rattle.list_words.specs.Parts.{cut}
use Rattle.list_words.proofs.PartLemmas.{cut_step}
use Rattle.fact_kinds.specs.declared.batch.Batch.{Batch}
use Rattle.fact_kinds.specs.declared.limits.TheConstants.{BATCH_FACTS}
use Rattle.fact_kinds.specs.Stated.{Stated}
use Rattle.drill_history.specs.Drill.{month_facts, month_parts, numbered}

module _ {X : Type 0} (n m : ℕ) (xs : List X) (least : m ≡ min (length xs) n) where
  -- taking at most the length takes as many
  take_least : take m xs ≡ take n xs
  take_least = elim (cases_lt (length xs) n) [
    | inl short ↦ take_all m xs (omega (arith, least, short)) ∙ sym (take_all n xs (omega (arith, short)))
    | inr long ↦ ap (λ k. take k xs) (omega (arith, least, long))
  ]

  -- dropping at most the length leaves as many
  drop_least : drop m xs ≡ drop n xs
  drop_least = elim (cases_lt (length xs) n) [
    | inl short ↦ drop_all m xs (omega (arith, least, short)) ∙ sym (drop_all n xs (omega (arith, short)))
    | inr long ↦ ap (λ k. drop k xs) (omega (arith, least, long))
  ]

-- the next batch has the first m of the remaining facts
pub next_batch : (handheld number m : ℕ) (rest part others : List Stated) (batches more : List Batch) → 0 < length rest → m ≡ min (length rest) BATCH_FACTS
    → part ≡ take m rest → others ≡ drop m rest → number ≡ length batches + 1
    → more ≡ batches ++ record { handheld = handheld; number = number; facts = part } ∷ []
    → more ++ numbered handheld (length more + 1) (cut BATCH_FACTS others) ≡ batches ++ numbered handheld (length batches + 1) (cut BATCH_FACTS rest)
next_batch handheld number m rest part others batches more left least front back next pushed =
    let part_is : part ≡ take BATCH_FACTS rest = front ∙ take_least BATCH_FACTS m rest least in
    let others_are : others ≡ drop BATCH_FACTS rest = back ∙ drop_least BATCH_FACTS m rest least in
    let first : Batch = record { handheld = handheld; number = length batches + 1; facts = take BATCH_FACTS rest } in
    let grown : more ≡ batches ++ first ∷ [] = pushed ∙ rw (next, part_is) refl in
    let longer : length more ≡ length batches + 1 = ap length grown ∙ length-append batches (first ∷ []) in
    ap (λ n. more ++ numbered handheld (n + 1) (cut BATCH_FACTS others)) longer
    ∙ ap (λ rest. more ++ numbered handheld (length batches + 1 + 1) (cut BATCH_FACTS rest)) others_are
    ∙ ap (λ bs. bs ++ numbered handheld (length batches + 1 + 1) (cut BATCH_FACTS (drop BATCH_FACTS rest))) grown
    ∙ append_assoc batches (first ∷ []) (numbered handheld (length batches + 1 + 1) (cut BATCH_FACTS (drop BATCH_FACTS rest)))
    ∙ sym (ap (λ parts. batches ++ numbered handheld (length batches + 1) parts) (cut_step BATCH_FACTS rest (omega arith) left))

-- the numbers go on over two lists of parts
numbered_append : (handheld number : ℕ) (parts more : List (List Stated))
    → numbered handheld number (parts ++ more) ≡ numbered handheld number parts ++ numbered handheld (number + length parts) more
numbered_append handheld number [] more = ap (λ n. numbered handheld n more) (omega arith)
numbered_append handheld number (part ∷ parts) more =
    ap (λ rest. record { handheld = handheld; number = number; facts = part } ∷ rest)
    (numbered_append handheld (number + 1) parts more
    ∙ ap (λ n. numbered handheld (number + 1) parts ++ numbered handheld n more) (omega arith))

numbered_length : (handheld number : ℕ) (parts : List (List Stated)) → length (numbered handheld number parts) ≡ length parts
numbered_length handheld number [] = refl
numbered_length handheld number (part ∷ parts) = omega (arith, numbered_length handheld (number + 1) parts)

-- the batches of one month more
pub one_more_month : (seed size past : ℕ) (facts : List Stated) (batches more : List Batch) → batches ≡ numbered 1 1 (month_parts seed size past)
    → facts ≡ month_facts seed size (past + 1) → more ≡ batches ++ numbered 1 (length batches + 1) (cut BATCH_FACTS facts)
    → more ≡ numbered 1 1 (month_parts seed size (past + 1))
unfolding month_parts
one_more_month seed size past facts batches more made month put =
    let next : past + 1 ≡ suc past = omega arith in
    let as_many : length batches ≡ length (month_parts seed size past) = ap length made ∙ numbered_length 1 1 (month_parts seed size past) in
    put
    ∙ ap (λ bs. bs ++ numbered 1 (length batches + 1) (cut BATCH_FACTS facts)) made
    ∙ ap (λ n. numbered 1 1 (month_parts seed size past) ++ numbered 1 n (cut BATCH_FACTS facts)) (omega (arith, as_many))
    ∙ ap (λ fs. numbered 1 1 (month_parts seed size past) ++ numbered 1 (1 + length (month_parts seed size past)) (cut BATCH_FACTS fs)) (month ∙ ap (month_facts seed size) next)
    ∙ sym (numbered_append 1 1 (month_parts seed size past) (cut BATCH_FACTS (month_facts seed size (suc past))))
    ∙ ap (λ n. numbered 1 1 (month_parts seed size n)) (sym next)
